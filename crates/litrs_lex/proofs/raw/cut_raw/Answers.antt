-- The opening and the body, with the refusal of either.
use Rattle.std.proofs.Common.{ℕ, Option, Some, sym, ap, ◌∙◌}
use Rattle.std.specs.declared.ops.Range.{Range}
use Rattle.std.proofs.lemmas.Result.{err_from_is_err_and}
use Rattle.std.proofs.lemmas.Str.{IsUtf8-drop}
use Rattle.litrs_base.specs.declared.err.ParseErrorKind.{ParseErrorKind}
use Rattle.litrs_base.specs.Refusal.{refusal}
use Rattle.litrs_lex.proofs.RawBytes.{body_refusal_is, raw_cut}
use Rattle.litrs_lex.proofs.raw.cut_raw.Goals as goal

pub returns-in_err-hashes-clause-refused : goal.returns-in_err-hashes-clause-refused
returns-in_err-hashes-clause-refused c =
    let p = err_from_is_err_and c.from_residual.result c.from_residual.ensures.1 in
    rw (p.1) (c.in_err-hashes.ensures.refused c.args.allowed.unicode c.args.allowed.allow_nul
    ∙ ap (λ (r : Option (Range ℕ) × ParseErrorKind). Some (refusal r.0 r.1)) (sym p.2))

pub returns-in_err-place-clause-refused : goal.returns-in_err-place-clause-refused
returns-in_err-place-clause-refused c =
    let text = c.args.input.now in
    let offset = c.args.offset in
    let p = err_from_is_err_and c.from_residual-in_err-place.result c.from_residual-in_err-place.ensures.1 in
    rw (p.1) (body_refusal_is c.args.allowed.unicode c.args.allowed.allow_nul offset _ _ text (IsUtf8-drop text offset c.utf8.input c.requires) c.in_ok-hashes.ensures.ok
    ∙ (c.in_err-place.ensures.refused ∙ ap (λ (r : Option (Range ℕ) × ParseErrorKind). Some (refusal r.0 r.1)) (sym p.2)))

pub returns-clause-ok : goal.returns-clause-ok
returns-clause-ok c =
    let text = c.args.input.now in
    let offset = c.args.offset in
    raw_cut c.args.allowed.unicode c.args.allowed.allow_nul offset _ _ c.in_ok-place.place text (IsUtf8-drop text offset c.utf8.input c.requires) c.in_ok-hashes.ensures.ok c.in_ok-place.ensures.ok
