use Rattle.std.proofs.Common.{◌≡◌, ℕ, length, Option, sym, ap, subst, ◌∙◌}
use Rattle.std.specs.Prelude.{chars, unwrap_or}
use Rattle.std.specs.declared.ops.Range.{Range}
use Rattle.std.proofs.lemmas.Str.{encodes-chars}
use Rattle.litrs_base.specs.CharEnd.{IsCutBy}
use Rattle.litrs_base.specs.Refusal.{marked_span}
use Rattle.litrs_base.specs.Text.{byte_len}
use Rattle.litrs_base.proofs.CharEnds.{marked_span_cuts}
use Rattle.litrs_base.proofs.err.ParseError.marked_span.Goals as goal

abbrev whole : ℕ → Range ℕ
whole len = record { start = 0; end = len }

pub returns-in-None-clause-span : goal.returns-in-None-clause-span
returns-in-None-clause-span c =
    let size : length c.args.text.now ≡ byte_len (chars c.args.text.now) = ap length (sym (encodes-chars c.args.text.now c.utf8.text)) in
    ap whole size ∙ ap (λ (o : Option (Range ℕ)). unwrap_or o (whole (byte_len (chars c.args.text.now)))) c.in-None.ensures

pub returns-in-None-clause-cuts : goal.returns-in-None-clause-cuts
returns-in-None-clause-cuts c = λ all.
    subst (IsCutBy c.args.text.now) (sym (returns-in-None-clause-span c)) (marked_span_cuts c.args.text.now c.args.self.now c.utf8.text all)

pub returns-in-Some-clause-cuts : goal.returns-in-Some-clause-cuts
returns-in-Some-clause-cuts c = λ all.
    let same : c.in-Some.span ≡ marked_span (chars c.args.text.now) c.args.self.now =
    ap (λ (o : Option (Range ℕ)). unwrap_or o (whole (byte_len (chars c.args.text.now)))) c.in-Some.ensures in
    subst (IsCutBy c.args.text.now) (sym same) (marked_span_cuts c.args.text.now c.args.self.now c.utf8.text all)
