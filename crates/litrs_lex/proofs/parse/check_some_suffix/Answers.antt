-- The first byte decides whether the first character is an ASCII symbol.
use Rattle.std.proofs.Common.{◌≡◌, Some, None, sym, ap, ◌∙◌, slice_get}
use Rattle.std.specs.Option.{option_copied}
use Rattle.litrs_grammar.specs.Suffix.{is_ascii_symbol}
use Rattle.litrs_lex.proofs.SuffixBytes.{first_passes_at, first_passes_nowhere, suffix_kind-symbol, suffix_kind-other}
use Rattle.litrs_lex.proofs.parse.check_some_suffix.Goals as goal

pub returns-in-Some-clause-err : goal.returns-in-Some-clause-err
returns-in-Some-clause-err c =
    let first : slice_get c.args.s.now 0 ≡ Some c.in-Some.first.now = ap (λ bs. slice_get bs 0) (sym c.as_bytes.ensures.value) ∙ sym c.in-Some.ensures.value in
    sym (suffix_kind-symbol c.args.s.now c.utf8.s (first_passes_at is_ascii_symbol c.args.s.now c.in-Some.first.now first ∙ sym c.if-is_ascii_symbol.ensures))

pub returns-in_default-clause-err : goal.returns-in_default-clause-err
returns-in_default-clause-err c =
    let first : slice_get c.args.s.now 0 ≡ Some c.in-Some.first.now = ap (λ bs. slice_get bs 0) (sym c.as_bytes.ensures.value) ∙ sym c.in-Some.ensures.value in
    sym (suffix_kind-other c.args.s.now c.utf8.s (first_passes_at is_ascii_symbol c.args.s.now c.in-Some.first.now first ∙ sym c.if-is_ascii_symbol.ensures))

pub returns-in_default-2-clause-err : goal.returns-in_default-2-clause-err
returns-in_default-2-clause-err c =
    let first : slice_get c.args.s.now 0 ≡ None =
    ap (λ bs. slice_get bs 0) (sym c.as_bytes.ensures.value) ∙ (sym c.first.ensures.value ∙ ap option_copied c.in_default.is) in
    sym (suffix_kind-other c.args.s.now c.utf8.s (first_passes_nowhere is_ascii_symbol c.args.s.now first))
