-- The text has no refusal if and only if the cut is its only derivation.
use Rattle.std.proofs.Common.{◌≡◌, ◌-◌, ℕ, Bool, List, length, take, drop, Some, ap, sym, ◌∙◌, subst, None, arith}
use Rattle.std.proofs.lemmas.List.{length-drop}
use Rattle.std.specs.Str.{chars}
use Rattle.litrs_base.specs.Derivations.{IsOnlyDerivation}
use Rattle.litrs_grammar.specs.Float.{FloatParts, IsFloatOf, has_wrong_fraction, float_refusal}
use Rattle.litrs_grammar.specs.Literal.{kind_parse, float_literal}
use Rattle.litrs_grammar.proofs.Laws.Float.{only_cut}
use Rattle.litrs_grammar.proofs.Refused.{is_refused}
use Rattle.litrs_lex.proofs.IntegerBytes.{digit-chars}
use Rattle.litrs_lex.proofs.FloatBytes.{parts_of_cut, places_of_cut, in_order, rest_is, refusal_of_digit, refusal_of_fraction, wrong_fraction_within}
use Rattle.litrs_lex.proofs.float.cut_float_at.Goals as goal

wrong_fraction : (input bytes : List ℕ) (n : ℕ) (v : Bool) → bytes ≡ input → v ≡ has_wrong_fraction (take (length bytes - n) (drop n bytes)) → has_wrong_fraction (drop n input) ≡ v
wrong_fraction input bytes n v same is = ap has_wrong_fraction (sym (rest_is bytes input n same)) ∙ sym is

pub overflow_add-place : goal.overflow_add-place
overflow_add-place c =
    let wrong = wrong_fraction c.args.input.now c.as_bytes.result.now c.args.end_integer _ c.as_bytes.ensures.value (sym c.if-has_wrong_fraction.true ∙ c.has_wrong_fraction.ensures) in
    let within = wrong_fraction_within (drop c.args.end_integer c.args.input.now) wrong in
    omega (arith, length-drop c.args.end_integer c.args.input.now, c.as_bytes.ensures.len)

pub returns-then-has_wrong_fraction-clause-refused : goal.returns-then-has_wrong_fraction-clause-refused
returns-then-has_wrong_fraction-clause-refused c =
    let input = c.args.input.now in
    let wrong = wrong_fraction input c.as_bytes.result.now c.args.end_integer _ c.as_bytes.ensures.value (sym c.if-has_wrong_fraction.true ∙ c.has_wrong_fraction.ensures) in
    is_refused (kind_parse float_literal) (chars input) c.in_text.result
    (refusal_of_digit (chars input) (digit-chars input c.utf8.input ∙ c.requires.digit)
    ∙ (refusal_of_fraction input c.args.end_integer c.utf8.input c.requires.integer wrong ∙ ap Some (sym c.in_text.ensures.refusal)))
    c.in_text.ensures.char_span

pub cut_refusal-requires-clause-fraction : goal.cut_refusal-requires-clause-fraction
cut_refusal-requires-clause-fraction c =
    let input = c.args.input.now in
    ap (λ n. has_wrong_fraction (drop n input)) (c.cut_parts-cut.ensures.integer ∙ sym c.requires.integer)
    ∙ wrong_fraction input c.as_bytes.result.now c.args.end_integer _ c.as_bytes.ensures.value (sym c.if-has_wrong_fraction.false ∙ c.has_wrong_fraction.ensures)

pub returns-in-None-clause-ok : goal.returns-in-None-clause-ok
returns-in-None-clause-ok c =
    let text = chars c.args.input.now in
    let free : float_refusal text ≡ None = refusal_of_digit text (digit-chars c.args.input.now c.utf8.input ∙ c.requires.digit) ∙ sym c.in-None.ensures in
    subst (λ (d : FloatParts). IsOnlyDerivation (IsFloatOf text) d) (parts_of_cut c.cut_parts-cut.result c.args.input.now c.utf8.input c.cut_parts-cut.ensures) (only_cut text free)

pub returns-in-None-clause-places : goal.returns-in-None-clause-places
returns-in-None-clause-places c = places_of_cut c.cut_parts-cut.result c.args.input.now c.utf8.input c.cut_parts-cut.ensures

pub in_text-requires-in-Some : goal.in_text-requires-in-Some
in_text-requires-in-Some c = in_order (chars c.args.input.now) c.in-Some.span c.in-Some.kind
    (refusal_of_digit (chars c.args.input.now) (digit-chars c.args.input.now c.utf8.input ∙ c.requires.digit) ∙ sym c.in-Some.ensures)

pub returns-in-Some-clause-refused : goal.returns-in-Some-clause-refused
returns-in-Some-clause-refused c =
    is_refused (kind_parse float_literal) (chars c.args.input.now) c.in_text-in-Some.result
    (refusal_of_digit (chars c.args.input.now) (digit-chars c.args.input.now c.utf8.input ∙ c.requires.digit) ∙ (sym c.in-Some.ensures ∙ ap Some (sym c.in_text-in-Some.ensures.refusal)))
    c.in_text-in-Some.ensures.char_span
