-- The value.
use Rattle.std.proofs.Common.{◌≡◌, ◌+◌, ap, ◌∙◌, sym, Some, drop}
use Rattle.std.proofs.lemmas.Bool.{false_from_ne_true}
use Rattle.std.proofs.lemmas.List.{length-take-le}
use Rattle.litrs_base.specs.Characters.{nul_is_allowed, is_scalar}
use Rattle.litrs_base.specs.Refusal.{spanning}
use Rattle.litrs_base.specs.declared.err.ParseErrorKind.TheVariants.{DisallowedNulEscape, InvalidUnicodeEscapeChar}
use Rattle.litrs_lex.proofs.EscapeBytes.{has_refusal, unicode_on, scalar_by}
use Rattle.litrs_lex.proofs.UnicodeEscapeBytes.{braced, digit_text, closed_text, value_nul_row, value_row, unicode_read}
use Rattle.litrs_lex.proofs.escape.unescape_digits.Goals as goal

pub returns-then-not-allows_value-clause-refused : goal.returns-then-not-allows_value-clause-refused
returns-then-not-allows_value-clause-refused c =
    let b = braced c.args.input.now c.utf8.input c.requires.begins in
    let d = c.requires.digits in
    let closed = closed_text c.args.input.now _ _ (digit_text c.args.input.now c.args.digits b d) c.requires.closed in
    let size = length-take-le c.args.digits.len (drop 3 c.args.input.now) d.within in
    rw (unicode_on c.args.allowed c.requires.unicode) (has_refusal _ _ c.in_text.result
    (value_nul_row c.args.allowed.byte_escapes c.args.allowed.allow_nul c.args.input.now _ b closed d.few (ap (nul_is_allowed c.args.allowed.allow_nul) d.value ∙ sym c.if-not-allows_value.ensures)
    ∙ (ap (λ n. Some (spanning 0 (4 + n) DisallowedNulEscape)) size ∙ ap Some (sym c.in_text.ensures.refusal)))
    c.in_text.ensures.char_span)

pub returns-in-Some-clause-ok : goal.returns-in-Some-clause-ok
returns-in-Some-clause-ok c =
    let b = braced c.args.input.now c.utf8.input c.requires.begins in
    let d = c.requires.digits in
    let closed = closed_text c.args.input.now _ _ (digit_text c.args.input.now c.args.digits b d) c.requires.closed in
    let same : c.args.digits.value ≡ c.in-Some.value = sym c.in-Some.ensures.value.1 in
    rw (unicode_on c.args.allowed c.requires.unicode) (unicode_read c.args.allowed.byte_escapes c.args.allowed.allow_nul c.args.input.now _ c.in-Some.value c.args.digits.len c.utf8.input b closed d.few (d.value ∙ same)
    (length-take-le c.args.digits.len (drop 3 c.args.input.now) d.within)
    (ap (nul_is_allowed c.args.allowed.allow_nul) (sym same) ∙ sym c.if-not-allows_value.ensures)
    (ap is_scalar (sym same) ∙ scalar_by c.args.digits.value c.in-Some.ensures.value.0))

pub returns-in-None-clause-refused : goal.returns-in-None-clause-refused
returns-in-None-clause-refused c =
    let b = braced c.args.input.now c.utf8.input c.requires.begins in
    let d = c.requires.digits in
    let closed = closed_text c.args.input.now _ _ (digit_text c.args.input.now c.args.digits b d) c.requires.closed in
    let size = length-take-le c.args.digits.len (drop 3 c.args.input.now) d.within in
    rw (unicode_on c.args.allowed c.requires.unicode) (has_refusal _ _ c.in_text-in-None.result
    (value_row c.args.allowed.byte_escapes c.args.allowed.allow_nul c.args.input.now _ b closed d.few (ap (nul_is_allowed c.args.allowed.allow_nul) d.value ∙ sym c.if-not-allows_value.ensures)
    (ap is_scalar d.value ∙ false_from_ne_true _ (λ is. c.in-None.ensures.value is))
    ∙ (ap (λ n. Some (spanning 0 (4 + n) InvalidUnicodeEscapeChar)) size ∙ ap Some (sym c.in_text-in-None.ensures.refusal)))
    c.in_text-in-None.ensures.char_span)
