-- Each exit by its row.
use Rattle.std.proofs.Common.{◌≡◌, ◌+◌, ap, ◌∙◌, sym, Some, false, true, drop}
use Rattle.litrs_lex.proofs.FloatBytes.{rest_is}
use Rattle.std.proofs.lemmas.List.{length-take-le}
use Rattle.std.specs.Prelude.{◌==◌}
use Rattle.std.specs.Char.{is_ascii_hexdigit}
use Rattle.std.specs.List.{list_any}
use Rattle.std.proofs.lemmas.Bool.{true≢false, false_from_ne_true}
use Rattle.litrs_base.specs.Refusal.{at_byte}
use Rattle.litrs_base.specs.Text.{first_passes}
use Rattle.litrs_base.specs.declared.err.ParseErrorKind.TheVariants.{TooManyDigitInUnicodeEscape, NonHexDigitInUnicodeEscape}
use Rattle.litrs_lex.proofs.EscapeBytes.{has_refusal, digit_or_underscore}
use Rattle.litrs_lex.proofs.UnicodeEscapeBytes.{braced, any_after, digit_text, unclosed_row, start_row, stopped, many_row, nonhex_row, is_wrong_start}
use Rattle.litrs_lex.proofs.escape.unicode_escape_refusal.Goals as goal

pub returns-then-not-has_byte : goal.returns-then-not-has_byte
returns-then-not-has_byte c = λ byte_escapes allow_nul.
    let b = braced c.args.input.now c.utf8.input c.requires.begins in
    let same = rest_is c.as_bytes.result.now c.args.input.now 3 c.as_bytes.ensures.value in
    let after = rest_is _ (drop 3 c.args.input.now) c.args.digits.len same in
    has_refusal _ _ c.in_text.result
    (unclosed_row byte_escapes allow_nul c.args.input.now b
    (any_after _ _ c.requires.digits ∙ ap (list_any (λ n. n == 125)) (sym after) ∙ sym c.if-not-has_byte.ensures) ∙ ap Some (sym c.in_text.ensures.refusal))
    c.in_text.ensures.char_span

pub returns-then-begins_wrongly : goal.returns-then-begins_wrongly
returns-then-begins_wrongly c = λ byte_escapes allow_nul.
    let b = braced c.args.input.now c.utf8.input c.requires.begins in
    let same = rest_is c.as_bytes.result.now c.args.input.now 3 c.as_bytes.ensures.value in
    let after = rest_is _ (drop 3 c.args.input.now) c.args.digits.len same in
    has_refusal _ _ c.in_text-then-begins_wrongly.result
    (start_row byte_escapes allow_nul c.args.input.now b
    (any_after _ _ c.requires.digits ∙ ap (list_any (λ n. n == 125)) (sym after) ∙ sym c.if-not-has_byte.ensures)
    (ap (first_passes is_wrong_start) (sym same) ∙ sym c.if-begins_wrongly.ensures)
    ∙ ap Some (sym c.in_text-then-begins_wrongly.ensures.refusal))
    c.in_text-then-begins_wrongly.ensures.char_span

pub returns-then-begins_with_hex_digit : goal.returns-then-begins_with_hex_digit
returns-then-begins_with_hex_digit c = λ byte_escapes allow_nul.
    let b = braced c.args.input.now c.utf8.input c.requires.begins in
    let same = rest_is c.as_bytes.result.now c.args.input.now 3 c.as_bytes.ensures.value in
    let d = c.requires.digits in
    let digits = digit_text c.args.input.now c.args.digits b d in
    let size = length-take-le c.args.digits.len (drop 3 c.args.input.now) d.within in
    let after = rest_is _ (drop 3 c.args.input.now) c.args.digits.len same in
    let any = any_after _ _ d ∙ ap (list_any (λ n. n == 125)) (sym after) ∙ sym c.if-not-has_byte.ensures in
    let right = ap (first_passes is_wrong_start) (sym same) ∙ sym c.if-begins_wrongly.ensures in
    let digit : first_passes is_ascii_hexdigit (drop c.args.digits.len (drop 3 c.args.input.now)) ≡ true =
    ap (first_passes is_ascii_hexdigit) (sym after) ∙ sym c.if-begins_with_hex_digit.ensures in
    has_refusal _ _ c.in_text-then-begins_with_hex_digit.result
    (many_row byte_escapes allow_nul c.args.input.now _ _ b digits (stopped c.args.input.now _ _ b digits any right c.requires.open) (d.stops (digit_or_underscore (drop c.args.digits.len (drop 3 c.args.input.now)) digit)).1 digit
    ∙ (ap (λ n. Some (at_byte (3 + n) TooManyDigitInUnicodeEscape)) size ∙ ap Some (sym c.in_text-then-begins_with_hex_digit.ensures.refusal)))
    c.in_text-then-begins_with_hex_digit.ensures.char_span

pub returns-else-begins_with_hex_digit : goal.returns-else-begins_with_hex_digit
returns-else-begins_with_hex_digit c = λ byte_escapes allow_nul.
    let b = braced c.args.input.now c.utf8.input c.requires.begins in
    let same = rest_is c.as_bytes.result.now c.args.input.now 3 c.as_bytes.ensures.value in
    let d = c.requires.digits in
    let digits = digit_text c.args.input.now c.args.digits b d in
    let size = length-take-le c.args.digits.len (drop 3 c.args.input.now) d.within in
    let after = rest_is _ (drop 3 c.args.input.now) c.args.digits.len same in
    let any = any_after _ _ d ∙ ap (list_any (λ n. n == 125)) (sym after) ∙ sym c.if-not-has_byte.ensures in
    let right = ap (first_passes is_wrong_start) (sym same) ∙ sym c.if-begins_wrongly.ensures in
    let none : first_passes is_ascii_hexdigit (drop c.args.digits.len (drop 3 c.args.input.now)) ≡ false =
    ap (first_passes is_ascii_hexdigit) (sym after) ∙ sym c.if-begins_with_hex_digit.ensures in
    has_refusal _ _ c.in_text-else-begins_with_hex_digit.result
    (nonhex_row byte_escapes allow_nul c.args.input.now _ _ b digits (stopped c.args.input.now _ _ b digits any right c.requires.open) d.few
    (false_from_ne_true _ (λ passes. true≢false (sym (d.stops passes).0 ∙ none)))
    ∙ (ap (λ n. Some (at_byte (3 + n) NonHexDigitInUnicodeEscape)) size ∙ ap Some (sym c.in_text-else-begins_with_hex_digit.ensures.refusal)))
    c.in_text-else-begins_with_hex_digit.ensures.char_span
