-- The braces.
use Rattle.std.proofs.Common.{List, ℕ, ap, ◌∙◌, sym, subst, Some}
use Rattle.std.specs.Prelude.{◌==◌}
use Rattle.std.proofs.Common.{drop}
use Rattle.std.specs.Char.{is_ascii_hexdigit}
use Rattle.std.proofs.lemmas.Bool.{and_left, and_right}
use Rattle.std.proofs.lemmas.List.{take_rest}
use Rattle.litrs_base.specs.Text.{first_passes}
use Rattle.litrs_lex.specs.Unescaped.{IsHexDigits}
use Rattle.litrs_lex.proofs.FloatBytes.{rest_is}
use Rattle.litrs_lex.proofs.EscapeBytes.{has_refusal, unicode_on, letter_of}
use Rattle.litrs_lex.proofs.UnicodeEscapeBytes.{no_brace_row}
use Rattle.litrs_lex.proofs.escape.unescape_unicode.Goals as goal
use Rattle.litrs_lex.proofs.escape.unescape_unicode.Goals.{else-begins_with_hex_digit-via-then-begins_with_hex_digit+else-begins_with_byte, else-begins_with_hex_digit-via-else-begins_with_hex_digit}

pub returns-then-not-begins_with_byte-clause-refused : goal.returns-then-not-begins_with_byte-clause-refused
returns-then-not-begins_with_byte-clause-refused c =
    let is = letter_of c.args.input.now 117 c.requires.begins in
    rw (unicode_on c.args.allowed c.requires.unicode) (has_refusal _ _ c.in_text.result
    (no_brace_row c.args.allowed.byte_escapes c.args.allowed.allow_nul c.args.input.now c.utf8.input is
    (ap (λ l. first_passes (λ n. n == 123) (drop 2 l)) (sym c.as_bytes-bytes.ensures.value)
    ∙ (ap (first_passes (λ n. n == 123)) (sym (take_rest c.as_bytes-bytes.result.now 2)) ∙ sym c.if-not-begins_with_byte.ensures))
    ∙ ap Some (sym c.in_text.ensures.refusal))
    c.in_text.ensures.char_span)

pub unicode_escape_refusal-requires-clause-digits : goal.unicode_escape_refusal-requires-clause-digits
unicode_escape_refusal-requires-clause-digits c =
    subst (λ (l : List ℕ). IsHexDigits l c.hex_digits-digits.result) (rest_is c.as_bytes-bytes.result.now c.args.input.now 3 c.as_bytes-bytes.ensures.value) c.hex_digits-digits.ensures

pub unicode_escape_refusal-requires-clause-open : goal.unicode_escape_refusal-requires-clause-open
unicode_escape_refusal-requires-clause-open c =
    let inner = drop 3 c.args.input.now in
    let len = c.hex_digits-digits.result.len in
    let same = rest_is c.as_bytes-bytes.result.now c.args.input.now 3 c.as_bytes-bytes.ensures.value in
    elim c.else-begins_with_hex_digit.branch [
      | else-begins_with_hex_digit-via-then-begins_with_hex_digit+else-begins_with_byte w ↦
          and_right (first_passes is_ascii_hexdigit inner) _ (ap (first_passes (λ n. n == 125)) (sym (rest_is _ inner len same))
          ∙ (sym w.begins_with_byte-then-begins_with_hex_digit.ensures ∙ w.if-begins_with_byte.false))
      | else-begins_with_hex_digit-via-else-begins_with_hex_digit w ↦
          and_left _ (first_passes (λ n. n == 125) (drop len inner)) (ap (first_passes is_ascii_hexdigit) (sym same) ∙ (sym c.begins_with_hex_digit.ensures ∙ w.if-begins_with_hex_digit.false))
    ]

pub returns-else-begins_with_hex_digit-clause-refused : goal.returns-else-begins_with_hex_digit-clause-refused
returns-else-begins_with_hex_digit-clause-refused c =
    rw (unicode_on c.args.allowed c.requires.unicode) (c.unicode_escape_refusal.ensures c.args.allowed.byte_escapes c.args.allowed.allow_nul)
