-- Escapes by computation: forms, values, and each row of the table of refusals.
use Prim.Native.String.{String}
use Rattle.std.specs.Prelude.{◌≡◌, [], ◌∷◌, Some, None, IsTrue, codes, refl, true, false}
use Rattle.litrs_base.specs.declared.escape.Unescape.{Unescape}
use Rattle.litrs_base.specs.declared.escape.Unescape.TheVariants.{Byte, Unicode}
use Rattle.litrs_base.specs.declared.err.ParseErrorKind.TheVariants as kind
use Rattle.litrs_base.specs.Refusal.{Refusal, at_byte, spanning}
use Rattle.litrs_base.specs.declared.quotes.Switches.{Switches}
use Rattle.litrs_base.specs.Quotes.{char_switches, byte_switches, string_switches, byte_string_switches, c_string_switches}
use Rattle.litrs_grammar.specs.Escape.{Escape, simple_escape, hex_escape, unicode_escape, escape_text, escape_value, value_bytes, is_escape, escape_at_front, escape_refusal}
use Rattle.litrs_grammar.proofs.Computing.{computing}

-- an escape under these switches, with its text and its value
abbrev Is : Switches → Escape → String → Unescape → Type 0
Is w e text value = (escape_text e ≡ codes text) × (escape_value e ≡ value) × IsTrue (is_escape w e)

-- the text begins with no escape under these switches, and has this refusal
abbrev Refused : Switches → String → Refusal → Type 0
Refused w text refusal = escape_refusal w (codes text) ≡ Some refusal

-- one does
abbrev Accepted : Switches → String → Type 0
Accepted w text = escape_refusal w (codes text) ≡ None

-- Escapes and their values

simple_escapes :
    Is char_switches (simple_escape 39) "\\'" (Byte 39)
    × Is char_switches (simple_escape 34) "\\\"" (Byte 34)
    × Is string_switches (simple_escape 110) "\\n" (Byte 10)
    × Is string_switches (simple_escape 114) "\\r" (Byte 13)
    × Is string_switches (simple_escape 116) "\\t" (Byte 9)
    × Is c_string_switches (simple_escape 92) "\\\\" (Byte 92)
    × Is byte_string_switches (simple_escape 48) "\\0" (Byte 0)
unfolding computing
simple_escapes = (
  (refl, refl, refl),
  (refl, refl, refl),
  (refl, refl, refl),
  (refl, refl, refl),
  (refl, refl, refl),
  (refl, refl, refl),
  (refl, refl, refl),
)

hex_escapes :
    Is byte_switches (hex_escape 70 70) "\\xFF" (Byte 255)
    × Is string_switches (hex_escape 55 102) "\\x7f" (Byte 127)
unfolding computing
hex_escapes = ((refl, refl, refl), (refl, refl, refl))

unicode_escapes :
    Is char_switches (unicode_escape (codes "1_F6_02_____")) "\\u{1_F6_02_____}" (Unicode 0x1F602)
    -- 0 if NUL is allowed, and numbers of one byte are characters
    × Is char_switches (unicode_escape (codes "0")) "\\u{0}" (Unicode 0)
unfolding computing
unicode_escapes = ((refl, refl, refl), (refl, refl, refl))

-- Values

bytes :
    value_bytes (Unicode 0x1F602) ≡ 0xF0 ∷ 0x9F ∷ 0x98 ∷ 0x82 ∷ []
unfolding computing
bytes = refl

-- The escape at the front of a text

front :
    (escape_at_front (codes "\\nb") ≡ simple_escape 110)
    × (escape_at_front (codes "\\x41b") ≡ hex_escape 52 49)
    × (escape_at_front (codes "\\u{41}b") ≡ unicode_escape (codes "41"))
unfolding computing
front = (refl, refl, refl)

-- Texts that the grammar allows, and texts that it does not

not_escapes :
    (is_escape string_switches (simple_escape 97) ≡ false)
    × (is_escape c_string_switches (simple_escape 48) ≡ false)
    × (is_escape string_switches (hex_escape 48 103) ≡ false)
    × (is_escape string_switches (hex_escape 56 48) ≡ false)
    × (is_escape c_string_switches (hex_escape 48 48) ≡ false)
    × (is_escape byte_string_switches (unicode_escape (codes "41")) ≡ false)
    × (is_escape string_switches (unicode_escape []) ≡ false)
    × (is_escape string_switches (unicode_escape (codes "_1")) ≡ false)
    × (is_escape string_switches (unicode_escape (codes "1x")) ≡ false)
    × (is_escape string_switches (unicode_escape (codes "0000000")) ≡ false)
    × (is_escape c_string_switches (unicode_escape (codes "0")) ≡ false)
    × (is_escape string_switches (unicode_escape (codes "d800")) ≡ false)
    × (is_escape char_switches (hex_escape 56 48) ≡ false)
    × (is_escape byte_switches (unicode_escape (codes "41")) ≡ false)
    × (is_escape string_switches (unicode_escape (codes "dfff")) ≡ false)
    × (is_escape string_switches (simple_escape 120) ≡ false)
unfolding computing
not_escapes = (
  refl,
  refl,
  refl,
  refl,
  refl,
  refl,
  refl,
  refl,
  refl,
  refl,
  refl,
  refl,
  refl,
  refl,
  refl,
  refl,
)

escapes :
    (is_escape string_switches (unicode_escape (codes "10FFFF")) ≡ true)
    × (is_escape string_switches (unicode_escape (codes "000001")) ≡ true)
unfolding computing
escapes = (refl, refl)

-- Texts that are not refused

accepted :
    Accepted string_switches "\\0a"
    × Accepted byte_switches "\\xFF'"
    × Accepted char_switches "\\0'"
    × Accepted string_switches "\\x7F\""
    × Accepted char_switches "\\u{10FFFF}'"
    × Accepted char_switches "\\u{D7FF}'"
    × Accepted string_switches "\\'"
    × Accepted string_switches "\\\""
    × Accepted string_switches "\\n"
    × Accepted string_switches "\\r"
    × Accepted string_switches "\\t"
    × Accepted string_switches "\\\\"
unfolding computing
accepted = (refl, refl, refl, refl, refl, refl, refl, refl, refl, refl, refl, refl)

-- Refused texts, by the rows of the table

rows-unterminated_escape :
    Refused string_switches "" (at_byte 0 kind.UnterminatedEscape)
    × Refused string_switches "\\" (at_byte 0 kind.UnterminatedEscape)
    -- no two bytes that end a character
    × Refused byte_switches "\\x'" (spanning 0 3 kind.UnterminatedEscape)
    × Refused string_switches "\\x" (spanning 0 2 kind.UnterminatedEscape)
unfolding computing
rows-unterminated_escape = (refl, refl, refl, refl)

rows-invalid_x_escape :
    -- a character of two bytes in place of the digits
    Refused char_switches "\\xé'" (spanning 0 4 kind.InvalidXEscape)
    × Refused byte_switches "\\x1'" (spanning 0 4 kind.InvalidXEscape)
    × Refused char_switches "\\xé" (spanning 0 4 kind.InvalidXEscape)
    × Refused char_switches "\\xg0'" (spanning 0 4 kind.InvalidXEscape)
unfolding computing
rows-invalid_x_escape = (refl, refl, refl, refl)

rows-non_ascii_x_escape :
    Refused string_switches "\\x80" (spanning 0 4 kind.NonAsciiXEscape)
    × Refused char_switches "\\x80'" (spanning 0 4 kind.NonAsciiXEscape)
unfolding computing
rows-non_ascii_x_escape = (refl, refl)

rows-unicode_escape_in_byte_literal :
    Refused byte_switches "\\u{0}'" (spanning 0 2 kind.UnicodeEscapeInByteLiteral)
    × Refused byte_switches "\\u'" (spanning 0 2 kind.UnicodeEscapeInByteLiteral)
unfolding computing
rows-unicode_escape_in_byte_literal = (refl, refl)

rows-unicode_escape_without_brace :
    Refused char_switches "\\u0041'" (spanning 0 2 kind.UnicodeEscapeWithoutBrace)
    × Refused char_switches "\\u" (spanning 0 2 kind.UnicodeEscapeWithoutBrace)
unfolding computing
rows-unicode_escape_without_brace = (refl, refl)

rows-unterminated_unicode_escape :
    Refused char_switches "\\u{a0_b  '" (spanning 0 10 kind.UnterminatedUnicodeEscape)
    × Refused char_switches "\\u{é'" (spanning 0 6 kind.UnterminatedUnicodeEscape)
unfolding computing
rows-unterminated_unicode_escape = (refl, refl)

rows-invalid_start_of_unicode_escape :
    Refused char_switches "\\u{_}'" (at_byte 3 kind.InvalidStartOfUnicodeEscape)
    × Refused char_switches "\\u{_x}'" (at_byte 3 kind.InvalidStartOfUnicodeEscape)
unfolding computing
rows-invalid_start_of_unicode_escape = (refl, refl)

rows-non_hex_digit_in_unicode_escape :
    Refused char_switches "\\u{3b_x}'" (at_byte 6 kind.NonHexDigitInUnicodeEscape)
    -- after six digits
    × Refused char_switches "\\u{123456x7}'" (at_byte 9 kind.NonHexDigitInUnicodeEscape)
unfolding computing
rows-non_hex_digit_in_unicode_escape = (refl, refl)

rows-too_many_digit_in_unicode_escape :
    Refused char_switches "\\u{1_23_4_56_7}'" (at_byte 13 kind.TooManyDigitInUnicodeEscape)
    -- the first of the two decides
    × Refused char_switches "\\u{1234567x}'" (at_byte 9 kind.TooManyDigitInUnicodeEscape)
    × Refused char_switches "\\u{abcdefax}'" (at_byte 9 kind.TooManyDigitInUnicodeEscape)
    × Refused char_switches "\\u{123456__7}'" (at_byte 11 kind.TooManyDigitInUnicodeEscape)
unfolding computing
rows-too_many_digit_in_unicode_escape = (refl, refl, refl, refl)

rows-disallowed_nul_escape :
    Refused c_string_switches "\\0a" (spanning 0 2 kind.DisallowedNulEscape)
    × Refused c_string_switches "\\x00" (spanning 0 4 kind.DisallowedNulEscape)
    × Refused c_string_switches "\\u{0__}" (spanning 0 7 kind.DisallowedNulEscape)
    × Refused c_string_switches "\\0" (spanning 0 2 kind.DisallowedNulEscape)
unfolding computing
rows-disallowed_nul_escape = (refl, refl, refl, refl)

rows-invalid_unicode_escape_char :
    Refused char_switches "\\u{110000}'" (spanning 0 10 kind.InvalidUnicodeEscapeChar)
    × Refused char_switches "\\u{d800}'" (spanning 0 8 kind.InvalidUnicodeEscapeChar)
unfolding computing
rows-invalid_unicode_escape_char = (refl, refl)

rows-unknown_escape :
    -- the span may end inside a character
    Refused char_switches "\\é'" (spanning 0 2 kind.UnknownEscape)
    × Refused byte_string_switches "\\\r" (spanning 0 2 kind.UnknownEscape)
unfolding computing
rows-unknown_escape = (refl, refl)
