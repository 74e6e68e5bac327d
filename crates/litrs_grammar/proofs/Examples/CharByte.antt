-- Chars and bytes by computation: forms, values, and each row of the table of refusals.
use Prim.Native.String.{String}
use Rattle.std.specs.Prelude.{◌≡◌, Some, None, codes, refl, true, false}
use Rattle.litrs_base.specs.declared.err.ParseErrorKind.TheVariants as kind
use Rattle.litrs_base.specs.Refusal.{Refusal, without_span, at_byte, spanning}
use Rattle.litrs_grammar.specs.Escape.{unicode_escape}
use Rattle.litrs_base.specs.declared.quotes.CharKind.{CharKind}
use Rattle.litrs_base.specs.declared.quotes.CharKind.TheVariants.{Char as char_kind, Byte as byte_kind}
use Rattle.litrs_grammar.specs.CharByte.{CharItem, plain_char, escaped_char, IsCharLiteral, char_value, char_refusal, byte_refusal, is_char_item}
use Rattle.litrs_grammar.proofs.Computing.{computing, char_or_byte}

-- the text is a char, or a byte, of this item and suffix
abbrev Is : CharKind → String → CharItem → String → Type 0
Is kind text item suffix = IsCharLiteral kind (codes text) (record { item = item; suffix = codes suffix })

-- the text is refused as a char, or as a byte
abbrev CharRefused : String → Refusal → Type 0
CharRefused text refusal = char_refusal (codes text) ≡ Some refusal

abbrev ByteRefused : String → Refusal → Type 0
ByteRefused text refusal = byte_refusal (codes text) ≡ Some refusal

-- it is not
abbrev CharAccepted : String → Type 0
CharAccepted text = char_refusal (codes text) ≡ None

-- Literals and their parts

literals :
    Is char_kind "'🦊'good_boy" (plain_char 0x1F98A) "good_boy"
    × Is char_kind "'\0'" (plain_char 0) ""
unfolding computing
literals = (char_or_byte refl refl refl, char_or_byte refl refl refl)

-- Values

values :
    char_value (escaped_char (unicode_escape (codes "1_F6_02_____"))) ≡ 0x1F602
unfolding computing
values = refl

-- Items that the grammar does not allow

items_not_allowed :
    (is_char_item char_kind (plain_char 39) ≡ false)
    × (is_char_item char_kind (plain_char 92) ≡ false)
    × (is_char_item byte_kind (plain_char 128) ≡ false)
    × (is_char_item char_kind (plain_char 10) ≡ false)
    × (is_char_item char_kind (plain_char 13) ≡ false)
    × (is_char_item byte_kind (plain_char 10) ≡ false)
    × (is_char_item byte_kind (plain_char 39) ≡ false)
unfolding computing
items_not_allowed = (refl, refl, refl, refl, refl, refl, refl)

items_allowed :
    is_char_item char_kind (plain_char 34) ≡ true
unfolding computing
items_allowed = refl

-- Texts that are not refused

accepted :
    CharAccepted "'🦊'good_boy"
    × CharAccepted "'\\x41'"
unfolding computing
accepted = (refl, refl)

-- Refused texts, by the rows of the table

rows-empty :
    CharRefused "" (without_span kind.Empty)
    × ByteRefused "" (without_span kind.Empty)
unfolding computing
rows-empty = (refl, refl)

rows-does_not_start_with_quote :
    CharRefused "a'" (at_byte 0 kind.DoesNotStartWithQuote)
unfolding computing
rows-does_not_start_with_quote = refl

rows-invalid_byte_literal_start :
    ByteRefused "'a'" (without_span kind.InvalidByteLiteralStart)
    × ByteRefused "'" (without_span kind.InvalidByteLiteralStart)
unfolding computing
rows-invalid_byte_literal_start = (refl, refl)

rows-unterminated_char_literal :
    CharRefused "'" (without_span kind.UnterminatedCharLiteral)
    -- an escaped quote does not close anything
    × CharRefused "'\\'" (without_span kind.UnterminatedCharLiteral)
unfolding computing
rows-unterminated_char_literal = (refl, refl)

rows-unterminated_byte_literal :
    ByteRefused "b'" (without_span kind.UnterminatedByteLiteral)
    × ByteRefused "b'a" (without_span kind.UnterminatedByteLiteral)
unfolding computing
rows-unterminated_byte_literal = (refl, refl)

rows-unescaped_single_quote :
    CharRefused "'''" (at_byte 1 kind.UnescapedSingleQuote)
    × CharRefused "''''" (at_byte 1 kind.UnescapedSingleQuote)
unfolding computing
rows-unescaped_single_quote = (refl, refl)

rows-empty_char_literal :
    CharRefused "''" (without_span kind.EmptyCharLiteral)
    × CharRefused "''a'" (without_span kind.EmptyCharLiteral)
unfolding computing
rows-empty_char_literal = (refl, refl)

rows-empty_byte_literal :
    ByteRefused "b''" (without_span kind.EmptyByteLiteral)
unfolding computing
rows-empty_byte_literal = refl

rows-unescaped_special_whitespace :
    ByteRefused "b'\t'" (at_byte 2 kind.UnescapedSpecialWhitespace)
    × CharRefused "'\r'" (at_byte 1 kind.UnescapedSpecialWhitespace)
    × CharRefused "'\t'" (at_byte 1 kind.UnescapedSpecialWhitespace)
unfolding computing
rows-unescaped_special_whitespace = (refl, refl, refl)

rows-unterminated_escape :
    ByteRefused "b'\\x'" (spanning 2 5 kind.UnterminatedEscape)
    × CharRefused "'\\x🦊'" (spanning 1 8 kind.UnterminatedEscape)
unfolding computing
rows-unterminated_escape = (refl, refl)

rows-invalid_x_escape :
    ByteRefused "b'\\x1'" (spanning 2 6 kind.InvalidXEscape)
unfolding computing
rows-invalid_x_escape = refl

rows-non_ascii_x_escape :
    CharRefused "'\\x80'" (spanning 1 5 kind.NonAsciiXEscape)
unfolding computing
rows-non_ascii_x_escape = refl

rows-unicode_escape_in_byte_literal :
    ByteRefused "b'\\u{0}'" (spanning 2 4 kind.UnicodeEscapeInByteLiteral)
unfolding computing
rows-unicode_escape_in_byte_literal = refl

rows-unterminated_unicode_escape :
    CharRefused "'\\u{a0_b  '" (spanning 1 11 kind.UnterminatedUnicodeEscape)
unfolding computing
rows-unterminated_unicode_escape = refl

rows-invalid_start_of_unicode_escape :
    CharRefused "'\\u{_}'" (at_byte 4 kind.InvalidStartOfUnicodeEscape)
unfolding computing
rows-invalid_start_of_unicode_escape = refl

rows-non_hex_digit_in_unicode_escape :
    CharRefused "'\\u{3b_x}'" (at_byte 7 kind.NonHexDigitInUnicodeEscape)
unfolding computing
rows-non_hex_digit_in_unicode_escape = refl

rows-too_many_digit_in_unicode_escape :
    CharRefused "'\\u{1_23_4_56_7}'" (at_byte 14 kind.TooManyDigitInUnicodeEscape)
unfolding computing
rows-too_many_digit_in_unicode_escape = refl

rows-invalid_unicode_escape_char :
    CharRefused "'\\u{110000}'" (spanning 1 11 kind.InvalidUnicodeEscapeChar)
unfolding computing
rows-invalid_unicode_escape_char = refl

rows-unknown_escape :
    CharRefused "'\\é'" (spanning 1 3 kind.UnknownEscape)
unfolding computing
rows-unknown_escape = refl

rows-non_ascii_in_byte_literal :
    ByteRefused "b'犬'" (at_byte 2 kind.NonAsciiInByteLiteral)
    × ByteRefused "b'\u{80}'" (at_byte 2 kind.NonAsciiInByteLiteral)
unfolding computing
rows-non_ascii_in_byte_literal = (refl, refl)

rows-overlong_char_literal :
    CharRefused "'ab'" (without_span kind.OverlongCharLiteral)
    × CharRefused "'\\u{0}0'" (without_span kind.OverlongCharLiteral)
unfolding computing
rows-overlong_char_literal = (refl, refl)

rows-overlong_byte_literal :
    ByteRefused "b'a _'" (without_span kind.OverlongByteLiteral)
    × ByteRefused "b'\\xFFa'" (without_span kind.OverlongByteLiteral)
unfolding computing
rows-overlong_byte_literal = (refl, refl)

rows-unexpected_char :
    ByteRefused "b' ''" (at_byte 4 kind.UnexpectedChar)
    × CharRefused "'a'\u{7f}" (at_byte 3 kind.UnexpectedChar)
unfolding computing
rows-unexpected_char = (refl, refl)

rows-invalid_suffix :
    CharRefused "'a'_" (at_byte 3 kind.InvalidSuffix)
unfolding computing
rows-invalid_suffix = refl
