-- Quoted strings, byte strings and C strings by computation: forms, values, and each row of the table of refusals. The
-- items are written out.
use Prim.Native.String.{String}
use Rattle.std.specs.Prelude.{◌≡◌, ℕ, List, [], ◌∷◌, ◌++◌, map, Some, None, codes, refl, true, false}
use Rattle.litrs_base.specs.declared.err.ParseErrorKind.TheVariants as kind
use Rattle.litrs_base.specs.Refusal.{Refusal, without_span, at_byte, spanning}
use Rattle.litrs_base.specs.Characters.{is_blank}
use Rattle.litrs_base.specs.declared.quotes.StringKind.{StringKind}
use Rattle.litrs_base.specs.declared.quotes.StringKind.TheVariants.{String as string_kind, ByteString as byte_string_kind, CString as c_string_kind}
use Rattle.litrs_base.specs.declared.quotes.Switches.{Switches}
use Rattle.litrs_base.specs.Quotes.{string_switches, byte_string_switches, c_string_switches}
use Rattle.litrs_grammar.specs.Escape.{simple_escape, hex_escape}
use Rattle.litrs_grammar.specs.Quoted.{Item, plain_item, escape_item, continuation, body_value, is_body, IsQuotedLiteral, IsQuotedLiteralRefusal, item_refusal, is_item_list, is_plain}
use Rattle.litrs_grammar.proofs.Computing.{computing, quoted, refused_after}

-- plain characters
abbrev plains : String → List Item
plains text = map plain_item (codes text)

-- the text is a quoted string of the kind, with these items, this suffix and this value
abbrev Is : StringKind → String → List Item → String → List ℕ → Type 0
Is kind text items suffix value =
    IsQuotedLiteral kind (codes text) (record { items = items; suffix = codes suffix }) × (body_value items ≡ value)

-- the text is refused as one
abbrev Refused : StringKind → String → Refusal → Type 0
Refused kind text refusal = IsQuotedLiteralRefusal kind (codes text) refusal

-- Literals, their parts and values

literals :
    Is c_string_kind "c\"a\\x0cb\\\\\"_jürgen" (plain_item 97 ∷ escape_item (hex_escape 48 99) ∷ plain_item 98 ∷ escape_item (simple_escape 92) ∷ []) "_jürgen" (0x61 ∷ 0x0C ∷ 0x62 ∷ 0x5C ∷ [])
    × Is c_string_kind "c\"é\\xFF\"" (plains "é" ++ escape_item (hex_escape 70 70) ∷ []) "" (0xC3 ∷ 0xA9 ∷ 0xFF ∷ [])
unfolding computing
literals = ((quoted refl refl refl, refl), (quoted refl refl refl, refl))

continuations :
    -- a continuation takes all spaces, tabs and LFs, and no other blank
    Is string_kind "\"foo\\\n\t\n \n\tbar\"" (plains "foo" ++ continuation (codes "\t\n \n\t") ∷ plains "bar") "" (codes "foobar")
unfolding computing
continuations = (quoted refl refl refl, refl)

-- Texts that the grammar allows, and texts that it does not

blanks :
    is_blank 32 ≡ true
unfolding computing
blanks = refl

characters_not_allowed :
    (is_plain string_switches 92 ≡ false)
    × (is_plain byte_string_switches 128 ≡ false)
    × (is_plain c_string_switches 0 ≡ false)
unfolding computing
characters_not_allowed = (refl, refl, refl)

characters_allowed :
    is_plain string_switches 10 ≡ true
unfolding computing
characters_allowed = refl

not_bodies :
    (is_body string_switches (continuation [] ∷ plain_item 32 ∷ []) ≡ false)
    × (is_body string_switches (continuation (codes " ") ∷ plain_item 9 ∷ []) ≡ false)
    × (is_body string_switches (continuation (codes "x") ∷ []) ≡ false)
    × (is_body string_switches (continuation (codes "\r") ∷ []) ≡ false)
    × (is_body string_switches (plain_item 97 ∷ plain_item 34 ∷ []) ≡ false)
    × (is_body string_switches (continuation [] ∷ plain_item 97 ∷ plain_item 13 ∷ []) ≡ false)
unfolding computing
not_bodies = (refl, refl, refl, refl, refl, refl)

-- Rests that no row fits, since they begin with an item or are the end

accepted :
    (item_refusal string_switches (codes "a") ≡ None)
    × (item_refusal string_switches (codes "\"x") ≡ None)
    × (item_refusal string_switches (codes "\\\n b") ≡ None)
unfolding computing
accepted = (refl, refl, refl)

-- Items that a rest cannot follow

not_before :
    (is_item_list string_switches (codes " a") (continuation [] ∷ []) ≡ false)
    × (is_item_list string_switches (codes "a") (plain_item 13 ∷ []) ≡ false)
    × (is_item_list string_switches (codes "a") (plain_item 97 ∷ plain_item 13 ∷ []) ≡ false)
    × (is_item_list string_switches (codes "\ta") (continuation [] ∷ []) ≡ false)
unfolding computing
not_before = (refl, refl, refl, refl)

before :
    is_item_list string_switches (codes "\r") (continuation (codes " ") ∷ []) ≡ true
unfolding computing
before = refl

-- Refused texts, by the rows of the table

rows-unterminated_string :
    -- a continuation that ends the text
    Refused string_kind "\"foo\\\n  " (without_span kind.UnterminatedString)
    × Refused string_kind "\"\\n\n" (without_span kind.UnterminatedString)
    × Refused string_kind "\"a\\\n  b" (without_span kind.UnterminatedString)
    × Refused string_kind "\"\\\n\t\n" (without_span kind.UnterminatedString)
unfolding computing
rows-unterminated_string = (
  refused_after (plains "foo") (codes "\\\n  ") (without_span kind.UnterminatedString) refl refl refl refl,
  refused_after (escape_item (simple_escape 110) ∷ plain_item 10 ∷ []) [] (without_span kind.UnterminatedString) refl refl refl refl,
  refused_after (plain_item 97 ∷ continuation (codes "  ") ∷ plain_item 98 ∷ []) [] (without_span kind.UnterminatedString) refl refl refl refl,
  refused_after [] (codes "\\\n\t\n") (without_span kind.UnterminatedString) refl refl refl refl,
)

rows-unterminated_escape :
    -- an escape is parsed without the last character of the text
    Refused string_kind "\"\\n" (spanning 1 2 kind.UnterminatedEscape)
    × Refused string_kind "\"\\" (spanning 1 2 kind.UnterminatedEscape)
unfolding computing
rows-unterminated_escape = (
  refused_after [] (codes "\\n") (at_byte 0 kind.UnterminatedEscape) refl refl refl refl,
  refused_after [] (codes "\\") (at_byte 0 kind.UnterminatedEscape) refl refl refl refl,
)

rows-non_ascii_x_escape :
    Refused string_kind "\"\\x80\"" (spanning 1 5 kind.NonAsciiXEscape)
unfolding computing
rows-non_ascii_x_escape = refused_after [] (codes "\\x80\"") (spanning 0 4 kind.NonAsciiXEscape) refl refl refl refl

rows-unterminated_unicode_escape :
    Refused string_kind "\"\\u{41}" (spanning 1 6 kind.UnterminatedUnicodeEscape)
unfolding computing
rows-unterminated_unicode_escape = refused_after [] (codes "\\u{41}") (spanning 0 5 kind.UnterminatedUnicodeEscape) refl refl refl refl

rows-invalid_start_of_unicode_escape :
    Refused string_kind "\"🦊\\u{}a\"" (spanning 8 9 kind.InvalidStartOfUnicodeEscape)
unfolding computing
rows-invalid_start_of_unicode_escape = refused_after (plains "🦊") (codes "\\u{}a\"") (at_byte 3 kind.InvalidStartOfUnicodeEscape) refl refl refl refl

rows-too_many_digit_in_unicode_escape :
    Refused string_kind "\"నక్క\\u{1234567}🦊\"" (spanning 22 23 kind.TooManyDigitInUnicodeEscape)
unfolding computing
rows-too_many_digit_in_unicode_escape = refused_after (plains "నక్క") (codes "\\u{1234567}🦊\"") (at_byte 9 kind.TooManyDigitInUnicodeEscape) refl refl refl refl

rows-disallowed_nul_escape :
    Refused c_string_kind "c\"\\u{0}🦊\"" (spanning 2 7 kind.DisallowedNulEscape)
unfolding computing
rows-disallowed_nul_escape = refused_after [] (codes "\\u{0}🦊\"") (spanning 0 5 kind.DisallowedNulEscape) refl refl refl refl

rows-unknown_escape :
    Refused byte_string_kind "b\"a\\\r\"" (spanning 3 5 kind.UnknownEscape)
unfolding computing
rows-unknown_escape = refused_after (plains "a") (codes "\\\r\"") (spanning 0 2 kind.UnknownEscape) refl refl refl refl

rows-carriage_return :
    Refused string_kind "\"a\r\"" (spanning 2 3 kind.CarriageReturn)
    -- CR is not a blank
    × Refused string_kind "\"a\\\n\r\"" (at_byte 4 kind.CarriageReturn)
unfolding computing
rows-carriage_return = (
  refused_after (plains "a") (codes "\r\"") (at_byte 0 kind.CarriageReturn) refl refl refl refl,
  refused_after (plain_item 97 ∷ continuation [] ∷ []) (codes "\r\"") (at_byte 0 kind.CarriageReturn) refl refl refl refl,
)

-- if NUL and characters beyond ASCII are both not allowed
abbrev strict : Switches
strict = record { unicode = false; byte_escapes = true; allow_nul = false }

rows-first_character :
    item_refusal strict (0 ∷ 13 ∷ 233 ∷ []) ≡ Some (at_byte 0 kind.NulByte)
unfolding computing
rows-first_character = refl

rows-nul_byte :
    Refused c_string_kind "c\"\0\"" (spanning 2 3 kind.NulByte)
unfolding computing
rows-nul_byte = refused_after [] (0 ∷ 34 ∷ []) (at_byte 0 kind.NulByte) refl refl refl refl

rows-non_ascii_in_byte_literal :
    Refused byte_string_kind "b\"\\nJosé" (spanning 7 8 kind.NonAsciiInByteLiteral)
    × Refused byte_string_kind "b\"\u{80}" (at_byte 2 kind.NonAsciiInByteLiteral)
unfolding computing
rows-non_ascii_in_byte_literal = (
  refused_after (escape_item (simple_escape 110) ∷ plains "Jos") (codes "é") (at_byte 0 kind.NonAsciiInByteLiteral) refl refl refl refl,
  refused_after [] (codes "\u{80}") (at_byte 0 kind.NonAsciiInByteLiteral) refl refl refl refl,
)

rows-unexpected_char :
    Refused string_kind "\"a\" " (spanning 3 4 kind.UnexpectedChar)
unfolding computing
rows-unexpected_char = refused_after (plains "a") (codes "\" ") (at_byte 1 kind.UnexpectedChar) refl refl refl refl

rows-invalid_suffix :
    Refused string_kind "\"\\n\"_" (at_byte 4 kind.InvalidSuffix)
unfolding computing
rows-invalid_suffix = refused_after (escape_item (simple_escape 110) ∷ []) (codes "\"_") (at_byte 1 kind.InvalidSuffix) refl refl refl refl
