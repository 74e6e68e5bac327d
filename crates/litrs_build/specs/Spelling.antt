-- The spelling of a character or a byte between quotes. The Rust Reference, Tokens, Literals: the
-- tables "Quote escapes", "ASCII escapes", "Byte escapes" and "Unicode escapes".
use Rattle.std.specs.Prelude.{ℕ, ◌/◌, ◌%◌, Bool, true, false, not, ◌==◌, ◌&&◌, ◌||◌, if◌then◌else◌}
use Rattle.std.specs.Fmt.{digits, digit_glyph}
use Rattle.unicode.specs.Binary.{is_grapheme_extend}
use Rattle.litrs_base.specs.Characters.{nul, tab, line_feed, carriage_return, digit_zero, letter_n, letter_r, letter_t, backslash, is_ascii}
use Rattle.litrs_grammar.specs.Escape.{simple_escape, hex_escape, unicode_escape}
use Rattle.litrs_grammar.specs.CharByte.{CharItem, plain_char, escaped_char}
use Rattle.litrs_grammar.specs.Quoted.{Item, plain_item, escape_item}
use Rattle.litrs_build.specs.Printable.{is_printable}
use Rattle.litrs_build.specs.declared.spelling.Spelling.{Spelling}
use Rattle.litrs_build.specs.declared.spelling.Spelling.TheVariants.{Plain, Simple, Hex, Unicode}
use Rattle.litrs_build.specs.declared.style.Case.{Case}
use Rattle.litrs_build.specs.declared.style.Case.TheVariants.{Lower, Upper}

-- `true` iff the character would combine with the one before it: it extends a grapheme.
abbrev pub is_combining : ℕ → Bool
is_combining c = is_grapheme_extend c

-- `true` iff the character is written as it is. It is printable, and is not a combining character
-- after the opening quote, an escape, a kept LF or a kept continuation.
abbrev pub is_shown : (follows_mark : Bool) → ℕ → Bool
is_shown follows_mark c = is_printable c && not (follows_mark && is_combining c)

-- The spelling of a character without a short escape: itself, or its number in the shorter form.
abbrev pub shown_or_number : (follows_mark : Bool) → ℕ → Spelling
shown_or_number follows_mark c =
    if is_shown follows_mark c then Plain c else if is_ascii c then Hex c else Unicode c

-- The spelling of a character. NUL, tab, LF, CR, the quote and the backslash have short escapes.
unfoldable pub char_spelling : (quote : ℕ) (follows_mark : Bool) → ℕ → Spelling
char_spelling quote follows_mark c =
    if c == nul then Simple digit_zero
    else if c == tab then Simple letter_t
    else if c == line_feed then Simple letter_n
    else if c == carriage_return then Simple letter_r
    else if (c == quote) || (c == backslash) then Simple c
    else shown_or_number follows_mark c

-- The spelling of a byte: that of a character if it is ASCII, otherwise its number.
unfoldable pub byte_spelling : (quote : ℕ) → ℕ → Spelling
byte_spelling quote b = if is_ascii b then char_spelling quote false b else Hex b

-- `true` iff the spelling is an escape.
abbrev pub is_escaped : Spelling → Bool
is_escaped (Plain c) = false
is_escaped (Simple c) = true
is_escaped (Hex b) = true
is_escaped (Unicode c) = true

-- `true` iff the hex digits are in upper case.
abbrev pub is_upper : Case → Bool
is_upper Lower = false
is_upper Upper = true

-- The hex digit of a number, in the case.
abbrev pub cased_digit : Case → ℕ → ℕ
cased_digit case n = digit_glyph (is_upper case) n

-- The spelling as an item of a string. `\x` has two digits, and `\u{..}` has no leading zeros.
abbrev pub cased_item : Case → Spelling → Item
cased_item case (Plain c) = plain_item c
cased_item case (Simple c) = escape_item (simple_escape c)
cased_item case (Hex b) =
    escape_item (hex_escape (cased_digit case (b / 16)) (cased_digit case (b % 16)))
cased_item case (Unicode c) = escape_item (unicode_escape (digits 16 (is_upper case) c))

-- The spelling as the item of a char or a byte.
abbrev pub cased_char : Case → Spelling → CharItem
cased_char case (Plain c) = plain_char c
cased_char case (Simple c) = escaped_char (simple_escape c)
cased_char case (Hex b) =
    escaped_char (hex_escape (cased_digit case (b / 16)) (cased_digit case (b % 16)))
cased_char case (Unicode c) = escaped_char (unicode_escape (digits 16 (is_upper case) c))

-- The items of a string, and of a char or a byte, with hex digits in lower case.
abbrev pub spelled_item : Spelling → Item
spelled_item spelling = cased_item Lower spelling

abbrev pub spelled_char : Spelling → CharItem
spelled_char spelling = cased_char Lower spelling
