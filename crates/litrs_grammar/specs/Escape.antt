-- Escapes. The Rust Reference, Tokens, Literals: the tables "Quote escapes", "ASCII escapes", "Byte
-- escapes" and "Unicode escapes". The escapes of each literal are under "Character escapes", "Byte
-- literals", "Byte string literals" and "C string literals".
use Rattle.std.specs.Prelude.{ℕ, ◌+◌, ◌*◌, Bool, false, not, ◌==◌, ◌&&◌, ◌||◌, nat_lt, nat_le, if◌then◌else◌, List, [], ◌∷◌, ◌++◌, Option, Some, None, IsTrue, length, slice_index, drop, zero, suc, count_by, take_while, encode_utf8}
use Rattle.std.specs.Char.{is_ascii_hexdigit, digit_value}
use Rattle.std.specs.List.{list_all, list_any, before_first}
use Rattle.litrs_base.specs.declared.escape.Unescape.{Unescape}
use Rattle.litrs_base.specs.declared.escape.Unescape.TheVariants.{Byte, Unicode}
use Rattle.litrs_base.specs.Refusal.{Refusal, at_byte, spanning}
use Rattle.litrs_base.specs.declared.err.ParseErrorKind.TheVariants.{UnterminatedEscape, DisallowedNulEscape, InvalidXEscape, NonAsciiXEscape, UnicodeEscapeInByteLiteral, UnicodeEscapeWithoutBrace, UnterminatedUnicodeEscape, InvalidStartOfUnicodeEscape, NonHexDigitInUnicodeEscape, TooManyDigitInUnicodeEscape, InvalidUnicodeEscapeChar, UnknownEscape}
use Rattle.litrs_base.specs.Characters.{line_feed, tab, carriage_return, nul, single_quote, double_quote, backslash, digit_zero, underscore, letter_n, letter_r, letter_t, letter_u, letter_x, open_brace, close_brace, is_ascii, is_scalar, nul_is_allowed}
use Rattle.litrs_base.specs.Numeral.{numeral}
use Rattle.litrs_base.specs.declared.quotes.Switches.{Switches}
use Rattle.litrs_base.specs.Text.{is_empty, byte_len, first_passes}

-- An escape: a backslash and one character, `\x` and two digits, or `\u{..}` with the characters
-- between the braces.
pub data Escape : Type 0 where
  simple_escape : ℕ → Escape
  hex_escape : ℕ → ℕ → Escape
  unicode_escape : List ℕ → Escape

-- The text of an escape.
abbrev pub escape_text : Escape → List ℕ
escape_text (simple_escape c) = backslash ∷ c ∷ []
escape_text (hex_escape high low) = backslash ∷ letter_x ∷ high ∷ low ∷ []
escape_text (unicode_escape inner) = backslash ∷ letter_u ∷ open_brace ∷ (inner ++ close_brace ∷ [])

-- The characters that form an escape with a backslash alone: `'`, `"`, `n`, `r`, `t`, `\` and `0`.
abbrev pub is_simple : ℕ → Bool
is_simple c =
    (c == single_quote) || (c == double_quote) || (c == letter_n) || (c == letter_r)
    || (c == letter_t) || (c == backslash) || (c == digit_zero)

-- The values of `\n`, `\r`, `\t` and `\0` are LF, CR, tab and NUL. That of the others is the
-- character after the backslash.
abbrev pub simple_value : ℕ → ℕ
simple_value c =
    if c == letter_n then line_feed
    else if c == letter_r then carriage_return
    else if c == letter_t then tab
    else if c == digit_zero then nul
    else c

-- The number that two hex digits write.
abbrev pub pair_value : ℕ → ℕ → ℕ
pair_value high low = 16 * digit_value high + digit_value low

-- The number that hex digits write, ignoring underscores.
abbrev pub hex_value : List ℕ → ℕ
hex_value = numeral 16

-- The characters allowed between the braces of `\u{..}`.
abbrev pub is_hex_or_underscore : ℕ → Bool
is_hex_or_underscore c = is_ascii_hexdigit c || (c == underscore)

-- The value of an escape.
abbrev pub escape_value : Escape → Unescape
escape_value (simple_escape c) = Byte (simple_value c)
escape_value (hex_escape high low) = Byte (pair_value high low)
escape_value (unicode_escape inner) = Unicode (hex_value inner)

-- The bytes of a value: the byte itself, or the UTF-8 of the character.
abbrev pub value_bytes : Unescape → List ℕ
value_bytes (Byte b) = b ∷ []
value_bytes (Unicode c) = encode_utf8 c

-- A value may be 0 only if NUL is allowed.
abbrev pub allows_value : Switches → ℕ → Bool
allows_value w value = nul_is_allowed w.allow_nul value

-- The value of `\x` is at most 7F, or at most FF if byte escapes are on.
abbrev pub allows_byte : Switches → ℕ → Bool
allows_byte w value = w.byte_escapes || is_ascii value

-- An escape is a simple one; or `\x` and two hex digits; or, if Unicode escapes are on, `\u{..}`.
-- Between the braces there are one to six hex digits, and underscores after the first digit, and
-- the value is a Unicode scalar value.
abbrev pub is_escape : Switches → Escape → Bool
is_escape w (simple_escape c) = is_simple c && allows_value w (simple_value c)
is_escape w (hex_escape high low) =
    is_ascii_hexdigit high && is_ascii_hexdigit low
    && allows_byte w (pair_value high low) && allows_value w (pair_value high low)
is_escape w (unicode_escape inner) =
    w.unicode && first_passes is_ascii_hexdigit inner && list_all is_hex_or_underscore inner
    && nat_le (count_by is_ascii_hexdigit inner) 6
    && allows_value w (hex_value inner) && is_scalar (hex_value inner)

-- `e` is an escape iff the switches `w` allow it.
abbrev pub IsEscape : Switches → Escape → Type 0
IsEscape w e = IsTrue (is_escape w e)

-- The escape at the front of a text, if there is one: a backslash and what it needs after it. This
-- is `x` and two characters, `u` and the characters up to the first `}`, or one character.
abbrev pub escape_at_front : List ℕ → Escape
escape_at_front t =
    let letter = slice_index t 1 in
    if letter == letter_x then hex_escape (slice_index t 2) (slice_index t 3)
    else if letter == letter_u
    then unicode_escape (before_first (λ c. c == close_brace) (drop 3 t))
    else simple_escape letter

-- Refusals. The text is empty or starts with the backslash, from which the spans count. In each
-- function the first row that fits decides. If none fits, there is an escape at the front.

-- `true` iff a character ends after the first two bytes: the first character has two bytes, or the
-- first two characters have. Otherwise the two bytes after `\x` are missing, or they end inside a
-- character.
abbrev pub has_two_bytes : List ℕ → Bool
has_two_bytes [] = false
has_two_bytes (c ∷ []) = byte_len (c ∷ []) == 2
has_two_bytes (c ∷ d ∷ t) = (byte_len (c ∷ []) == 2) || (byte_len (c ∷ d ∷ []) == 2)

-- The refusal by the text after `\x`.
abbrev pub hex_refusal : Switches → List ℕ → Option Refusal
hex_refusal w t =
    let high = slice_index t 0 in
    let low = slice_index t 1 in
    if not (has_two_bytes t) then Some (spanning 0 (2 + byte_len t) UnterminatedEscape)
    else if not (is_ascii_hexdigit high && is_ascii_hexdigit low)
    then Some (spanning 0 4 InvalidXEscape)
    else if not (allows_byte w (pair_value high low)) then Some (spanning 0 4 NonAsciiXEscape)
    else if not (allows_value w (pair_value high low)) then Some (spanning 0 4 DisallowedNulEscape)
    else None

-- The place of the first character that passes the test `p` after `n` others have passed it.
abbrev pub place_after : ℕ → (ℕ → Bool) → List ℕ → ℕ
place_after n p [] = 0
place_after zero p (c ∷ t) = if p c then 0 else 1 + place_after zero p t
place_after (suc n) p (c ∷ t) = 1 + place_after (if p c then n else suc n) p t

-- The refusal by the text between `\u{` and the first `}`.
abbrev pub inner_refusal : Switches → List ℕ → Option Refusal
inner_refusal w inner =
    let digits = take_while is_hex_or_underscore inner in
    if is_empty inner || first_passes (λ c. c == underscore) inner
    then Some (at_byte 3 InvalidStartOfUnicodeEscape)
    else if nat_lt (length digits) (length inner) && nat_le (count_by is_ascii_hexdigit digits) 6
    then Some (at_byte (3 + length digits) NonHexDigitInUnicodeEscape)
    else if nat_lt 6 (count_by is_ascii_hexdigit inner)
    then Some (at_byte (3 + place_after 6 is_ascii_hexdigit inner) TooManyDigitInUnicodeEscape)
    else if not (allows_value w (hex_value inner))
    then Some (spanning 0 (4 + length inner) DisallowedNulEscape)
    else if not (is_scalar (hex_value inner))
    then Some (spanning 0 (4 + length inner) InvalidUnicodeEscapeChar)
    else None

-- The refusal by the text after `\u`.
abbrev pub unicode_refusal : Switches → List ℕ → Option Refusal
unicode_refusal w t =
    if not w.unicode then Some (spanning 0 2 UnicodeEscapeInByteLiteral)
    else if not (first_passes (λ c. c == open_brace) t)
    then Some (spanning 0 2 UnicodeEscapeWithoutBrace)
    else if not (list_any (λ c. c == close_brace) t)
    then Some (spanning 0 (2 + byte_len t) UnterminatedUnicodeEscape)
    else inner_refusal w (before_first (λ c. c == close_brace) (drop 1 t))

-- The refusal of a text that is empty or starts with a backslash.
unfoldable pub escape_refusal : Switches → List ℕ → Option Refusal
escape_refusal w [] = Some (at_byte 0 UnterminatedEscape)
escape_refusal w (c ∷ []) = Some (at_byte 0 UnterminatedEscape)
escape_refusal w (c ∷ letter ∷ t) =
    if (letter == digit_zero) && not w.allow_nul then Some (spanning 0 2 DisallowedNulEscape)
    else if letter == letter_x then hex_refusal w t
    else if letter == letter_u then unicode_refusal w t
    else if is_simple letter then None
    else Some (spanning 0 2 UnknownEscape)
