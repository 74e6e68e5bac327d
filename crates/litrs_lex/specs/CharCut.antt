-- The parts of a char or a byte, by the place of its suffix, in bytes. The Rust Reference, Tokens,
-- Literals: "Character literals" and "Byte literals".
use Rattle.std.specs.Prelude.{◌≡◌, ℕ, ◌+◌, ◌-◌, ◌==◌, Bool, List, ◌∷◌, ◌++◌, length, take, drop, slice_index, slice_range, Some, IsTrue, if◌then◌else◌}
use Rattle.std.specs.Str.{chars, IsCharBoundary}
use Rattle.litrs_base.specs.declared.err.ParseError.{ParseError}
use Rattle.litrs_base.specs.declared.escape.Unescape.{Unescape}
use Rattle.litrs_base.specs.Characters.{single_quote, backslash, letter_x, letter_u}
use Rattle.litrs_base.specs.Refusal.{refusal_of, HasCharSpan}
use Rattle.litrs_base.specs.Text.{byte_len}
use Rattle.litrs_base.specs.Unescape.{unescaped_number, is_unescaped_char, is_unescaped_byte}
use Rattle.litrs_grammar.specs.Escape.{Escape, simple_escape, hex_escape, unicode_escape}
use Rattle.litrs_base.specs.declared.quotes.CharKind.{CharKind}
use Rattle.litrs_base.specs.declared.quotes.CharKind.TheVariants.{Char as char_kind, Byte as byte_kind}
use Rattle.litrs_base.specs.Quotes.{char_front}
use Rattle.litrs_grammar.specs.CharByte.{CharItem, plain_char, escaped_char, char_item_text, char_value, is_char_item, CharParts, IsCharLiteral, char_item_refusal}
use Rattle.litrs_grammar.specs.Suffix.{is_suffix}

-- The escape with this text.
abbrev pub escape_written : List ℕ → Escape
escape_written t =
    let letter = slice_index t 1 in
    if letter == letter_x then hex_escape (slice_index t 2) (slice_index t 3)
    else if letter == letter_u then unicode_escape (take (length t - 4) (drop 3 t))
    else simple_escape letter

-- The character or the escape with this text.
abbrev pub item_written : List ℕ → CharItem
item_written t =
    if slice_index t 0 == backslash then escaped_char (escape_written t)
    else plain_char (slice_index t 0)

-- The parts of a literal whose suffix starts at the place. The item is between the front and the
-- closing quote.
abbrev pub char_parts_at : CharKind → ℕ → List ℕ → CharParts
char_parts_at kind start bytes = record {
  item = item_written (chars (slice_range bytes (length (char_front kind)) (start - 1)));
  suffix = chars (drop start bytes);
}

-- The text is a literal of the kind with the value, and its suffix starts at `start`.
pub record IsCharAt (kind : CharKind) (value start : ℕ) (bytes : List ℕ) : Type 0 where
  pub place : IsCharBoundary bytes start
  pub literal : IsCharLiteral kind (chars bytes) (char_parts_at kind start bytes)
  pub is_value : char_value (char_parts_at kind start bytes).item ≡ value

-- After the front.

-- `true` iff the value can be that of an escape in a literal of the kind.
abbrev pub unwraps_as : CharKind → Unescape → Bool
unwraps_as char_kind = is_unescaped_char
unwraps_as byte_kind = is_unescaped_byte

-- The bytes start with a character or an escape with this value and `len` bytes.
pub record IsItemRead (kind : CharKind) (bytes : List ℕ) (value : Unescape) (len : ℕ) : Type 0 where
  pub item : CharItem
  pub rest : List ℕ
  pub spells : char_item_text item ++ rest ≡ chars bytes
  pub grammar : IsTrue (is_char_item kind item)
  pub is_value : unescaped_number value ≡ char_value item
  pub unwraps : IsTrue (unwraps_as kind value)
  pub size : byte_len (char_item_text item) ≡ len
  pub boundary : IsCharBoundary bytes len

-- The table refuses the text after the front.
pub record IsItemRefused (kind : CharKind) (t : List ℕ) (e : ParseError) : Type 0 where
  pub table : char_item_refusal kind t ≡ Some (refusal_of e)
  pub char_span : HasCharSpan t e

-- The bytes are an item, the closing quote and a suffix, which starts at `start`.
pub record IsCutAfter (kind : CharKind) (bytes : List ℕ) (value : Unescape) (start : ℕ)
    : Type 0 where
  pub item : CharItem
  pub suffix : List ℕ
  pub spells : char_item_text item ++ single_quote ∷ suffix ≡ chars bytes
  pub grammar : IsTrue (is_char_item kind item)
  pub is_suffix : IsTrue (is_suffix suffix)
  pub is_value : unescaped_number value ≡ char_value item
  pub unwraps : IsTrue (unwraps_as kind value)
  pub size : byte_len (char_item_text item) + 1 ≡ start
