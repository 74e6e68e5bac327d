-- The results of `unescape`: the escape at the front of a text, or an error. The Rust Reference,
-- Tokens, Literals: the tables of escapes.
use Rattle.std.specs.Prelude.{◌≡◌, ◌≤◌, ℕ, Bool, List, ◌++◌, Some, IfSome, IsTrue, IsFalse, length, take, drop, count_by}
use Rattle.std.specs.Char.{is_ascii_hexdigit}
use Rattle.std.specs.List.{list_all}
use Rattle.std.specs.Str.{chars, IsUtf8, IsCharBoundary}
use Rattle.litrs_base.specs.declared.err.ParseError.{ParseError}
use Rattle.litrs_base.specs.declared.escape.Unescape.{Unescape}
use Rattle.litrs_base.specs.CharEnd.{PointsAtCharacters}
use Rattle.litrs_base.specs.Finality.{is_final}
use Rattle.litrs_base.specs.Refusal.{refusal_of, kind_of, char_span_of, IsInText, HasCharSpan}
use Rattle.litrs_base.specs.Text.{byte_len, first_passes, is_empty}
use Rattle.litrs_base.specs.declared.quotes.Switches.{Switches}
use Rattle.litrs_grammar.specs.Escape.{Escape, IsEscape, escape_text, escape_value, escape_refusal, is_hex_or_underscore, hex_value}
use Rattle.litrs_grammar.specs.Laws.Escape.{BeginsWithEscape}
use Rattle.litrs_lex.specs.declared.escape.HexDigits.{HexDigits}

-- The switches with these values.
abbrev pub switches : (unicode byte_escapes allow_nul : Bool) → Switches
switches unicode byte_escapes allow_nul =
    record { unicode = unicode; byte_escapes = byte_escapes; allow_nul = allow_nul }

-- The text of these bytes starts with an escape, and with no other. The escape has the value
-- `value` and `len` bytes, after which the text can be cut.
pub record IsUnescaped (w : Switches) (bytes : List ℕ) (value : Unescape) (len : ℕ) : Type 0 where
  pub escape : Escape
  pub rest : List ℕ
  pub spells : escape_text escape ++ rest ≡ chars bytes
  pub grammar : IsEscape w escape
  pub only : (e : Escape) (r : List ℕ) →
      escape_text e ++ r ≡ chars bytes → IsEscape w e → e ≡ escape
  pub is_value : escape_value escape ≡ value
  pub size : byte_len (escape_text escape) ≡ len
  pub within : len ≤ length bytes
  pub boundary : IsCharBoundary bytes len
  pub after : chars (drop len bytes) ≡ rest
  pub utf8 : IsUtf8 (drop len bytes)

-- The text does not start with an escape, and the table of refusals has the kind and the span of
-- the error for it. If the text is not empty, the span lies within it and starts on a character
-- boundary, and the character span ends on one. For the empty text the span is 0..1. If the kind is
-- final, no longer text starts with an escape, and the table has this kind and span for each.
pub record IsEscapeRefused (w : Switches) (t : List ℕ) (e : ParseError) : Type 0 where
  pub none : ¬ BeginsWithEscape w t
  pub table : escape_refusal w t ≡ Some (refusal_of e)
  pub span : IsFalse (is_empty t) → IsInText t (refusal_of e)
  pub char_span : HasCharSpan t e
  pub char_ends : IsFalse (is_empty t) → IfSome (char_span_of e) (PointsAtCharacters t)
  pub final : IsTrue (is_final (kind_of e)) → (more : List ℕ) → ¬ BeginsWithEscape w (t ++ more)
  pub stays : IsTrue (is_final (kind_of e)) → (more : List ℕ) →
      escape_refusal w (t ++ more) ≡ Some (refusal_of e)

-- The table refuses the escape at the front of the text with the error. The other fields of
-- `IsEscapeRefused` follow.
pub record HasEscapeRefusal (w : Switches) (t : List ℕ) (e : ParseError) : Type 0 where
  pub table : escape_refusal w t ≡ Some (refusal_of e)
  pub char_span : HasCharSpan t e

-- The hex digits and underscores at the front of the bytes, with their length and value. They
-- extend to the first byte that is neither, or to the seventh digit.
pub record IsHexDigits (bytes : List ℕ) (digits : HexDigits) : Type 0 where
  pub within : digits.len ≤ length bytes
  pub passes : IsTrue (list_all is_hex_or_underscore (take digits.len bytes))
  pub few : count_by is_ascii_hexdigit (take digits.len bytes) ≤ 6
  pub value : hex_value (take digits.len bytes) ≡ digits.value
  pub stops : IsTrue (first_passes is_hex_or_underscore (drop digits.len bytes)) →
      IsTrue (first_passes is_ascii_hexdigit (drop digits.len bytes))
      × (count_by is_ascii_hexdigit (take digits.len bytes) ≡ 6)
