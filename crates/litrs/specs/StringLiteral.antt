-- String, byte string and C string literals.
use Rattle.std.specs.Prelude.{◌≡◌, ◌≤◌, ℕ, Bool, true, false, List, None, IsTrue, length, slice_range, drop}
use Rattle.std.specs.Str.{chars, IsCharBoundary}
use Rattle.litrs_base.specs.Quotes.{quoted_front, string_switches}
use Rattle.litrs_base.specs.Text.{begins_with}
use Rattle.litrs_base.specs.declared.quotes.StringKind.TheVariants.{String as string_kind}
use Rattle.litrs_grammar.specs.Literal.{StringParts, string_suffix, string_value}
use Rattle.litrs_grammar.specs.Allocation.{has_escapes}
use Rattle.litrs_grammar.specs.Strings.{is_raw}
use Rattle.litrs_lex.specs.QuotedCut.{IsQuotedValue}
use Rattle.litrs.specs.declared.kept_value.BodyPlace.{BodyPlace}
use Rattle.litrs.specs.declared.kept_value.KeptValue.{KeptValue}
use Rattle.litrs.specs.declared.kept_value.KeptValue.TheVariants.{InText, Owned}

-- A literal: its buffer, the bytes of its text, and its parts.
pub record StringLiteral (B : Type 0) : Type 0 where
  pub buffer : B
  pub raw : List ℕ
  pub parts : StringParts

-- The value as it is kept: the place of the body in the text, or the value itself.

-- The value as it is kept, with the contents of its container.
abbrev pub kept_map : {C : Type 0} → (C → List ℕ) → KeptValue C → KeptValue (List ℕ)
kept_map contents (InText place) = InText place
kept_map contents (Owned value) = Owned (contents value)

-- `true` iff the value itself is kept.
abbrev pub is_owned : {C : Type 0} → KeptValue C → Bool
is_owned (InText place) = false
is_owned (Owned value) = true

-- `true` iff the body is raw. The place of such a body is kept.
abbrev pub is_raw_kept : {C : Type 0} → KeptValue C → Bool
is_raw_kept (InText place) = place.is_raw
is_raw_kept (Owned value) = false

-- The value, given the bytes of the text.
abbrev pub kept_value : List ℕ → KeptValue (List ℕ) → List ℕ
kept_value bytes (InText place) = slice_range bytes place.start place.end
kept_value bytes (Owned value) = value

-- `bytes` can be cut at the start and the end of the body, which are in order.
pub record IsBodyOf (bytes : List ℕ) (place : BodyPlace) : Type 0 where
  pub in_order : place.start ≤ place.end
  pub start : IsCharBoundary bytes place.start
  pub end : IsCharBoundary bytes place.end

-- Like `IsBodyOf`, if the place of the body is kept.
abbrev pub IsPlaced : List ℕ → KeptValue (List ℕ) → Type 0
IsPlaced bytes (InText place) = IsBodyOf bytes place
IsPlaced bytes (Owned value) = Unit {0}

-- The parts that a string literal or a byte string literal keeps beside the text: its value, or the
-- place of its body, and the start of its suffix.
pub record IsStringAt
    (kept : KeptValue (List ℕ)) (start_suffix : ℕ) (bytes : List ℕ) (d : StringParts)
    : Type 0 where
  pub placed : IsPlaced bytes kept
  pub suffix_place : IsCharBoundary bytes start_suffix
  pub suffix : chars (drop start_suffix bytes) ≡ string_suffix d
  pub raw : is_raw_kept kept ≡ is_raw d
  pub owned : is_owned kept ≡ has_escapes d
  pub is_value : kept_value bytes kept ≡ string_value d

-- The parts that a C string literal keeps beside the text: its value without the closing zero, and
-- the start of its suffix.
pub record IsCStringAt
    (value : List ℕ) (start_suffix : ℕ) (bytes : List ℕ) (d : StringParts) : Type 0 where
  pub suffix_place : IsCharBoundary bytes start_suffix
  pub suffix : chars (drop start_suffix bytes) ≡ string_suffix d
  pub is_value : value ≡ string_value d

-- The text is a quoted string without a backslash and without a suffix, for example `"a"`.
pub record IsPlainString (bytes : List ℕ) : Type 0 where
  pub quote : IsTrue (begins_with (quoted_front string_kind) bytes)
  pub body : IsQuotedValue string_switches bytes 1 None (length bytes)
