-- Errors at the front of a text: a literal begins there and none is valid, or an allocation failed.
use Rattle.std.specs.Prelude.{◌≡◌, ◌⊎◌, ◌<◌, ℕ, ◌+◌, List, ◌++◌, IsTrue, unwrap_or}
use Rattle.std.specs.declared.ops.Range.{Range}
use Rattle.litrs_base.specs.CharEnd.{IsCutBy}
use Rattle.litrs_base.specs.Refusal.{refusal_of, char_span_of, shifted, shifted_span}
use Rattle.litrs_base.specs.Text.{byte_len}
use Rattle.litrs_grammar.specs.Literal.{literal_parse}
use Rattle.litrs_grammar.specs.Refused.{IsRefused, IsOutOfMemory}
use Rattle.litrs_prefix.specs.declared.MalformedPrefix.{MalformedPrefix}
use Rattle.litrs_prefix.specs.Piece.{IsPiece}
use Rattle.litrs_prefix.specs.Opens.{opens}
use Rattle.litrs_prefix.specs.Prefix.{HasPrefix, HasNoPrefix}

-- A literal begins at the front of the text, and none is valid. The malformed prefix is the first
-- `len` bytes, one or more, and the error is that of the parse of a literal of any kind for them.
-- So all that `IsRefused` says holds of it: its table, its span in these bytes, its finality.
pub record IsMalformed (t : List ℕ) (e : MalformedPrefix) : Type 0 where
  pub front : List ℕ
  pub rest : List ℕ
  pub spells : front ++ rest ≡ t
  pub len : byte_len front ≡ e.len
  pub some : 0 < e.len
  pub is_piece : IsPiece t front
  pub refused : IsRefused literal_parse front e.error
  pub opens : IsTrue (opens t)
  pub none : HasNoPrefix t

-- The literal at the front of the text is the first `len` bytes, its value is allocated, and the
-- allocation failed.
pub record IsOutOfMemoryAt (t : List ℕ) (e : MalformedPrefix) : Type 0 where
  pub front : List ℕ
  pub rest : List ℕ
  pub spells : front ++ rest ≡ t
  pub len : byte_len front ≡ e.len
  pub refused : IsOutOfMemory literal_parse front e.error
  pub prefix : HasPrefix t refused.derivation rest

-- The error of a call that may allocate.
abbrev pub IsMalformedOrOutOfMemory : List ℕ → MalformedPrefix → Type 0
IsMalformedOrOutOfMemory t e = IsMalformed t e ⊎ IsOutOfMemoryAt t e

-- The error is that of the text `start` bytes into a longer one, with its spans moved by `start`.
pub record IsMovedBy (start : ℕ) (t : List ℕ) (e : MalformedPrefix) : Type 0 where
  pub of_text : MalformedPrefix
  pub malformed : IsMalformedOrOutOfMemory t of_text
  pub len : e.len ≡ of_text.len
  pub refusal : refusal_of e.error ≡ shifted start (refusal_of of_text.error)
  pub char_span : char_span_of e.error ≡ shifted_span start (char_span_of of_text.error)

-- The range of the malformed prefix in a longer text, in which it starts at `start`.
abbrev pub prefix_span : (start : ℕ) → MalformedPrefix → Range ℕ
prefix_span start e = record { start = start; end = start + e.len }

-- The part of the longer text to mark: the character span, or the malformed prefix if there is
-- none.
abbrev pub marked_at : (start : ℕ) → MalformedPrefix → Range ℕ
marked_at start e = unwrap_or (char_span_of e.error) (prefix_span start e)

-- The bytes of the longer text can be cut at both ends of the malformed prefix, and of the part to
-- mark.
abbrev pub IsMarkedAt : (start : ℕ) → (bytes : List ℕ) → MalformedPrefix → Type 0
IsMarkedAt start bytes e = IsCutBy bytes (prefix_span start e) × IsCutBy bytes (marked_at start e)
