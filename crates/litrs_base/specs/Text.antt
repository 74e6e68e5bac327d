-- A text is a list of characters, Unicode scalar values. The Rust Reference, Input format. Places
-- and lengths count the bytes of its UTF-8.
use Rattle.std.specs.Prelude.{◌≡◌, ◌≤◌, ◌++◌, ℕ, Bool, true, false, ◌==◌, ◌&&◌, List, [], ◌∷◌, length, IsTrue}
use Rattle.std.specs.List.{list_all}
use Rattle.std.specs.Str.{encode_utf8_all}
use Rattle.std.specs.declared.ops.Range.{Range}
use Rattle.litrs_base.specs.Characters.{is_scalar}

-- A list of numbers is a text iff each number is a scalar value.
abbrev pub IsText : List ℕ → Type 0
IsText t = IsTrue (list_all is_scalar t)

-- The length of a text in bytes.
abbrev pub byte_len : List ℕ → ℕ
byte_len t = length (encode_utf8_all t)

-- `true` iff the text is empty.
abbrev pub is_empty : List ℕ → Bool
is_empty [] = true
is_empty (c ∷ cs) = false

-- `true` iff the text has a first character that passes the test.
abbrev pub first_passes : (ℕ → Bool) → List ℕ → Bool
first_passes p [] = false
first_passes p (c ∷ cs) = p c

-- `true` iff the second text starts with the first.
abbrev pub begins_with : List ℕ → List ℕ → Bool
begins_with [] t = true
begins_with (c ∷ cs) [] = false
begins_with (c ∷ cs) (d ∷ ds) = (c == d) && begins_with cs ds

-- `true` iff the two texts are equal.
abbrev pub is_text : List ℕ → List ℕ → Bool
is_text [] [] = true
is_text [] (d ∷ ds) = false
is_text (c ∷ cs) [] = false
is_text (c ∷ cs) (d ∷ ds) = (c == d) && is_text cs ds

-- The span starts on a character boundary of the text, after some of its characters, and ends
-- within the text.
pub record PointsInto (t : List ℕ) (span : Range ℕ) : Type 0 where
  pub front : List ℕ
  pub rest : List ℕ
  pub cut : front ++ rest ≡ t
  pub start : span.start ≡ byte_len front
  pub in_order : span.start ≤ span.end
  pub within : span.end ≤ byte_len t
