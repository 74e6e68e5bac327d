-- The end of a span in whole characters.
use Rattle.std.specs.Prelude.{◌≡◌, ◌≤◌, ◌<◌, ℕ, List, length}
use Rattle.std.specs.Str.{IsCharBoundary, encode_utf8_all}
use Rattle.std.specs.declared.ops.Range.{Range}
use Rattle.litrs_base.specs.Text.{byte_len}

-- The place is a character boundary of the text iff a character starts there or the text ends.
abbrev pub IsBoundaryOf : List ℕ → ℕ → Type 0
IsBoundaryOf t place = IsCharBoundary (encode_utf8_all t) place

-- `place` is the least character boundary of the text at or after `end`, or `end` if it lies past
-- the text.
pub record IsCharEnd (t : List ℕ) (end place : ℕ) : Type 0 where
  pub at_or_after : end ≤ place
  pub boundary : end ≤ byte_len t → IsBoundaryOf t place
  pub least : (n : ℕ) → end ≤ n → n < place → ¬ IsBoundaryOf t n
  pub past : byte_len t < end → place ≡ end

-- The span starts and ends on character boundaries of the text.
pub record PointsAtCharacters (t : List ℕ) (span : Range ℕ) : Type 0 where
  pub start : IsBoundaryOf t span.start
  pub end : IsBoundaryOf t span.end
  pub in_order : span.start ≤ span.end
  pub within : span.end ≤ byte_len t

-- `bytes`, the UTF-8 of a text, can be cut at both ends of the span, which is in order and within
-- `bytes`.
pub record IsCutBy (bytes : List ℕ) (span : Range ℕ) : Type 0 where
  pub start : IsCharBoundary bytes span.start
  pub end : IsCharBoundary bytes span.end
  pub in_order : span.start ≤ span.end
  pub within : span.end ≤ length bytes
