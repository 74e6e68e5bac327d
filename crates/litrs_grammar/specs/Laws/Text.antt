-- Laws of places and spans in texts.
use Rattle.std.specs.Prelude.{◌≡◌, ◌≤◌, ℕ, List}
use Rattle.std.specs.declared.ops.Range.{Range}
use Rattle.litrs_base.specs.Text.{byte_len, PointsInto}
use Rattle.litrs_base.specs.CharEnd.{IsBoundaryOf, IsCharEnd}

-- A place has only one end in whole characters.
abbrev pub CharEndsAreUnique : Type 0
CharEndsAreUnique = (t : List ℕ) (end p q : ℕ) → IsCharEnd t end p → IsCharEnd t end q → p ≡ q

-- A span in a text starts on a character boundary, and lies within the text.
abbrev pub SpansStartOnBoundaries : Type 0
SpansStartOnBoundaries = (t : List ℕ) (span : Range ℕ) → PointsInto t span →
    IsBoundaryOf t span.start × (span.start ≤ span.end) × (span.end ≤ byte_len t)
