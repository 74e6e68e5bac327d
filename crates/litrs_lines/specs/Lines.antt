-- The lines of some bytes.
use Rattle.std.specs.Prelude.{◌≡◌, ◌==◌, ℕ, Bool, false, List, [], ◌∷◌, ◌++◌, ◌-◌, length, take, slice_index, All, map, if◌then◌else◌}
use Rattle.std.specs.List.{slice_split}
use Rattle.litrs_base.specs.Characters.{line_feed, carriage_return}

-- `true` for LF, which ends a line.
abbrev pub is_line_feed : ℕ → Bool
is_line_feed b = b == line_feed

-- No line ends within the bytes.
abbrev pub HasNoLineFeed : List ℕ → Type 0
HasNoLineFeed bytes = All (λ b. is_line_feed b ≡ false) bytes

-- A part and those after it, without the last.
abbrev pub before_last_part : List ℕ → List (List ℕ) → List (List ℕ)
before_last_part part [] = []
before_last_part part (next ∷ parts) = part ∷ before_last_part next parts

-- The last of a part and those after it.
abbrev pub last_part : List ℕ → List (List ℕ) → List ℕ
last_part part [] = part
last_part part (next ∷ parts) = last_part next parts

-- All parts except the last.
abbrev pub ended_parts : List (List ℕ) → List (List ℕ)
ended_parts [] = []
ended_parts (part ∷ parts) = before_last_part part parts

-- The last part.
abbrev pub open_part : List (List ℕ) → List ℕ
open_part [] = []
open_part (part ∷ parts) = last_part part parts

-- The part alone, or nothing if it is empty.
abbrev pub unless_empty : List ℕ → List (List ℕ)
unless_empty [] = []
unless_empty (b ∷ bs) = (b ∷ bs) ∷ []

-- The parts into which LFs split the bytes, without the last. Each has an LF after it.
unfoldable pub ended_parts_of : List ℕ → List (List ℕ)
ended_parts_of bytes = ended_parts (slice_split is_line_feed bytes)

-- A part without one CR at its end.
abbrev pub strip_cr : List ℕ → List ℕ
strip_cr bytes =
    if slice_index bytes (length bytes - 1) == carriage_return then take (length bytes - 1) bytes
    else bytes

-- The ended lines. One CR directly before an LF belongs to the line end.
abbrev pub ended_lines : List ℕ → List (List ℕ)
ended_lines bytes = map strip_cr (ended_parts_of bytes)

-- The bytes after the last LF.
unfoldable pub open_line : List ℕ → List ℕ
open_line bytes = open_part (slice_split is_line_feed bytes)

-- The ended lines, and the bytes after the last LF if there are any. A CR at their end belongs to
-- them.
unfoldable pub lines_of : List ℕ → List (List ℕ)
lines_of bytes = ended_lines bytes ++ unless_empty (open_line bytes)
