-- Laws of the lines of any bytes, and of the parts from which they are cut.
use Rattle.std.specs.Prelude.{◌≡◌, ◌≢◌, ℕ, List, [], ◌∷◌, ◌++◌, All, flat_map}
use Rattle.litrs_base.specs.Characters.{line_feed, carriage_return}
use Rattle.litrs_lines.specs.Lines.{HasNoLineFeed, strip_cr, ended_parts_of, ended_lines, open_line}

-- Each part with an LF after it, followed by the last part.
abbrev pub spelled : List (List ℕ) → List ℕ → List ℕ
spelled lines last = flat_map (λ line. line ++ line_feed ∷ []) lines ++ last

-- The ended parts and the open line spell the bytes.
abbrev pub LinesSpellTheBytes : Type 0
LinesSpellTheBytes = (bytes : List ℕ) → spelled (ended_parts_of bytes) (open_line bytes) ≡ bytes

-- None of them contains an LF.
abbrev pub NoLineFeedInLines : Type 0
NoLineFeedInLines = (bytes : List ℕ) →
    All HasNoLineFeed (ended_parts_of bytes) × HasNoLineFeed (open_line bytes)

-- No other parts without LF spell the bytes.
abbrev pub LinesAreUnique : Type 0
LinesAreUnique = (lines : List (List ℕ)) (last : List ℕ) →
    All HasNoLineFeed lines → HasNoLineFeed last →
    (ended_parts_of (spelled lines last) ≡ lines) × (open_line (spelled lines last) ≡ last)

-- One CR at the end of a part does not belong to its line, and everything else does.
abbrev pub OneCrEndsALine : Type 0
OneCrEndsALine = (line : List ℕ) → (strip_cr (line ++ carriage_return ∷ []) ≡ line)
    × ((b : ℕ) → b ≢ carriage_return → strip_cr (line ++ b ∷ []) ≡ line ++ b ∷ [])

-- The lines of bytes without CR are the parts.
abbrev pub LinesWithoutCr : Type 0
LinesWithoutCr = (bytes : List ℕ) → All (λ b. b ≢ carriage_return) bytes →
    ended_lines bytes ≡ ended_parts_of bytes
