-- The lines of a text that a range marks.
use Rattle.std.specs.Prelude.{ℕ, ◌-◌, ◌==◌, ◌&&◌, ◌||◌, Bool, false, List, [], ◌∷◌, ◌++◌, length, min, take, drop, slice_range, if◌then◌else◌}
use Rattle.std.specs.Str.{chars}
use Rattle.litrs_base.specs.Text.{first_passes}
use Rattle.litrs_diagnostic.specs.Position.{is_line_feed, last_line, line_number, column_in}

-- `true` iff the character is CR.
abbrev pub is_carriage_return : ℕ → Bool
is_carriage_return c = c == 13

-- `true` iff the text starts with an LF, or with a CR and an LF.
abbrev pub ends_line : List ℕ → Bool
ends_line [] = false
ends_line (c ∷ t) = is_line_feed c || (is_carriage_return c && first_passes is_line_feed t)

-- The characters before the first LF, or CR and LF, or all characters if there is none.
unfoldable pub first_line : List ℕ → List ℕ
first_line [] = []
first_line (c ∷ t) = if ends_line (c ∷ t) then [] else c ∷ first_line t

-- `true` iff the text is an LF, or a CR and an LF.
abbrev pub is_line_end : List ℕ → Bool
is_line_end [] = false
is_line_end (c ∷ []) = is_line_feed c
is_line_end (c ∷ d ∷ []) = is_carriage_return c && is_line_feed d
is_line_end (c ∷ d ∷ e ∷ t) = false

-- A text without the LF, or CR and LF, at its end. An LF at the end of a text ends its last line,
-- and does not begin another one.
unfoldable pub without_line_end : List ℕ → List ℕ
without_line_end [] = []
without_line_end (c ∷ t) = if is_line_end (c ∷ t) then [] else c ∷ without_line_end t

-- `true` iff the text is not empty and its last character passes the test.
unfoldable pub last_passes : (ℕ → Bool) → List ℕ → Bool
last_passes test [] = false
last_passes test (c ∷ []) = test c
last_passes test (c ∷ d ∷ t) = last_passes test (d ∷ t)

-- `true` iff the place is between the CR and the LF at the end of a line.
abbrev pub is_in_line_end : (source : List ℕ) → (place : ℕ) → Bool
is_in_line_end source place =
    last_passes is_carriage_return (take place source)
    && first_passes is_line_feed (drop place source)

-- The place, or the one before it if the place is between the CR and the LF at the end of a line.
unfoldable pub before_line_end : (source : List ℕ) → (place : ℕ) → ℕ
before_line_end source place = if is_in_line_end source place then place - 1 else place

-- A place of a text, or the end of its line if the place is in a line end or after the last line.
abbrev pub place_on_line : (source : List ℕ) → (place : ℕ) → ℕ
place_on_line source place =
    before_line_end source (min place (length (without_line_end source)))

-- A line that is cut at both ends of the marked part.
pub record Line : Type 0 where
  pub before : List ℕ
  pub marked : List ℕ
  pub after : List ℕ

-- The line on which a range begins, in a text that is cut into the parts before, in and after the
-- range. If the range continues in the next line, the rest of this line is marked.
unfoldable pub start_line : (before range after : List ℕ) → Line
start_line before range after =
    let rest = first_line (range ++ after) in
    record {
      before = last_line before;
      marked = take (length range) rest;
      after = drop (length range) rest;
    }

-- The line on which a range ends that begins on an earlier line. It is marked from its start.
unfoldable pub end_line : (range after : List ℕ) → Line
end_line range after =
    let mark = last_line range in
    let rest = first_line (mark ++ after) in
    record { before = []; marked = take (length mark) rest; after = drop (length mark) rest }

-- The number of the line of a place, and its column, in a text whose first character is at
-- `first_line` and `first_column`.
abbrev pub line_at : (first_line : ℕ) → (source : List ℕ) → (place : ℕ) → ℕ
line_at first_line source place =
    line_number first_line (chars (take (place_on_line source place) source))

abbrev pub column_at : (first_column : ℕ) → (source : List ℕ) → (place : ℕ) → ℕ
column_at first_column source place =
    column_in first_column (chars (take (place_on_line source place) source))

-- The line on which the bytes from `start` up to `end` begin, and the one on which they end. A
-- range that ends after the last line is taken as if it ended with that line.
unfoldable pub start_line_at : (source : List ℕ) → (start end : ℕ) → Line
start_line_at source start end =
    let from = place_on_line source start in
    let to = place_on_line source end in
    start_line (chars (take from source)) (chars (slice_range source from to))
    (chars (drop to source))

unfoldable pub end_line_at : (source : List ℕ) → (start end : ℕ) → Line
end_line_at source start end =
    let from = place_on_line source start in
    let to = place_on_line source end in
    end_line (chars (slice_range source from to)) (chars (drop to source))
