-- The line and the column of a place: lines and the characters of a line are counted from 1.
use Rattle.std.specs.Prelude.{ℕ, ◌+◌, ◌==◌, Bool, List, [], ◌∷◌, length, count_by, if◌then◌else◌}
use Rattle.std.specs.List.{list_any}

-- `true` iff the character is LF.
abbrev pub is_line_feed : ℕ → Bool
is_line_feed c = c == 10

-- The characters after the last LF, or all characters if there is none.
unfoldable pub last_line : List ℕ → List ℕ
last_line [] = []
last_line (c ∷ t) = if list_any is_line_feed (c ∷ t) then last_line t else c ∷ t

-- The number of the line after the characters `before` of a text whose first line has the number
-- `first_line`.
abbrev pub line_number : (first_line : ℕ) → List ℕ → ℕ
line_number first_line before = first_line + count_by is_line_feed before

-- The column after the characters `before` of a text: one more than the number of those since the
-- last LF, or since the start of the text.
abbrev pub column_number : List ℕ → ℕ
column_number before = length (last_line before) + 1

-- Like `column_number`, for a text whose first character has the column `first_column`, which
-- counts only in the first line.
unfoldable pub column_in : (first_column : ℕ) → List ℕ → ℕ
column_in first_column before =
    if list_any is_line_feed before then column_number before else first_column + length before
