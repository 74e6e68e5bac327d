-- A line with the marks below a part of it.
use Rattle.std.specs.Prelude.{ℕ, Bool, false, not, ◌&&◌, ◌||◌, ◌==◌, ◌+◌, ◌-◌, List, [], ◌∷◌, ◌++◌, Option, None, Some, length, replicate, max, nat_lt, codes, if◌then◌else◌}
use Rattle.std.specs.Fmt.{decimal}
use Rattle.std.specs.Str.{chars}
use Rattle.litrs_diagnostic.specs.Colors.{level_color, painted}
use Rattle.litrs_diagnostic.specs.Shown.{blank, caret, dash, shown, columns}
use Rattle.litrs_diagnostic.specs.Window.{Window}
use Rattle.litrs_diagnostic.specs.declared.colors.Color.{Color}
use Rattle.litrs_diagnostic.specs.declared.colors.Color.TheVariants.{BoldBlue}
use Rattle.litrs_diagnostic.specs.declared.marks.Mark.{Mark}
use Rattle.litrs_diagnostic.specs.declared.marks.Mark.TheVariants.{Primary, Secondary}
use Rattle.litrs_diagnostic.specs.declared.row.Above.{Above}

abbrev pub blanks : ℕ → List ℕ
blanks n = replicate n blank

-- An LF.
abbrev pub line_feed : List ℕ
line_feed = 10 ∷ []

-- The range of a message is marked by `^` in the color of its level, a label by `-`.
abbrev pub mark_glyph : Mark → ℕ
mark_glyph (Primary level) = caret
mark_glyph Secondary = dash

abbrev pub mark_color : Mark → Color
mark_color (Primary level) = level_color level
mark_color Secondary = BoldBlue

-- The marks below a text: as many as it has columns, and at least one.
abbrev pub marks_below : (glyph : ℕ) → List ℕ → List ℕ
marks_below glyph marked = replicate (max 1 (columns (shown marked))) glyph

-- `...` in place of the rest of a line that is cut.
abbrev pub dots : (is_cut : Bool) → List ℕ
dots is_cut = if is_cut then codes "..." else []

-- A line with its number, the marks below a part of it, and a label after the marks, which is in
-- bytes.
pub record Row : Type 0 where
  pub number : ℕ
  pub line : Window
  pub mark : Mark
  pub label : List ℕ

-- A margin of the width `margin` without a number, with a sign after it.
abbrev pub margin_text : (is_colored : Bool) → (margin : ℕ) → (sign : List ℕ) → List ℕ
margin_text is_colored margin sign = painted is_colored BoldBlue (blanks margin ++ sign)

-- A line after its number in the margin.
unfoldable pub line_text : (is_colored : Bool) → (margin : ℕ) → Row → List ℕ
line_text is_colored margin row =
    let line = row.line in
    painted is_colored BoldBlue (decimal row.number
    ++ (blanks (margin - length (decimal row.number)) ++ codes " |"))
    ++ (codes " " ++ (dots line.is_cut_before ++ (shown line.before ++ (shown line.marked
    ++ (shown line.after ++ (dots line.is_cut_after ++ line_feed))))))

-- A blank before a label, if there is a label.
abbrev pub label_gap : (label : List ℕ) → List ℕ
label_gap [] = []
label_gap (c ∷ t) = blank ∷ []

-- The marks of a line, after spaces as wide as the text before the marked part is shown. The label
-- follows.
unfoldable pub marks_text : (is_colored : Bool) → (margin : ℕ) → Row → List ℕ
marks_text is_colored margin row =
    let line = row.line in
    margin_text is_colored margin (codes " |")
    ++ (painted is_colored (mark_color row.mark) (codes " "
    ++ (blanks (length (dots line.is_cut_before)) ++ (blanks (columns (shown line.before))
    ++ (marks_below (mark_glyph row.mark) line.marked
    ++ (label_gap row.label ++ shown (chars row.label))))))
    ++ line_feed)

-- `true` iff all of a line is shown.
abbrev pub is_whole : Window → Bool
is_whole line = not (line.is_cut_before || line.is_cut_after)

-- The line of a row.
abbrev pub above_of : Row → Above
above_of row = record { number = row.number; is_whole = is_whole row.line }

-- `true` iff the last line that was written is that of the row, and all of it is shown.
abbrev pub is_line_above : (above : Option Above) → Row → Bool
is_line_above None row = false
is_line_above (Some above) row =
    (above.number == row.number) && (above.is_whole && is_whole row.line)

-- `true` iff the line with this number comes after the last one that was written, and there are
-- lines between the two.
abbrev pub skips_lines : (above : Option Above) → (number : ℕ) → Bool
skips_lines None number = false
skips_lines (Some above) number = nat_lt (above.number + 1) number

-- `...` in place of lines that are not shown.
abbrev pub gap_text : (is_colored is_gap : Bool) → List ℕ
gap_text is_colored is_gap =
    if is_gap then painted is_colored BoldBlue (codes "...") ++ line_feed else []

-- The line of a row, unless it is the last one that was written.
abbrev pub line_below : (is_colored : Bool) → (margin : ℕ) → (above : Option Above) → Row → List ℕ
line_below is_colored margin above row =
    if is_line_above above row then []
    else gap_text is_colored (skips_lines above row.number) ++ line_text is_colored margin row

-- The lines of rows in turn, after a line that was written before them. So the marks of several
-- labels in one line follow it, each in a line of its own.
unfoldable pub rows_text : (is_colored : Bool) → (margin : ℕ) → (above : Option Above) → List Row
    → List ℕ
rows_text is_colored margin above [] = []
rows_text is_colored margin above (row ∷ rows) =
    (line_below is_colored margin above row ++ marks_text is_colored margin row)
    ++ rows_text is_colored margin (Some (above_of row)) rows

-- The last line that was written after these rows.
unfoldable pub below_rows : (above : Option Above) → List Row → Option Above
below_rows above [] = above
below_rows above (row ∷ rows) = below_rows (Some (above_of row)) rows

-- A row, if it is shown.
abbrev pub row_if : (is_shown : Bool) → Row → List Row
row_if is_shown row = if is_shown then row ∷ [] else []
