-- Labels of further ranges.
use Rattle.std.specs.Prelude.{ℕ, Bool, ◌&&◌, List, Option, None, Some, filter, fold, map, max, nat_le, nat_lt}
use Rattle.litrs_diagnostic.specs.Line.{line_at, start_line_at}
use Rattle.litrs_diagnostic.specs.Row.{Row}
use Rattle.litrs_diagnostic.specs.Window.{fitted}
use Rattle.litrs_diagnostic.specs.declared.marks.Mark.TheVariants.{Secondary}

-- A label on the bytes from `start` up to `end` of `source`. All texts are bytes.
pub record LabelOn : Type 0 where
  pub source : List ℕ
  pub start : ℕ
  pub end : ℕ
  pub text : List ℕ

-- The number of the line on which a label begins, in a text whose first line has the number
-- `first_line`.
abbrev pub label_number : (first_line : ℕ) → LabelOn → ℕ
label_number first_line label = line_at first_line label.source label.start

-- The row of a label: the line on which it begins, of which `width` columns are shown. If the label
-- continues in the next line, the rest of this line is marked.
unfoldable pub label_row : (first_line width : ℕ) → LabelOn → Row
label_row first_line width label = record {
  number = label_number first_line label;
  line = fitted width (start_line_at label.source label.start label.end);
  mark = Secondary;
  label = label.text;
}

-- `true` iff the number is at least `from`, and less than `to` if there is such a bound.
abbrev pub is_between : (from : ℕ) → (to : Option ℕ) → (number : ℕ) → Bool
is_between from None number = nat_le from number
is_between from (Some to) number = nat_le from number && nat_lt number to

-- The rows of the labels on the lines from `from` up to `to`, in the order of the labels.
abbrev pub rows_between : (first_line width from : ℕ) → (to : Option ℕ) → List LabelOn → List Row
rows_between first_line width from to labels =
    filter (λ row. is_between from to row.number) (map (label_row first_line width) labels)

-- The greatest of `last` and the numbers of the labels' lines.
abbrev pub greatest_number : (first_line last : ℕ) → List LabelOn → ℕ
greatest_number first_line last labels =
    fold (λ greatest label. max greatest (label_number first_line label)) last labels
