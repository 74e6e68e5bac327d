-- The part of a line that is shown in a given width.
use Rattle.std.specs.Prelude.{ℕ, ◌-◌, ◌/◌, Bool, true, nat_le, nat_lt, List, [], ◌∷◌, length, reverse, max, if◌then◌else◌}
use Rattle.litrs_diagnostic.specs.Shown.{shown, shown_char, columns}
use Rattle.litrs_diagnostic.specs.Line.{Line}

-- The longest prefix that is shown in `width` columns.
unfoldable pub prefix_within : (width : ℕ) → List ℕ → List ℕ
prefix_within width [] = []
prefix_within width (c ∷ t) =
    if nat_le (columns (shown_char c)) width
    then c ∷ prefix_within (width - columns (shown_char c)) t
    else []

-- The longest suffix that is shown in `width` columns.
abbrev pub suffix_within : (width : ℕ) → List ℕ → List ℕ
suffix_within width t = reverse (prefix_within width (reverse t))

abbrev pub is_shorter : (part whole : List ℕ) → Bool
is_shorter part whole = nat_lt (length part) (length whole)

-- The part of a line that is shown, and the ends at which the line is cut.
pub record Window : Type 0 where
  pub before : List ℕ
  pub marked : List ℕ
  pub after : List ℕ
  pub is_cut_before : Bool
  pub is_cut_after : Bool

-- The part that is shown if the marked part does not fit.
abbrev pub marked_window : (marked : List ℕ) → Line → Window
marked_window marked line = record {
  before = [];
  marked = marked;
  after = [];
  is_cut_before = is_shorter [] line.before;
  is_cut_after = true;
}

-- The part that is shown if the marked part fits. The text before it takes half of the other
-- columns, or more if the text after it leaves more, and the text after it takes those that are
-- left.
abbrev pub wide_window : (rest : ℕ) → Line → Window
wide_window rest line =
    let spare = rest - columns (shown (prefix_within rest line.after)) in
    let before = suffix_within (max spare (rest / 2)) line.before in
    let after = prefix_within (rest - columns (shown before)) line.after in
    record {
      before = before;
      marked = line.marked;
      after = after;
      is_cut_before = is_shorter before line.before;
      is_cut_after = is_shorter after line.after;
    }

-- The part of a line that is shown in `width` columns: all of it if it has at most as many.
unfoldable pub fitted : (width : ℕ) → Line → Window
fitted width line =
    let marked = prefix_within width line.marked in
    if is_shorter marked line.marked then marked_window marked line
    else wide_window (width - columns (shown marked)) line
