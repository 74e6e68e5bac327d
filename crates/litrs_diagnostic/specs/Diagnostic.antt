-- The text of a message on a range of a text.
use Rattle.std.specs.Prelude.{ℕ, Bool, false, true, ◌||◌, List, [], ◌∷◌, ◌++◌, None, Some, length, nat_lt, codes, if◌then◌else◌}
use Rattle.std.specs.Fmt.{decimal}
use Rattle.std.specs.List.{flat_map}
use Rattle.std.specs.Str.{chars}
use Rattle.litrs_base.specs.declared.err.ParseError.{ParseError}
use Rattle.litrs_base.specs.Kind.{kind_text}
use Rattle.litrs_base.specs.Refusal.{kind_of, marked_span}
use Rattle.litrs_diagnostic.specs.Colors.{level_color, painted}
use Rattle.litrs_diagnostic.specs.Label.{LabelOn, greatest_number, rows_between}
use Rattle.litrs_diagnostic.specs.Line.{column_at, end_line_at, line_at, start_line_at}
use Rattle.litrs_diagnostic.specs.Position.{is_line_feed}
use Rattle.litrs_diagnostic.specs.Printable.{is_printable}
use Rattle.litrs_diagnostic.specs.Row.{Row, line_feed, margin_text, row_if, rows_text}
use Rattle.litrs_diagnostic.specs.Shown.{shown}
use Rattle.litrs_diagnostic.specs.Window.{fitted}
use Rattle.litrs_diagnostic.specs.declared.levels.Level.{Level}
use Rattle.litrs_diagnostic.specs.declared.levels.Level.TheVariants.{Error, Warning, Note, Help}
use Rattle.litrs_diagnostic.specs.declared.marks.Mark.TheVariants.{Primary}

-- The word that a message begins with.
abbrev pub level_text : Level → List ℕ
level_text Error = codes "error"
level_text Warning = codes "warning"
level_text Note = codes "note"
level_text Help = codes "help"

-- A remark below a message. Its text is in bytes.
pub record Remark : Type 0 where
  pub level : Level
  pub text : List ℕ

-- The line of a remark, after a margin.
abbrev pub remark_text : (is_colored : Bool) → (margin : ℕ) → Remark → List ℕ
remark_text is_colored margin r =
    margin_text is_colored margin (codes " =") ++ (codes " " ++ (level_text r.level ++ (codes ": "
    ++ (shown (chars r.text) ++ line_feed))))

-- The lines of all remarks, after an empty one if there are any.
abbrev pub remarks_text : (is_colored : Bool) → (margin : ℕ) → List Remark → List ℕ
remarks_text is_colored margin [] = []
remarks_text is_colored margin (r ∷ rs) =
    margin_text is_colored margin (codes " |")
    ++ (line_feed ++ flat_map (remark_text is_colored margin) (r ∷ rs))

-- A message on the bytes from `start` up to `end` of `source`, whose first character is at
-- `first_line` and `first_column`. All texts are bytes.
pub record Message : Type 0 where
  pub level : Level
  pub name : List ℕ
  pub source : List ℕ
  pub start : ℕ
  pub end : ℕ
  pub message : List ℕ
  pub first_line : ℕ
  pub first_column : ℕ
  pub width : ℕ
  pub label : List ℕ
  pub labels : List LabelOn
  pub remarks : List Remark

-- The error on a range of a whole text, in 140 columns.
abbrev pub error_on : (name source : List ℕ) → (start end : ℕ) → (message : List ℕ) → Message
error_on name source start end message = record {
  level = Error;
  name = name;
  source = source;
  start = start;
  end = end;
  message = message;
  first_line = 1;
  first_column = 1;
  width = 140;
  label = [];
  labels = [];
  remarks = [];
}

-- The numbers of the lines on which the range begins and ends, and the column of its start.
abbrev pub first_number : Message → ℕ
first_number m = line_at m.first_line m.source m.start

abbrev pub last_number : Message → ℕ
last_number m = line_at m.first_line m.source m.end

abbrev pub column_of : Message → ℕ
column_of m = column_at m.first_column m.source m.start

-- `true` iff the range ends on a later line than it begins on.
abbrev pub is_long : Message → Bool
is_long m = nat_lt (first_number m) (last_number m)

-- The label of the first line of a range: none if the range ends on a later line.
abbrev pub first_label : (is_long : Bool) → (label : List ℕ) → List ℕ
first_label is_long label = if is_long then [] else label

-- The line on which the range begins.
unfoldable pub first_row : Message → Row
first_row m = record {
  number = first_number m;
  line = fitted m.width (start_line_at m.source m.start m.end);
  mark = Primary m.level;
  label = first_label (is_long m) m.label;
}

-- The line on which the range ends, if that is a later one.
unfoldable pub last_row : Message → Row
last_row m = record {
  number = last_number m;
  line = fitted m.width (end_line_at m.source m.start m.end);
  mark = Primary m.level;
  label = m.label;
}

-- The rows of a message: those of the range, and between them those of the labels, each part in
-- the order of the labels. If these are in the order of their lines, all rows are.
unfoldable pub rows_of : Message → List Row
rows_of m =
    let first = first_number m in
    let last = last_number m in
    rows_between m.first_line m.width 0 (Some first) m.labels
    ++ (row_if true (first_row m)
    ++ (rows_between m.first_line m.width first (Some last) m.labels
    ++ (row_if (is_long m) (last_row m)
    ++ rows_between m.first_line m.width last None m.labels)))

-- The width of the margin: that of the greatest number in it.
abbrev pub margin_of : Message → ℕ
margin_of m = length (decimal (greatest_number m.first_line (last_number m) m.labels))

-- The level, the message, the place of the start of the range, and an empty line.
unfoldable pub heading_text : (is_colored : Bool) → Message → List ℕ
heading_text is_colored m =
    painted is_colored (level_color m.level) (level_text m.level)
    ++ (codes ": " ++ (shown (chars m.message) ++ (line_feed
    ++ (margin_text is_colored (margin_of m) (codes "-->")
    ++ (codes " " ++ (shown (chars m.name) ++ (codes ":"
    ++ (decimal (first_number m) ++ (codes ":"
    ++ (decimal (column_of m) ++ (line_feed
    ++ (margin_text is_colored (margin_of m) (codes " |") ++ line_feed))))))))))))

-- The characters of a message, with the codes of colors or without: the heading, the lines with
-- their marks, and the remarks.
unfoldable pub message_text : (is_colored : Bool) → Message → List ℕ
message_text is_colored m =
    heading_text is_colored m
    ++ (rows_text is_colored (margin_of m) None (rows_of m)
    ++ remarks_text is_colored (margin_of m) m.remarks)

-- The characters of a message without colors.
abbrev pub diagnostic_text : Message → List ℕ
diagnostic_text m = message_text false m

-- The characters of a message in color.
abbrev pub colored_text : Message → List ℕ
colored_text m = message_text true m

-- The message on the refusal of a text: its kind, on the part of the text to mark.
abbrev pub refusal_message : (name text : List ℕ) → ParseError → (width : ℕ) → Message
refusal_message name text e width =
    let span = marked_span (chars text) e in
    record (error_on name text span.start span.end (kind_text (kind_of e))) { width = width }

-- Its characters.
abbrev pub refusal_text : (name text : List ℕ) → ParseError → (width : ℕ) → List ℕ
refusal_text name text e width = diagnostic_text (refusal_message name text e width)

-- `true` iff the character is an LF or printable. No other character is written.
abbrev pub is_line_feed_or_printable : ℕ → Bool
is_line_feed_or_printable c = is_line_feed c || is_printable c
