-- Rows, and the bytes of rows that are written in turn.
use Rattle.std.proofs.Common.{◌≡◌, ◌<◌, ◌≤◌, ◌+◌, ℕ, Bool, true, false, List, [], ◌∷◌, ◌++◌, Option, None, Some, length, get_or, take, map, filter, fold, max, nat_lt, refl, sym, ap, ◌∙◌, append_assoc, append-nil}
use Rattle.std.proofs.Output.{writes_in_calls_nil}
use Rattle.std.proofs.lemmas.Bool.{le-ltb}
use Rattle.std.proofs.lemmas.List.{map-append, take_more}
use Rattle.std.proofs.lemmas.List.Elements.{filter-append}
use Rattle.std.proofs.lemmas.List.Sums.{fold_push}
use Rattle.std.proofs.lemmas.Str.{encodes-append}
use Rattle.std.specs.Fmt.{HasWritten, IsPlainFormatter}
use Rattle.std.specs.Str.{encode_utf8_all}
use Rattle.std.specs.declared.fmt.Formatter.{Formatter}
use Rattle.litrs_diagnostic.specs.Diagnostic.{Message, first_label, first_number, first_row, heading_text, is_long, last_number, last_row, margin_of, message_text, remarks_text, rows_of}
use Rattle.litrs_diagnostic.specs.Label.{LabelOn, greatest_number, is_between, label_number, label_row, rows_between}
use Rattle.litrs_diagnostic.specs.Line.{Line, end_line_at, start_line_at}
use Rattle.litrs_diagnostic.specs.Row.{Row, above_of, below_rows, is_whole, line_below, marks_text, row_if, rows_text}
use Rattle.litrs_diagnostic.specs.Rows.{label_of}
use Rattle.litrs_diagnostic.specs.Window.{Window, fitted}
use Rattle.litrs_diagnostic.specs.declared.marks.Mark.{Mark}
use Rattle.litrs_diagnostic.specs.declared.marks.Mark.TheVariants.{Primary, Secondary}
use Rattle.litrs_diagnostic.specs.declared.label.Label.{Label}
use Rattle.litrs_diagnostic.specs.declared.row.Above.{Above}

rows_append : (is_colored : Bool) (margin : ℕ) (above : Option Above) (xs ys : List Row) →
    rows_text is_colored margin above (xs ++ ys)
    ≡ rows_text is_colored margin above xs ++ rows_text is_colored margin (below_rows above xs) ys
unfolding rows_text below_rows
rows_append is_colored margin above [] ys = refl
rows_append is_colored margin above (row ∷ xs) ys =
    ap (λ (l : List ℕ). (line_below is_colored margin above row ++ marks_text is_colored margin row)
    ++ l) (rows_append is_colored margin (Some (above_of row)) xs ys)
    ∙ sym (append_assoc (line_below is_colored margin above row
    ++ marks_text is_colored margin row) _ _)

below_append : (above : Option Above) (xs ys : List Row) →
    below_rows above (xs ++ ys) ≡ below_rows (below_rows above xs) ys
unfolding below_rows
below_append above [] ys = refl
below_append above (row ∷ xs) ys = below_append (Some (above_of row)) xs ys

-- rows, and more rows below them
pub more_bytes : (is_colored : Bool) (margin : ℕ) (above below : Option Above) (xs ys : List Row) →
    below ≡ below_rows above xs →
    encode_utf8_all (rows_text is_colored margin above xs)
    ++ encode_utf8_all (rows_text is_colored margin below ys)
    ≡ encode_utf8_all (rows_text is_colored margin above (xs ++ ys))
more_bytes is_colored margin above below xs ys is =
    rw is (sym (encodes-append (rows_text is_colored margin above xs) _)
    ∙ ap encode_utf8_all (sym (rows_append is_colored margin above xs ys)))

pub more_below : (above below last : Option Above) (xs ys : List Row) →
    below ≡ below_rows above xs → last ≡ below_rows below ys →
    last ≡ below_rows above (xs ++ ys)
more_below above below last xs ys is more =
    more ∙ (ap (λ (o : Option Above). below_rows o ys) is ∙ sym (below_append above xs ys))

-- the rows of one more label
pub more_rows : (first_line width from : ℕ) (to : Option ℕ) (labels : List Label) (i : ℕ)
    (d : Label) (row : Row) (is_shown : Bool) → i < length labels →
    row ≡ label_row first_line width (label_of (get_or labels i d)) →
    is_shown ≡ is_between from to row.number →
    rows_between first_line width from to (map label_of (take i labels)) ++ row_if is_shown row
    ≡ rows_between first_line width from to (map label_of (take (i + 1) labels))
more_rows first_line width from to labels i d row is_shown within is_row is_between_bounds =
    let one = label_row first_line width in
    let p = λ (r : Row). is_between from to r.number in
    let before = map one (map label_of (take i labels)) in
    let mapped : map one (map label_of (take (i + 1) labels))
    ≡ before ++ one (label_of (get_or labels i d)) ∷ [] =
    ap (λ (l : List Label). map one (map label_of l)) (take_more labels i d within)
    ∙ (ap (map one) (map-append label_of (take i labels) (get_or labels i d ∷ []))
    ∙ map-append one (map label_of (take i labels)) (label_of (get_or labels i d) ∷ [])) in
    rw (is_between_bounds, is_row)
    (sym (ap (filter p) mapped ∙ filter-append p before (one (label_of (get_or labels i d)) ∷ [])))

-- ---- one row

pub has_written_nil : {W : Type 0} (took : W → List ℕ → W → Type 0) (f : Formatter W) →
    IsPlainFormatter f → HasWritten took f [] f
has_written_nil took f plain = record { wrote = writes_in_calls_nil took f.writer; plain = plain }

abbrev pub above_with : (number : ℕ) → (is_whole : Bool) → Above
above_with number whole = record { number = number; is_whole = whole }

pub hidden_below : (above : Option Above) (row : Row) (is_shown : Bool) → is_shown ≡ false →
    above ≡ below_rows above (row_if is_shown row)
unfolding below_rows
hidden_below above row is_shown is = rw is refl

pub shown_below : (above : Option Above) (row : Row) (is_shown whole : Bool) → is_shown ≡ true →
    whole ≡ is_whole row.line →
    Some (above_with row.number whole) ≡ below_rows above (row_if is_shown row)
unfolding below_rows
shown_below above row is_shown whole is same = rw (is, same) refl

pub hidden_bytes : (is_colored : Bool) (margin : ℕ) (above : Option Above) (row : Row)
    (is_shown : Bool) → is_shown ≡ false →
    [] ≡ encode_utf8_all (rows_text is_colored margin above (row_if is_shown row))
unfolding rows_text
hidden_bytes is_colored margin above row is_shown is = rw is refl

pub shown_bytes : (is_colored : Bool) (margin : ℕ) (above : Option Above) (row : Row)
    (is_shown : Bool) → is_shown ≡ true →
    encode_utf8_all (line_below is_colored margin above row)
    ++ encode_utf8_all (marks_text is_colored margin row)
    ≡ encode_utf8_all (rows_text is_colored margin above (row_if is_shown row))
unfolding rows_text
shown_bytes is_colored margin above row is_shown is =
    rw is (sym (encodes-append (line_below is_colored margin above row)
    (marks_text is_colored margin row)) ∙ ap encode_utf8_all (sym (append-nil
    (line_below is_colored margin above row ++ marks_text is_colored margin row))))

abbrev pub row_with : (number : ℕ) → Window → Mark → (label : List ℕ) → Row
row_with number line mark label =
    record { number = number; line = line; mark = mark; label = label }

pub label_row_is : (first_line width : ℕ) (l : LabelOn) (number : ℕ) (line : Line)
    (window : Window) → number ≡ label_number first_line l →
    line ≡ start_line_at l.source l.start l.end → window ≡ fitted width line →
    row_with number window Secondary l.text ≡ label_row first_line width l
unfolding label_row
label_row_is first_line width l number line window is_number is_line is_window =
    rw (is_number, is_window, is_line) refl

pub first_row_is : (m : Message) (number last : ℕ) (line : Line) (window : Window)
    (label : List ℕ) → number ≡ first_number m → last ≡ last_number m →
    line ≡ start_line_at m.source m.start m.end → window ≡ fitted m.width line →
    label ≡ first_label (nat_lt number last) m.label →
    row_with number window (Primary m.level) label ≡ first_row m
unfolding first_row
first_row_is m number last line window label is_number is_last is_line is_window is_label =
    rw (is_label, is_number, is_last, is_window, is_line) refl

pub last_row_is : (m : Message) (number : ℕ) (line : Line) (window : Window) →
    number ≡ last_number m → line ≡ end_line_at m.source m.start m.end →
    window ≡ fitted m.width line → row_with number window (Primary m.level) m.label ≡ last_row m
unfolding last_row
last_row_is m number line window is_number is_line is_window =
    rw (is_number, is_window, is_line) refl

-- ---- numbers

pub more_greatest : (first_line last : ℕ) (labels : List Label) (i : ℕ) (d : Label)
    (greatest number next : ℕ) → i < length labels →
    greatest ≡ greatest_number first_line last (map label_of (take i labels)) →
    number ≡ label_number first_line (label_of (get_or labels i d)) →
    next ≡ max greatest number →
    next ≡ greatest_number first_line last (map label_of (take (i + 1) labels))
more_greatest first_line last labels i d greatest number next within is_greatest is_number is =
    let step = λ (n : ℕ) (l : LabelOn). max n (label_number first_line l) in
    let mapped : map label_of (take (i + 1) labels)
    ≡ map label_of (take i labels) ++ label_of (get_or labels i d) ∷ [] =
    ap (map label_of) (take_more labels i d within)
    ∙ map-append label_of (take i labels) (get_or labels i d ∷ []) in
    is ∙ (ap (λ (n : ℕ). max n number) is_greatest
    ∙ (ap (λ (n : ℕ). max (greatest_number first_line last (map label_of (take i labels))) n)
    is_number ∙ (sym (fold_push step last (map label_of (take i labels))
    (label_of (get_or labels i d))) ∙ ap (fold step last) (sym mapped))))

-- ---- all rows

-- five parts of the rows, each below those before it
pub five_parts : (is_colored : Bool) (margin : ℕ) (a b c d e : List Row)
    (above_b above_c above_d above_e : Option Above) → above_b ≡ below_rows None a →
    above_c ≡ below_rows above_b b → above_d ≡ below_rows above_c c →
    above_e ≡ below_rows above_d d →
    (((encode_utf8_all (rows_text is_colored margin None a)
    ++ encode_utf8_all (rows_text is_colored margin above_b b))
    ++ encode_utf8_all (rows_text is_colored margin above_c c))
    ++ encode_utf8_all (rows_text is_colored margin above_d d))
    ++ encode_utf8_all (rows_text is_colored margin above_e e)
    ≡ encode_utf8_all (rows_text is_colored margin None (a ++ (b ++ (c ++ (d ++ e)))))
five_parts is_colored margin a b c d e above_b above_c above_d above_e is_b is_c is_d is_e =
    let text = λ (above : Option Above) (rows : List Row). encode_utf8_all
    (rows_text is_colored margin above rows) in
    append_assoc ((text None a ++ text above_b b) ++ text above_c c) (text above_d d)
    (text above_e e)
    ∙ (append_assoc (text None a ++ text above_b b) (text above_c c)
    (text above_d d ++ text above_e e)
    ∙ (append_assoc (text None a) (text above_b b)
    (text above_c c ++ (text above_d d ++ text above_e e))
    ∙ (ap (λ (l : List ℕ). text None a ++ (text above_b b ++ (text above_c c ++ l)))
    (more_bytes is_colored margin above_d above_e d e is_e)
    ∙ (ap (λ (l : List ℕ). text None a ++ (text above_b b ++ l))
    (more_bytes is_colored margin above_c above_d c (d ++ e) is_d)
    ∙ (ap (λ (l : List ℕ). text None a ++ l)
    (more_bytes is_colored margin above_b above_c b (c ++ (d ++ e)) is_c)
    ∙ more_bytes is_colored margin None above_b a (b ++ (c ++ (d ++ e))) is_b)))))

pub rows_are : (m : Message) (first last : ℕ) (start : Row) →
    first ≡ first_number m → last ≡ last_number m → start ≡ first_row m →
    rows_between m.first_line m.width 0 (Some first) m.labels
    ++ (row_if true start ++ (rows_between m.first_line m.width first (Some last) m.labels
    ++ (row_if (is_long m) (last_row m)
    ++ rows_between m.first_line m.width last None m.labels)))
    ≡ rows_of m
unfolding rows_of
rows_are m first last start is_first is_last is_start = rw (is_first, is_last, is_start) refl

pub is_not_long : (m : Message) (first last : ℕ) → first ≡ first_number m →
    last ≡ last_number m → last ≤ first → is_long m ≡ false
is_not_long m first last is_first is_last short =
    rw (sym is_first, sym is_last) (le-ltb first last short)

pub message_bytes : (is_colored : Bool) (margin : ℕ) (m : Message) → margin ≡ margin_of m →
    (encode_utf8_all (heading_text is_colored m)
    ++ encode_utf8_all (rows_text is_colored margin None (rows_of m)))
    ++ encode_utf8_all (remarks_text is_colored margin m.remarks)
    ≡ encode_utf8_all (message_text is_colored m)
unfolding message_text
message_bytes is_colored margin m is =
    let rows = rows_text is_colored (margin_of m) None (rows_of m) in
    let remarks = remarks_text is_colored (margin_of m) m.remarks in
    rw is (append_assoc (encode_utf8_all (heading_text is_colored m)) (encode_utf8_all rows)
    (encode_utf8_all remarks)
    ∙ (ap (λ (l : List ℕ). encode_utf8_all (heading_text is_colored m) ++ l)
    (sym (encodes-append rows remarks))
    ∙ sym (encodes-append (heading_text is_colored m) (rows ++ remarks))))
