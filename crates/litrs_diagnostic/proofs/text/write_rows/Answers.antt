-- Five parts, each below those before it.
use Rattle.std.proofs.Common.{None, Some, List, true, ap, ◌∙◌}
use Rattle.std.proofs.Output.{has_written_append, has_written_of_eq}
use Rattle.std.specs.Str.{encode_utf8_all}
use Rattle.litrs_diagnostic.specs.Diagnostic.{is_long, last_row}
use Rattle.litrs_diagnostic.specs.Label.{rows_between}
use Rattle.litrs_diagnostic.specs.Row.{Row, row_if, rows_text}
use Rattle.litrs_diagnostic.specs.Rows.{message_of, row_of}
use Rattle.litrs_diagnostic.proofs.RowLines.{five_parts, rows_are}
use Rattle.litrs_diagnostic.proofs.text.write_rows.Goals as goal

pub returns : goal.returns
returns g c = λ plain ok.
    let frame = c.args.frame in
    let m = message_of c.args.diagnostic.now in
    let first = c.args.first in
    let last = c.args.last in
    let start = row_of c.first_row.result in
    let one = c.in_ok-before.ensures.writes plain in
    let two = c.in_ok-on_first.ensures.writes one.plain in
    let three = c.in_ok-between.ensures.writes two.plain in
    let four = c.in_ok-on_last.ensures.writes three.plain in
    let five = c.in_ok-write_labels.ensures.writes four.plain in
    has_written_of_eq _ _ _ _ _
    (five_parts frame.is_colored frame.margin
    (rows_between m.first_line m.width 0 (Some first) m.labels) (row_if true start)
    (rows_between m.first_line m.width first (Some last) m.labels)
    (row_if (is_long m) (last_row m)) (rows_between m.first_line m.width last None m.labels)
    c.in_ok-before.before c.in_ok-on_first.on_first c.in_ok-between.between
    c.in_ok-on_last.on_last c.in_ok-before.ensures.below c.in_ok-on_first.ensures.below
    c.in_ok-between.ensures.below c.in_ok-on_last.ensures.below
    ∙ ap (λ (l : List Row). encode_utf8_all (rows_text frame.is_colored frame.margin None l))
    (rows_are m first last start c.requires.first c.requires.last c.first_row.ensures))
    (has_written_append _ _ _ _ _ _ (has_written_append _ _ _ _ _ _ (has_written_append _ _ _ _ _ _
    (has_written_append _ _ _ _ _ _ one two) three) four) five)
