-- The line and its marks, or nothing.
use Rattle.std.proofs.Common.{rules}
use Rattle.std.proofs.Output.{has_written_append, has_written_of_eq}
use Rattle.litrs_diagnostic.specs.Rows.{row_of}
use Rattle.litrs_diagnostic.proofs.RowLines.{has_written_nil, hidden_below, hidden_bytes, shown_below, shown_bytes}
use Rattle.litrs_diagnostic.proofs.row.write_row.Goals as goal

pub returns-in_ok-write_marks-clause-below : goal.returns-in_ok-write_marks-clause-below
returns-in_ok-write_marks-clause-below g c =
    shown_below c.args.above (row_of c.args.row) c.args.is_shown c.is_whole.result
    c.if-is_shown.true c.is_whole.ensures

pub returns-in_ok-write_marks-clause-writes : goal.returns-in_ok-write_marks-clause-writes
returns-in_ok-write_marks-clause-writes g c = λ plain.
    let frame = c.args.frame in
    let one = c.write_line_below.ensures plain (search rules) in
    let two = c.write_marks.ensures one.plain (search rules) in
    has_written_of_eq _ _ _ _ _ (shown_bytes frame.is_colored frame.margin c.args.above
    (row_of c.args.row) c.args.is_shown c.if-is_shown.true)
    (has_written_append _ _ _ _ _ _ one two)

pub returns-else-is_shown-clause-below : goal.returns-else-is_shown-clause-below
returns-else-is_shown-clause-below g c =
    hidden_below c.args.above (row_of c.args.row) c.args.is_shown c.if-is_shown.false

pub returns-else-is_shown-clause-writes : goal.returns-else-is_shown-clause-writes
returns-else-is_shown-clause-writes g c = λ plain.
    let frame = c.args.frame in
    has_written_of_eq _ _ _ _ _ (hidden_bytes frame.is_colored frame.margin c.args.above
    (row_of c.args.row) c.args.is_shown c.if-is_shown.false) (has_written_nil _ _ plain)
