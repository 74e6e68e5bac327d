-- The parts of the row.
use Rattle.litrs_diagnostic.specs.Rows.{label_of, line_of, window_of}
use Rattle.litrs_diagnostic.proofs.RowLines.{label_row_is}
use Rattle.litrs_diagnostic.proofs.labels.label_row.Goals as goal

pub returns : goal.returns
returns c =
    label_row_is c.args.first_line c.args.width (label_of c.args.label.now)
    c.label_number.result (line_of c.start_line_at-line.result) (window_of c.fitted.result)
    c.label_number.ensures c.start_line_at-line.ensures c.fitted.ensures
