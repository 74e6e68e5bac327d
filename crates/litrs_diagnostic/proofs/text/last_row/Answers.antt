-- The parts of the row.
use Rattle.litrs_diagnostic.specs.Rows.{line_of, message_of, window_of}
use Rattle.litrs_diagnostic.proofs.RowLines.{last_row_is}
use Rattle.litrs_diagnostic.proofs.text.last_row.Goals as goal

pub returns : goal.returns
returns c =
    last_row_is (message_of c.args.diagnostic.now) c.args.number
    (line_of c.end_line_at-line.result) (window_of c.fitted.result) c.requires
    c.end_line_at-line.ensures c.fitted.ensures
