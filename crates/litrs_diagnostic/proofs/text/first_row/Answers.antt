-- The parts of the row.
use Rattle.litrs_diagnostic.specs.Rows.{line_of, message_of, window_of}
use Rattle.litrs_diagnostic.proofs.RowLines.{first_row_is}
use Rattle.litrs_diagnostic.proofs.text.first_row.Goals as goal

pub returns : goal.returns
returns c =
    first_row_is (message_of c.args.diagnostic.now) c.args.number c.args.last
    (line_of c.start_line_at-line.result) (window_of c.fitted.result)
    c.first_label.result.now c.requires.number c.requires.last c.start_line_at-line.ensures
    c.fitted.ensures c.first_label.ensures
