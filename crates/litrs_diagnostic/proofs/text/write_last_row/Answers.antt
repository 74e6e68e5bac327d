-- The row, or nothing.
use Rattle.std.proofs.Output.{has_written_of_eq}
use Rattle.litrs_diagnostic.specs.Diagnostic.{is_long, last_row}
use Rattle.litrs_diagnostic.specs.Rows.{message_of}
use Rattle.litrs_diagnostic.proofs.RowLines.{has_written_nil, hidden_below, hidden_bytes, is_not_long}
use Rattle.litrs_diagnostic.proofs.text.write_last_row.Goals as goal

pub returns-else-first-last-clause-below : goal.returns-else-first-last-clause-below
returns-else-first-last-clause-below g c =
    let m = message_of c.args.diagnostic.now in
    hidden_below c.args.above (last_row m) (is_long m)
    (is_not_long m c.args.first c.args.last c.requires.first c.requires.last c.if-first-last.false)

pub returns-else-first-last-clause-writes : goal.returns-else-first-last-clause-writes
returns-else-first-last-clause-writes g c = λ plain.
    let m = message_of c.args.diagnostic.now in
    has_written_of_eq _ _ _ _ _ (hidden_bytes c.args.frame.is_colored c.args.frame.margin
    c.args.above (last_row m) (is_long m) (is_not_long m c.args.first c.args.last
    c.requires.first c.requires.last c.if-first-last.false)) (has_written_nil _ _ plain)
