-- The first line has no LF before it.
use Rattle.std.specs.Str.{chars}
use Rattle.std.proofs.Common.{take}
use Rattle.litrs_diagnostic.proofs.TextLines.{column_in_first, column_in_later}
use Rattle.litrs_diagnostic.proofs.places.place_in.Goals as goal

pub returns-then-line-eq1-clause-column : goal.returns-then-line-eq1-clause-column
returns-then-line-eq1-clause-column c =
    column_in_first c.args.first_column c.position-line.result.line c.position-line.result.column
    (chars (take c.args.at c.args.source.now)) c.position-line.ensures.line c.position-line.ensures.column
    c.if-line-eq1.true

pub returns-else-line-eq1-clause-column : goal.returns-else-line-eq1-clause-column
returns-else-line-eq1-clause-column c =
    column_in_later c.args.first_column c.position-line.result.line c.position-line.result.column
    (chars (take c.args.at c.args.source.now)) c.position-line.ensures.line c.position-line.ensures.column
    c.if-line-eq1.false
