-- The text after the last LF does not contain LF.
use Rattle.std.proofs.Common.{[], refl}
use Rattle.litrs_diagnostic.proofs.ByteLines.{last_line_found, last_line_missing, last_line_ends}
use Rattle.litrs_diagnostic.proofs.places.last_line.Goals as goal

pub returns-in-Some-clause-line : goal.returns-in-Some-clause-line
returns-in-Some-clause-line c =
    let cut = c.in-Some.ensures.cases in
    last_line_found c.args.text.now c.in-Some.line.now cut.0 cut.1 c.utf8.text cut.2 cut.4

pub returns-in-Some-clause-end : goal.returns-in-Some-clause-end
returns-in-Some-clause-end c =
    let cut = c.in-Some.ensures.cases in last_line_ends c.args.text.now c.in-Some.line.now cut.1
    cut.4

pub returns-in-None-clause-line : goal.returns-in-None-clause-line
returns-in-None-clause-line c = last_line_missing c.args.text.now c.utf8.text
    c.in-None.ensures.cases

pub returns-in-None-clause-end : goal.returns-in-None-clause-end
returns-in-None-clause-end c = ([], refl)
