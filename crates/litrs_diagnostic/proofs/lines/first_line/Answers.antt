-- The first line is the text before the first LF, without a CR.

use Rattle.litrs_diagnostic.proofs.ByteLines.{first_line_found, first_line_missing}
use Rattle.litrs_diagnostic.proofs.lines.first_line.Goals as goal

pub returns-in-Some-clause-line : goal.returns-in-Some-clause-line
returns-in-Some-clause-line c =
    let cut = c.in-Some.ensures.cases in
    let is = first_line_found c.args.text.now c.in-Some.line cut.0 cut.1 c.strip_suffix.result
    c.utf8.text cut.2 cut.3 c.strip_suffix.ensures.cases in
    rw c.unwrap_or.ensures is.line

pub returns-in-Some-clause-front : goal.returns-in-Some-clause-front
returns-in-Some-clause-front c =
    let cut = c.in-Some.ensures.cases in
    let is = first_line_found c.args.text.now c.in-Some.line cut.0 cut.1 c.strip_suffix.result
    c.utf8.text cut.2 cut.3 c.strip_suffix.ensures.cases in
    rw c.unwrap_or.ensures is.front

pub returns-in-None-clause-line : goal.returns-in-None-clause-line
returns-in-None-clause-line c = first_line_missing c.args.text.now c.utf8.text
    c.in-None.ensures.cases
