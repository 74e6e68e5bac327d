-- The margin, and then the remarks.
use Rattle.std.proofs.Common.{rules, ◌<◌, length, arith}
use Rattle.std.proofs.Output.{has_written_append, has_written_of_eq}
use Rattle.std.proofs.lemmas.Grind.{common_steps}
use Rattle.litrs_diagnostic.proofs.RemarkLines.{all_remarks}
use Rattle.litrs_diagnostic.proofs.remarks.RemarksDisplay.fmt.Goals as goal

pub returns-clause-writes : goal.returns-clause-writes
returns-clause-writes g c = λ plain ok.
    let it = c.args.self.now in
    let is_empty = c.is_empty.ensures in
    let no = c.if-is_empty.false in
    let some : 0 < length it.remarks.now = grind (arith, common_steps) in
    let one = c.write.ensures.writes plain (search rules) in
    let two = c.write_remarks.ensures one.plain ok in
    has_written_of_eq _ _ _ _ _ (all_remarks it.frame.is_colored it.frame.margin it.remarks.now
    c.opening-blue.result.now c.closing-plain.result.now some c.opening-blue.ensures
    c.closing-plain.ensures)
    (has_written_append _ _ _ _ _ _ one two)
