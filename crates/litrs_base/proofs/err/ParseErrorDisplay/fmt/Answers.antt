use Rattle.std.proofs.Common.{arith}
use Rattle.std.proofs.lemmas.Grind.{common_steps}
use Rattle.litrs_base.proofs.err.ParseErrorDisplay.fmt.Goals as goal

pub returns-in_ok-write-clause-writes : goal.returns-in_ok-write-clause-writes
returns-in_ok-write-clause-writes g c = grind (arith, common_steps)
