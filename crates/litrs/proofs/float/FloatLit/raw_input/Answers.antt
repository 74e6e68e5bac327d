use Rattle.std.proofs.Common.{arith}
use Rattle.std.proofs.lemmas.Grind.{common_steps}
use Rattle.litrs.proofs.float.FloatLit.raw_input.Goals as goal

pub returns-clause-number_and_suffix : goal.returns-clause-number_and_suffix
returns-clause-number_and_suffix g c = grind (arith, common_steps)
