use Rattle.std.proofs.Common.{arith}
use Rattle.std.proofs.lemmas.Grind.{common_steps}
use Rattle.litrs_token.proofs.literal.push_escaped.Goals as goal

pub returns-in-13 : goal.returns-in-13
returns-in-13 c = grind (arith, common_steps)
