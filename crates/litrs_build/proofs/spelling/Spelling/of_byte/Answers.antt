-- By whether the byte is ASCII.
use Rattle.std.proofs.Common.{arith}
use Rattle.std.proofs.lemmas.Grind.{common_steps}
use Rattle.litrs_build.specs.Spelling.{byte_spelling}
use Rattle.litrs_build.proofs.spelling.Spelling.of_byte.Goals as goal

pub returns-then-is_ascii : goal.returns-then-is_ascii
unfolding byte_spelling
returns-then-is_ascii c = grind (arith, common_steps)

pub returns-else-is_ascii : goal.returns-else-is_ascii
unfolding byte_spelling
returns-else-is_ascii c = grind (arith, common_steps)
