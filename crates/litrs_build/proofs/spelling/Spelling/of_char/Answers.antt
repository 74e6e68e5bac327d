-- Each arm is a row of the definition.
use Rattle.std.proofs.Common.{arith}
use Rattle.std.proofs.lemmas.Grind.{common_steps}
use Rattle.litrs_build.specs.Spelling.{char_spelling}
use Rattle.litrs_build.proofs.spelling.Spelling.of_char.Goals as goal

pub returns-in-0 : goal.returns-in-0
unfolding char_spelling
returns-in-0 c = grind (arith, common_steps)

pub returns-in-9 : goal.returns-in-9
unfolding char_spelling
returns-in-9 c = grind (arith, common_steps)

pub returns-in-10 : goal.returns-in-10
unfolding char_spelling
returns-in-10 c = grind (arith, common_steps)

pub returns-in-13 : goal.returns-in-13
unfolding char_spelling
returns-in-13 c = grind (arith, common_steps)

pub returns-in_default : goal.returns-in_default
unfolding char_spelling
returns-in_default c = grind (arith, common_steps)

pub returns-in_default-2 : goal.returns-in_default-2
unfolding char_spelling
returns-in_default-2 c = grind (arith, common_steps)
