-- The first four and the last four of four to eight bytes are all of them.
use Rattle.std.proofs.Common.{arith}
use Rattle.std.proofs.lemmas.Grind.{common_steps}
use Rattle.litrs_base.specs.Base.{is_digit}
use Rattle.litrs_base.proofs.ListTests.{four_and_four}
use Rattle.litrs_base.proofs.digits.are_few_digits.Goals as goal

pub returns-in-4-to-8 : goal.returns-in-4-to-8
returns-in-4-to-8 c =
    let all = four_and_four (is_digit c.args.base) c.args.bytes.now (omega arith) (omega arith) in
    grind (arith, common_steps, all)
