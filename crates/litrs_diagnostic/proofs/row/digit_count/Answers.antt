-- Each turn takes one digit off, and one is left at the end.
use Rattle.std.proofs.Common.{◌≤◌, length, lit<, arith}
use Rattle.std.specs.Fmt.{decimal}
use Rattle.std.proofs.lemmas.Fmt.{length-decimal-le}
use Rattle.litrs_diagnostic.proofs.Digits.{one_digit, one_digit_less}
use Rattle.litrs_diagnostic.proofs.row.digit_count.Goals as goal

pub overflow_add-count : goal.overflow_add-count
overflow_add-count c =
    let few : length (decimal c.args.number) ≤ 20 =
    length-decimal-le 20 c.args.number (lit< tt) (omega arith) c.ranges.number.fits in
    omega (arith, c.loop-rest.invariant.digits)

pub loop-rest-preserved : goal.loop-rest-preserved
loop-rest-preserved c =
    let less = one_digit_less c.loop-rest.rest (omega arith) c.loop-rest.invariant.small in
    record {
      small = omega (arith, c.loop-rest.invariant.small);
      digits =
          omega (arith, less, c.loop-rest.invariant.digits);
    }

pub returns : goal.returns
returns c =
    let one = one_digit c.loop-rest.rest (omega arith) in
    omega (arith, one, c.loop-rest.invariant.digits)
