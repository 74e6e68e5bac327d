-- the bits so far are those of the bytes so far
use Rattle.std.proofs.Common.{◌*◌, ◌≤◌, take}
use Rattle.litrs.specs.Base.{base_value}
use Rattle.litrs.specs.Numeral.{numeral}
use Rattle.litrs_value.specs.Leading.{IsLeading}
use Rattle.litrs_value.proofs.leading.leading_bits.Given as goal

abbrev pub invariant-loop-i : goal.invariant-loop-i
invariant-loop-i l = record {
  leading : IsLeading l.leading (numeral (base_value l.fn.base) (take l.i l.main));
  shift : l.leading.shift ≤ 4 * l.i;
}
