-- the number so far is that of the bytes so far
use Rattle.std.proofs.Common.{◌≡◌, take}
use Rattle.litrs_base.specs.Base.{base_value}
use Rattle.litrs_base.specs.Numeral.{numeral}
use Rattle.litrs.proofs.integer.value_of.Given as goal

abbrev pub invariant-loop-i : goal.invariant-loop-i
invariant-loop-i g l = l.number ≡ numeral (base_value l.fn.base) (take l.i l.main)
