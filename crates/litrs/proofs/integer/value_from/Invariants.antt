-- the number so far is that of the bytes so far, and the type has it
use Rattle.std.proofs.Common.{◌≡◌, ◌≤◌, take}
use Rattle.litrs_base.specs.Base.{base_value}
use Rattle.litrs_base.specs.Numeral.{numeral}
use Rattle.litrs.proofs.integer.value_from.Given as goal

abbrev pub invariant-loop-i : goal.invariant-loop-i
invariant-loop-i g l = record {
  value : l.number ≡ g.N.FromIntegerLiteral.of (numeral (base_value l.fn.base) (take l.i l.main));
  fits : numeral (base_value l.fn.base) (take l.i l.main) ≤ g.N.FromIntegerLiteral.greatest;
}
