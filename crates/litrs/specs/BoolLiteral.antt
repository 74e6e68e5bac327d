-- The value of a bool literal.
use Rattle.std.specs.Prelude.{Bool, true, false}
use Rattle.litrs.specs.declared.bool.BoolLit.{BoolLit}
use Rattle.litrs.specs.declared.bool.BoolLit.TheVariants.{False, True}

abbrev pub bool_value : BoolLit → Bool
bool_value False = false
bool_value True = true
