-- Laws of literals.
use Rattle.std.specs.Prelude.{◌≡◌, Bool}
use Rattle.std.specs.Float.Ieee.{Format}
use Rattle.litrs_build.specs.WrittenAnew.{HaveSameNumber}
use Rattle.litrs_grammar.specs.Float.{FloatParts, IsFloat}
use Rattle.litrs_value.specs.FloatValue.{float_value}

-- Floats with the same parts, but for `_` and the case of the letter of the exponent, have the same
-- value in each format.
abbrev pub SameNumbersHaveSameValue : Type 0
SameNumbersHaveSameValue = (d e : FloatParts) → IsFloat d → IsFloat e → HaveSameNumber d e →
    (format : Format) (negative : Bool) →
    float_value format negative d ≡ float_value format negative e
