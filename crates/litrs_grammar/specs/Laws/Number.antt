-- Laws that distinguish floats from integers.
use Rattle.std.specs.Prelude.{ℕ, List, IsTrue, IsFalse}
use Rattle.litrs_grammar.specs.Float.{FloatParts, IsFloatOf}
use Rattle.litrs_grammar.specs.Integer.{IntegerParts, IsIntegerOf}
use Rattle.litrs_grammar.specs.LiteralRefusals.{begins_with_float}

-- In a float the leading run of decimal digits and underscores is followed by a period, `e` or `E`.
abbrev pub FloatsBeginAsFloats : Type 0
FloatsBeginAsFloats = (t : List ℕ) (d : FloatParts) → IsFloatOf t d → IsTrue (begins_with_float t)

-- In an integer the leading run of decimal digits and underscores is not followed by a period, `e`
-- or `E`.
abbrev pub NoIntegerBeginsAsFloat : Type 0
NoIntegerBeginsAsFloat = (t : List ℕ) (d : IntegerParts) →
    IsIntegerOf t d → IsFalse (begins_with_float t)

-- No text is both a float and an integer.
abbrev pub NoFloatIsInteger : Type 0
NoFloatIsInteger = (t : List ℕ) (d : FloatParts) (e : IntegerParts) →
    IsFloatOf t d → ¬ IsIntegerOf t e
