-- The value of a float. The Rust Reference, Literal expressions, Floating-point literal
-- expressions.
use Rattle.std.specs.Prelude.{ℕ, ◌+◌, ◌*◌, ◌^◌, ◌==◌, Bool, false, List, [], ◌∷◌, ◌++◌, length, drop, filter, Option, Some, None, if◌then◌else◌}
use Rattle.std.specs.Float.Ieee.{Float, Format, round}
use Rattle.litrs.specs.Characters.{minus}
use Rattle.litrs.specs.Float.{FloatParts, sign_len}
use Rattle.litrs.specs.Numeral.{numeral, is_no_underscore}
use Rattle.litrs.specs.Text.{first_passes}

-- The digits and underscores after the period.
abbrev pub fraction_digits : Option (List ℕ) → List ℕ
fraction_digits None = []
fraction_digits (Some digits) = digits

-- The digits and underscores of an exponent, without its letter and its sign.
abbrev pub exponent_digits : List ℕ → List ℕ
exponent_digits [] = []
exponent_digits (c ∷ cs) = drop (sign_len cs) cs

abbrev pub is_minus : ℕ → Bool
is_minus c = c == minus

-- A minus sign follows the letter.
abbrev pub is_exponent_negative : List ℕ → Bool
is_exponent_negative [] = false
is_exponent_negative (c ∷ cs) = first_passes is_minus cs

-- The number of all digits before the exponent, without the period: 105 for `1_0.5E-1`.
abbrev pub significand : FloatParts → ℕ
significand d = numeral 10 (d.integer ++ fraction_digits d.fraction)

-- The count of digits after the period: 1 for `1_0.5E-1`.
abbrev pub places : FloatParts → ℕ
places d = length (filter is_no_underscore (fraction_digits d.fraction))

-- The magnitude of the exponent: 1 for `1_0.5E-1`.
abbrev pub exponent_size : FloatParts → ℕ
exponent_size d = numeral 10 (exponent_digits d.exponent)

-- The power of ten that the significand is multiplied by: 0 for `1_0.5E-1`.
abbrev pub tens_up : FloatParts → ℕ
tens_up d = if is_exponent_negative d.exponent then 0 else exponent_size d

-- The power of ten that it is divided by: 2 for `1_0.5E-1`.
abbrev pub tens_down : FloatParts → ℕ
tens_down d = places d + (if is_exponent_negative d.exponent then exponent_size d else 0)

-- The value of a float in a format, whatever its suffix. It is the float nearest to significand *
-- 10 ^ tens_up / 10 ^ tens_down, ties to even, and an infinity if it is too large. `negative` says
-- that a minus sign precedes the literal.
abbrev pub float_value : Format → (negative : Bool) → FloatParts → Float
float_value format negative d =
    round format negative (significand d * 10 ^ tens_up d) (10 ^ tens_down d)
