-- A minus sign negates the float.
use Rattle.std.proofs.Common.{◌≡◌, ℕ, ◌*◌, ◌^◌, Bool, true, false, refl}
use Rattle.std.specs.Float.Ieee.{Format, round}
use Rattle.fast_float.proofs.Patterns.{neg-round}
use Rattle.litrs.specs.Float.{FloatParts}
use Rattle.litrs_value.specs.FloatValue.{float_value, significand, tens_up, tens_down}
use Rattle.litrs_value.specs.Values.{with_sign}

pub sign_of_round : (f : Format) (negative : Bool) (a c : ℕ) → with_sign negative (round f false a c) ≡ round f negative a c
sign_of_round f true a c = neg-round f a c
sign_of_round f false a c = refl

pub sign_of_value : (f : Format) (negative : Bool) (d : FloatParts) → with_sign negative (float_value f false d) ≡ float_value f negative d
sign_of_value f negative d = sign_of_round f negative (significand d * 10 ^ tens_up d) (10 ^ tens_down d)
