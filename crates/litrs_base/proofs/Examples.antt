-- The only derivation, the names of types, and the values of escapes, by computation.
use Rattle.std.specs.Prelude.{◌≡◌, ℕ, refl, true, false}
use Rattle.litrs_base.specs.declared.integer.IntegerType.{IntegerType}
use Rattle.litrs_base.specs.declared.float.FloatType.{FloatType}
use Rattle.litrs_base.specs.declared.escape.Unescape.TheVariants.{Byte, Unicode}
use Rattle.litrs_base.specs.Derivations.{IsOnlyDerivation, HasNoDerivation}
use Rattle.litrs_base.specs.IntegerTypes.{type_name, NamesNoType}
use Rattle.litrs_base.specs.FloatTypes.{float_type_name, NamesNoFloatType}
use Rattle.litrs_base.specs.Unescape.{unescaped_number, is_unescaped_char, is_unescaped_byte}

-- Derivations

apart : ¬ ◌≡◌ {A = ℕ} 2 3
apart same = cc

-- 3 is the only number that equals 3
only_is : IsOnlyDerivation (λ (n : ℕ). n ≡ 3) 3
only_is = (refl, λ e same. same)

-- 3 is not the only derivation if every number is one
only_is_alone : ¬ IsOnlyDerivation (λ (n : ℕ). n ≡ n) 3
only_is_alone only = apart (only.1 2 refl)

-- there is one if 3 is one
none_is_none : ¬ HasNoDerivation (λ (n : ℕ). n ≡ 3)
none_is_none none = none 3 refl

-- Names

-- the name of each type names a type
type_names : (t : IntegerType) → ¬ NamesNoType (type_name t)
type_names t none = none t refl

float_type_names : (t : FloatType) → ¬ NamesNoFloatType (float_type_name t)
float_type_names t none = none t refl

-- Escapes

numbers :
    (unescaped_number (Byte 255) ≡ 255)
    × (unescaped_number (Unicode 0x1F602) ≡ 0x1F602)
numbers = (refl, refl)

-- a byte above 7F is not a character, and a character is not a byte
unescaped :
    (is_unescaped_char (Byte 127) ≡ true)
    × (is_unescaped_char (Byte 128) ≡ false)
    × (is_unescaped_char (Unicode 128) ≡ true)
    × (is_unescaped_byte (Byte 255) ≡ true)
    × (is_unescaped_byte (Unicode 65) ≡ false)
unescaped = (refl, refl, refl, refl, refl)
