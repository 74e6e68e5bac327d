-- The errors of a literal without a value of a type.
use Rattle.std.specs.Prelude.{◌≡◌, ◌≤◌, ◌^◌, ℤ, Bool, Some, IsTrue, IsFalse, ⊤}
use Rattle.std.specs.Float.{float_is_finite}
use Rattle.std.specs.Float.Ieee.{Float}
use Rattle.std.specs.List.{list_any}
use Rattle.litrs.specs.Float.{number_part, is_underscore}
use Rattle.litrs.specs.Integer.{IntegerParts, integer_value}
use Rattle.litrs.specs.declared.IntegerBase.TheVariants.{Decimal}
use Rattle.litrs.specs.Literal.{Derivation, an_integer, a_float, suffix_of}
use Rattle.litrs.specs.Numeral.{IsNumberOf}
use Rattle.litrs.specs.Text.{byte_len}
use Rattle.litrs_value.specs.Kinds.{kind_of_literal, is_number, accepts, HasSuffixFor, Fits}
use Rattle.litrs_value.specs.Values.{number_of, format_of, float_of}
use Rattle.litrs_value.specs.declared.value_type.ValueType.{ValueType}
use Rattle.litrs_value.specs.declared.value_type.ValueType.TheVariants.{Integer as integer_type, Float as float_type, String as string_type, Bytes as bytes_type, CString as c_string_type}
use Rattle.litrs_value.specs.declared.error.ValueError.{ValueError}
use Rattle.litrs_value.specs.declared.error.ValueError.TheVariants.{Malformed, Kind, Sign, Suffix, OutOfRange, Memory}

-- An integer type has the number, and at a float type the nearest float is finite. Other types have
-- every value.
abbrev pub IsInRange : ValueType → (negative : Bool) → Derivation → Type 0
IsInRange (integer_type t) negative d = (n : ℤ) × (number_of negative d ≡ Some n) × IsNumberOf t n
IsInRange (float_type t) negative d =
    (x : Float) × (float_of (format_of t) negative d ≡ Some x) × IsTrue (float_is_finite x)
IsInRange type negative d = ⊤

-- The type has a value for the literal.
abbrev pub HasValueOf : ValueType → (negative : Bool) → Derivation → Type 0
HasValueOf type negative d = Fits type negative d × IsInRange type negative d

-- The integer has an underscore, and is in base ten and too large for `u64`.
abbrev pub IsLargeWithUnderscore : IntegerParts → Type 0
IsLargeWithUnderscore d = IsTrue (list_any is_underscore d.main) × (d.base ≡ Decimal)
    × (2 ^ 64 ≤ integer_value d)

-- Reading the literal copies its value of the type, even an empty one, or the text of a number
-- without its underscores.
abbrev pub IsAllocated : ValueType → Derivation → Type 0
IsAllocated string_type d = ⊤
IsAllocated bytes_type d = ⊤
IsAllocated c_string_type d = ⊤
IsAllocated (float_type t) (a_float d) = IsTrue (list_any is_underscore (number_part d))
IsAllocated (float_type t) (an_integer d) = IsLargeWithUnderscore d
IsAllocated type d = ⊥

-- The first of these that fails: the kind, the sign, the suffix, the range; or memory, if the kind,
-- the sign and the suffix fit, and reading copies.
abbrev pub Refuses : ValueType → (negative : Bool) → Derivation → ValueError → Type 0
Refuses type negative d (Kind expected found) = (expected ≡ type) × (found ≡ kind_of_literal d)
    × IsFalse (accepts type (kind_of_literal d))
Refuses type negative d (Sign found) = (found ≡ kind_of_literal d)
    × IsTrue (accepts type (kind_of_literal d)) × IsTrue negative
    × IsFalse (is_number (kind_of_literal d))
Refuses type negative d (Suffix expected len) = (expected ≡ type) × (len ≡ byte_len (suffix_of d))
    × IsTrue (accepts type (kind_of_literal d))
    × (IsTrue negative → IsTrue (is_number (kind_of_literal d)))
    × (¬ HasSuffixFor type d)
Refuses type negative d (OutOfRange expected) =
    (expected ≡ type) × Fits type negative d × (¬ IsInRange type negative d)
Refuses type negative d (Malformed e) = ⊥
Refuses type negative d Memory = Fits type negative d × IsAllocated type d
