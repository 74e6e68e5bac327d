-- Laws of equality, and of the names of types.
use Rattle.std.specs.Prelude.{◌≡◌, ◌↔◌, ℕ, List, nat_eq, IsTrue}
use Rattle.std.specs.Cmp.Lexicographic.{pointwise}
use Rattle.litrs_base.specs.declared.integer.IntegerType.{IntegerType}
use Rattle.litrs_base.specs.declared.float.FloatType.{FloatType}
use Rattle.litrs_base.specs.IntegerTypes.{type_name}
use Rattle.litrs_base.specs.FloatTypes.{float_type_name}

-- Two literals are equal if and only if their texts are equal.
abbrev pub EqualityIsOfTexts : Type 0
EqualityIsOfTexts = (a b : List ℕ) → IsTrue (pointwise nat_eq a b) ↔ (a ≡ b)

-- No two integer types have the same name.
abbrev pub TypeNamesAreDistinct : Type 0
TypeNamesAreDistinct = (t u : IntegerType) → type_name t ≡ type_name u → t ≡ u

-- No two floating-point types have the same name.
abbrev pub FloatTypeNamesAreDistinct : Type 0
FloatTypeNamesAreDistinct = (t u : FloatType) → float_type_name t ≡ float_type_name u → t ≡ u
