-- The names of the floating-point types. The Rust Reference, Types, Numeric types.
use Rattle.std.specs.Prelude.{◌≡◌, ℕ, List, codes}
use Rattle.litrs_base.specs.declared.float.FloatType.{FloatType}
use Rattle.litrs_base.specs.declared.float.FloatType.TheVariants.{F32, F64}

abbrev pub float_type_name : FloatType → List ℕ
float_type_name F32 = codes "f32"
float_type_name F64 = codes "f64"

-- No floating-point type has this name.
abbrev pub NamesNoFloatType : List ℕ → Type 0
NamesNoFloatType s = (t : FloatType) → float_type_name t ≡ s → ⊥
