-- The names of the integer types. The Rust Reference, Types, Numeric types.
use Rattle.std.specs.Prelude.{◌≡◌, ℕ, List, codes}
use Rattle.litrs_base.specs.declared.integer.IntegerType.{IntegerType}
use Rattle.litrs_base.specs.declared.integer.IntegerType.TheVariants.{U8, U16, U32, U64, U128, Usize, I8, I16, I32, I64, I128, Isize}

abbrev pub type_name : IntegerType → List ℕ
type_name U8 = codes "u8"
type_name U16 = codes "u16"
type_name U32 = codes "u32"
type_name U64 = codes "u64"
type_name U128 = codes "u128"
type_name Usize = codes "usize"
type_name I8 = codes "i8"
type_name I16 = codes "i16"
type_name I32 = codes "i32"
type_name I64 = codes "i64"
type_name I128 = codes "i128"
type_name Isize = codes "isize"

-- No integer type has this name.
abbrev pub NamesNoType : List ℕ → Type 0
NamesNoType s = (t : IntegerType) → type_name t ≡ s → ⊥
