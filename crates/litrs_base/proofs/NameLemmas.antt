-- The names of types lead back to them.
use Rattle.std.proofs.Common.{◌≡◌, ℕ, List, Option, Some, None, cond, refl, sym, ap, ◌∙◌}
use Rattle.litrs_base.specs.declared.integer.IntegerType.{IntegerType}
use Rattle.litrs_base.specs.declared.integer.IntegerType.TheVariants.{U8, U16, U32, U64, U128, Usize, I8, I16, I32, I64, I128, Isize}
use Rattle.litrs_base.specs.declared.float.FloatType.{FloatType}
use Rattle.litrs_base.specs.declared.float.FloatType.TheVariants.{F32, F64}
use Rattle.litrs_base.specs.Text.{is_text}
use Rattle.litrs_base.specs.IntegerTypes.{type_name}
use Rattle.litrs_base.specs.FloatTypes.{float_type_name}

-- the type with this name
abbrev named : List ℕ → Option IntegerType
named s =
    cond (is_text (type_name U8) s) (Some U8) (cond (is_text (type_name U16) s) (Some U16) (cond (is_text (type_name U32) s) (Some U32)
    (cond (is_text (type_name U64) s) (Some U64) (cond (is_text (type_name U128) s) (Some U128) (cond (is_text (type_name Usize) s) (Some Usize)
    (cond (is_text (type_name I8) s) (Some I8) (cond (is_text (type_name I16) s) (Some I16) (cond (is_text (type_name I32) s) (Some I32)
    (cond (is_text (type_name I64) s) (Some I64) (cond (is_text (type_name I128) s) (Some I128) (cond (is_text (type_name Isize) s) (Some Isize) None)))))))))))

named-type_name : (t : IntegerType) → named (type_name t) ≡ Some t
named-type_name U8 = refl
named-type_name U16 = refl
named-type_name U32 = refl
named-type_name U64 = refl
named-type_name U128 = refl
named-type_name Usize = refl
named-type_name I8 = refl
named-type_name I16 = refl
named-type_name I32 = refl
named-type_name I64 = refl
named-type_name I128 = refl
named-type_name Isize = refl

pub same_type : (t u : IntegerType) → type_name t ≡ type_name u → t ≡ u
same_type t u e = let same : Some t ≡ Some u = sym (named-type_name t) ∙ (ap named e ∙ named-type_name u) in cc

-- the floating-point type with this name
abbrev float_named : List ℕ → Option FloatType
float_named s = cond (is_text (float_type_name F32) s) (Some F32) (cond (is_text (float_type_name F64) s) (Some F64) None)

float_named-name : (t : FloatType) → float_named (float_type_name t) ≡ Some t
float_named-name F32 = refl
float_named-name F64 = refl

pub same_float_type : (t u : FloatType) → float_type_name t ≡ float_type_name u → t ≡ u
same_float_type t u e = let same : Some t ≡ Some u = sym (float_named-name t) ∙ (ap float_named e ∙ float_named-name u) in cc
