-- A suffix names a type if its bytes do.
use Rattle.std.proofs.Common.{◌≡◌, ℕ, Bool, true, false, cond, List, [], IsUtf8, refl, sym, ap, ◌∙◌}
use Rattle.std.specs.List.{list_all}
use Rattle.std.specs.Str.{chars, encode_utf8_all}
use Rattle.std.proofs.lemmas.Str.{encodes-chars, encodes-IsAscii, chars-IsAscii, chars-nil}
use Rattle.litrs_base.proofs.Spans.{is_ascii_char}
use Rattle.litrs.specs.FloatTypes.{float_type_name}
use Rattle.litrs.specs.IntegerTypes.{type_name}
use Rattle.litrs.specs.Literal.{Derivation, an_integer, a_float}
use Rattle.litrs.specs.declared.IntegerType.{IntegerType}
use Rattle.litrs.specs.declared.FloatType.{FloatType}
use Rattle.litrs_value.specs.Kinds.{is_decimal}
use Rattle.litrs.specs.declared.IntegerType.TheVariants.{U8, U16, U32, U64, U128, Usize, I8, I16, I32, I64, I128, Isize}
use Rattle.litrs.specs.declared.FloatType.TheVariants.{F32, F64}
use Rattle.litrs_value.proofs.FloatTexts.{ascii_list}
use Rattle.litrs_value.specs.Kinds.{suffix_for}
use Rattle.litrs_value.specs.declared.value_type.ValueType.{ValueType}
use Rattle.litrs_value.specs.declared.value_type.ValueType.TheVariants.{Integer as integer_type, Float as float_type}

ascii_integer : (t : IntegerType) → list_all is_ascii_char (type_name t) ≡ true
ascii_integer U8 = refl
ascii_integer U16 = refl
ascii_integer U32 = refl
ascii_integer U64 = refl
ascii_integer U128 = refl
ascii_integer Usize = refl
ascii_integer I8 = refl
ascii_integer I16 = refl
ascii_integer I32 = refl
ascii_integer I64 = refl
ascii_integer I128 = refl
ascii_integer Isize = refl

ascii_float : (t : FloatType) → list_all is_ascii_char (float_type_name t) ≡ true
ascii_float F32 = refl
ascii_float F64 = refl

ascii_or_none : (b : Bool) (t : FloatType) → list_all is_ascii_char (cond b (float_type_name t) []) ≡ true
ascii_or_none true t = ascii_float t
ascii_or_none false t = refl

ascii : (type : ValueType) (d : Derivation) → list_all is_ascii_char (suffix_for type d) ≡ true
ascii (integer_type t) (an_integer d) = ascii_integer t
ascii (float_type t) (an_integer d) = ascii_or_none (is_decimal d.base) t
ascii (float_type t) (a_float d) = ascii_float t
ascii type d = refl

pub named : (type : ValueType) (d : Derivation) (bs : List ℕ) → bs ≡ suffix_for type d → chars bs ≡ suffix_for type d
named type d bs same = ap chars same ∙ chars-IsAscii (suffix_for type d) (ascii_list (suffix_for type d) (ascii type d))

pub names : (type : ValueType) (d : Derivation) (bs : List ℕ) → IsUtf8 bs → chars bs ≡ suffix_for type d → bs ≡ suffix_for type d
names type d bs utf8 same = sym (encodes-chars bs utf8) ∙ (ap encode_utf8_all same ∙ encodes-IsAscii (suffix_for type d) (ascii_list (suffix_for type d) (ascii type d)))

pub empty : (bs : List ℕ) → bs ≡ [] → chars bs ≡ []
empty bs none = ap chars none ∙ chars-nil

pub empties : (bs : List ℕ) → IsUtf8 bs → chars bs ≡ [] → bs ≡ []
empties bs utf8 none = sym (encodes-chars bs utf8) ∙ ap encode_utf8_all none
