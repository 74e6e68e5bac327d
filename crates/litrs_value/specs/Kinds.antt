-- The literals that a type has values for, by their kind, their sign and their suffix.
use Rattle.std.specs.Prelude.{◌≡◌, ◌⊎◌, ℕ, Bool, true, false, List, [], IsTrue, if◌then◌else◌}
use Rattle.litrs.specs.FloatTypes.{float_type_name}
use Rattle.litrs.specs.IntegerTypes.{type_name}
use Rattle.litrs.specs.Literal.{Derivation, a_bool, an_integer, a_float, a_char, a_byte, a_string, a_byte_string, a_c_string, suffix_of}
use Rattle.litrs.specs.declared.IntegerBase.{IntegerBase}
use Rattle.litrs.specs.declared.IntegerBase.TheVariants.{Binary, Octal, Decimal, Hexadecimal}
use Rattle.litrs.specs.declared.IntegerType.TheVariants.{U8}
use Rattle.litrs_value.specs.declared.kind.LiteralKind.{LiteralKind}
use Rattle.litrs_value.specs.declared.kind.LiteralKind.TheVariants.{Bool as bool_kind, Integer as integer_kind, Float as float_kind, Char as char_kind, Byte as byte_kind, String as string_kind, ByteString as byte_string_kind, CString as c_string_kind}
use Rattle.litrs_value.specs.declared.value_type.ValueType.{ValueType}
use Rattle.litrs_value.specs.declared.value_type.ValueType.TheVariants.{Bool as bool_type, Integer as integer_type, Float as float_type, Char as char_type, String as string_type, Str as str_type, Bytes as bytes_type, CString as c_string_type}

-- The kind of a literal.
abbrev pub kind_of_literal : Derivation → LiteralKind
kind_of_literal (a_bool b) = bool_kind
kind_of_literal (an_integer d) = integer_kind
kind_of_literal (a_float d) = float_kind
kind_of_literal (a_char d) = char_kind
kind_of_literal (a_byte d) = byte_kind
kind_of_literal (a_string d) = string_kind
kind_of_literal (a_byte_string d) = byte_string_kind
kind_of_literal (a_c_string d) = c_string_kind

-- The kind may follow a minus sign.
abbrev pub is_number : LiteralKind → Bool
is_number integer_kind = true
is_number float_kind = true
is_number kind = false

-- The type has values for literals of the kind.
abbrev pub accepts : ValueType → LiteralKind → Bool
accepts bool_type bool_kind = true
accepts (integer_type t) integer_kind = true
accepts (integer_type U8) byte_kind = true
accepts (float_type t) integer_kind = true
accepts (float_type t) float_kind = true
accepts char_type char_kind = true
accepts string_type string_kind = true
accepts str_type string_kind = true
accepts bytes_type byte_string_kind = true
accepts bytes_type c_string_kind = true
accepts c_string_type c_string_kind = true
accepts type kind = false

-- The base is ten.
abbrev pub is_decimal : IntegerBase → Bool
is_decimal Binary = false
is_decimal Octal = false
is_decimal Decimal = true
is_decimal Hexadecimal = false

-- The suffix that names the type, or the empty text if the literal cannot have one. At a float type
-- an integer can have one in base ten only.
abbrev pub suffix_for : ValueType → Derivation → List ℕ
suffix_for (integer_type t) (an_integer d) = type_name t
suffix_for (float_type t) (an_integer d) = if is_decimal d.base then float_type_name t else []
suffix_for (float_type t) (a_float d) = float_type_name t
suffix_for type d = []

-- The suffix is empty, or names the type.
abbrev pub HasSuffixFor : ValueType → Derivation → Type 0
HasSuffixFor type d = (suffix_of d ≡ []) ⊎ (suffix_of d ≡ suffix_for type d)

-- The type has values for the kind of the literal, the sign and the suffix.
pub record Fits (type : ValueType) (negative : Bool) (d : Derivation) : Type 0 where
  pub kind : IsTrue (accepts type (kind_of_literal d))
  pub sign : IsTrue negative → IsTrue (is_number (kind_of_literal d))
  pub suffix : HasSuffixFor type d
