-- The texts of errors, types and kinds.
use Rattle.std.specs.Prelude.{ℕ, List, ◌++◌, codes}
use Rattle.litrs.specs.FloatTypes.{float_type_name}
use Rattle.litrs.specs.IntegerTypes.{type_name}
use Rattle.litrs.specs.Kind.{kind_text}
use Rattle.litrs.specs.Refusal.{kind_of}
use Rattle.litrs_value.specs.declared.kind.LiteralKind.{LiteralKind}
use Rattle.litrs_value.specs.declared.kind.LiteralKind.TheVariants.{Bool as bool_kind, Integer as integer_kind, Float as float_kind, Char as char_kind, Byte as byte_kind, String as string_kind, ByteString as byte_string_kind, CString as c_string_kind}
use Rattle.litrs_value.specs.declared.value_type.ValueType.{ValueType}
use Rattle.litrs_value.specs.declared.value_type.ValueType.TheVariants.{Bool as bool_type, Integer as integer_type, Float as float_type, Char as char_type, String as string_type, Str as str_type, Bytes as bytes_type, CString as c_string_type}
use Rattle.litrs_value.specs.declared.error.ValueError.{ValueError}
use Rattle.litrs_value.specs.declared.error.ValueError.TheVariants.{Malformed, Kind, Sign, Suffix, OutOfRange, Memory}

-- A kind of literals.
abbrev pub literal_kind_text : LiteralKind → List ℕ
literal_kind_text bool_kind = codes "a bool"
literal_kind_text integer_kind = codes "an integer"
literal_kind_text float_kind = codes "a float"
literal_kind_text char_kind = codes "a char"
literal_kind_text byte_kind = codes "a byte"
literal_kind_text string_kind = codes "a string"
literal_kind_text byte_string_kind = codes "a byte string"
literal_kind_text c_string_kind = codes "a C string"

-- A type, by its name in Rust.
abbrev pub value_type_text : ValueType → List ℕ
value_type_text bool_type = codes "bool"
value_type_text (integer_type t) = type_name t
value_type_text (float_type t) = float_type_name t
value_type_text char_type = codes "char"
value_type_text string_type = codes "String"
value_type_text str_type = codes "&str"
value_type_text bytes_type = codes "Vec<u8>"
value_type_text c_string_type = codes "CString"

-- An error.
abbrev pub value_error_text : ValueError → List ℕ
value_error_text (Malformed e) = kind_text (kind_of e)
value_error_text (Kind expected found) =
    codes "expected `" ++ value_type_text expected ++ codes "`, found " ++ literal_kind_text found
value_error_text (Sign found) = codes "unexpected minus sign before " ++ literal_kind_text found
value_error_text (Suffix expected len) =
    codes "invalid suffix for `" ++ value_type_text expected ++ codes "`"
value_error_text (OutOfRange expected) =
    codes "out of range for `" ++ value_type_text expected ++ codes "`"
value_error_text Memory = codes "out of memory"
