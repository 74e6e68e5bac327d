-- The lines on a literal.
use Rattle.std.specs.Prelude.{ℕ, ◌≡◌, ◌≢◌, ◌⊎◌, Bool, false, IsTrue, IsFalse, ◌==◌, ◌||◌, ◌≤◌, length, nat_le, List, [], ◌∷◌, ◌++◌, Option, Some, None, codes, if◌then◌else◌}
use Rattle.std.specs.Fmt.{decimal, digits}
use Rattle.std.specs.Float.{float_is_finite}
use Rattle.std.specs.Float.Ieee.{Float, Format}
use Rattle.std.specs.Float.Parse.{parse_float}
use Rattle.std.specs.List.{flat_map, list_all}
use Rattle.std.specs.Str.{chars, IsUtf8, encode_utf8_all}
use Rattle.litrs_base.specs.Characters.{line_feed}
use Rattle.litrs_base.specs.declared.integer.IntegerType.{IntegerType}
use Rattle.litrs_base.specs.declared.integer.IntegerType.TheVariants.{U8, U16, U32, U64, U128, Usize, I8, I16, I32, I64, I128, Isize}
use Rattle.litrs_base.specs.Base.{base_value}
use Rattle.litrs_base.specs.IntegerTypes.{type_name}
use Rattle.litrs_base.specs.declared.float.FloatType.{FloatType}
use Rattle.litrs_base.specs.declared.float.FloatType.TheVariants.{F32, F64}
use Rattle.litrs_base.specs.FloatTypes.{float_type_name}
use Rattle.litrs_base.specs.Numeral.{greatest_of}
use Rattle.litrs_grammar.specs.Bool.{bool_text}
use Rattle.litrs_grammar.specs.CharByte.{char_text, char_value}
use Rattle.litrs_grammar.specs.Float.{FloatParts}
use Rattle.litrs_grammar.specs.Integer.{IntegerParts, integer_value}
use Rattle.litrs_grammar.specs.Literal.{Derivation, a_bool, an_integer, a_float, a_char, a_byte, a_string, a_byte_string, a_c_string, string_value, suffix_of}
use Rattle.litrs.specs.CharKind.{char_kind}
use Rattle.litrs.specs.StringKind.{string_kind, byte_string_kind, c_string_kind}
use Rattle.litrs.specs.LiteralText.{string_text}
use Rattle.litrs_build.specs.Printable.{is_printable}
use Rattle.litrs_build.specs.Written.{written_char, written_string, written_byte_string}
use Rattle.litrs_build.specs.CStrings.{written_c_string}
use Rattle.litrs_value.specs.FloatValue.{float_value}
use Rattle.litrs_value.specs.Values.{format_of}
use Rattle.ryu.specs.Plain.{IsPlainNumber, IsLaidOutNumber}

-- The name of the kind.
abbrev pub kind_name : Derivation → List ℕ
kind_name (a_bool b) = codes "bool"
kind_name (an_integer d) = codes "integer"
kind_name (a_float d) = codes "float"
kind_name (a_char d) = codes "char"
kind_name (a_byte d) = codes "byte"
kind_name (a_string d) = codes "string"
kind_name (a_byte_string d) = codes "byte string"
kind_name (a_c_string d) = codes "C string"

-- A line on a part of this name.
abbrev pub field : (name part : List ℕ) → List ℕ
field name part = codes "  " ++ (name ++ (codes " " ++ (part ++ codes "\n")))

-- The line on a value that is shown as a literal.
abbrev pub value_field : (literal : List ℕ) → List ℕ
value_field literal = field (codes "value") (encode_utf8_all literal)

-- The line on a part, or none if the part is empty.
abbrev pub field_of_part : (name part : List ℕ) → List ℕ
field_of_part name [] = []
field_of_part name part = field name part

-- A number in decimal, if 128 bits hold it.
abbrev pub integer_text : ℕ → List ℕ
integer_text n = if nat_le n (greatest_of U128) then decimal n else codes "2^128 or more"

-- All integer types.
abbrev pub integer_types : List IntegerType
integer_types =
    U8 ∷ U16 ∷ U32 ∷ U64 ∷ U128 ∷ Usize ∷ I8 ∷ I16 ∷ I32 ∷ I64 ∷ I128 ∷ Isize ∷ []

-- A blank and the name of the type, if it has the number.
abbrev pub name_where_fits : ℕ → IntegerType → List ℕ
name_where_fits n ty = if nat_le n (greatest_of ty) then codes " " ++ type_name ty else []

-- Those of the types, one after the other.
abbrev pub names_of : ℕ → List IntegerType → List ℕ
names_of n types = flat_map (name_where_fits n) types

-- Those of all types.
abbrev pub names_that_fit : ℕ → List ℕ
names_that_fit n =
    if nat_le n (greatest_of U128) then names_of n integer_types else codes " no integer type"

-- The lines on the value, the base and the digits of an integer, and on the types that have it.
abbrev pub integer_fields : IntegerParts → List ℕ
integer_fields d =
    codes "  value " ++ (integer_text (integer_value d)
    ++ (codes "\n  base " ++ (decimal (base_value d.base)
    ++ (codes "\n  digits " ++ (encode_utf8_all d.main
    ++ (codes "\n  fits" ++ (names_that_fit (integer_value d) ++ codes "\n")))))))

-- A line with the digits after the period, or the empty text if there is no period.
abbrev pub fraction_field : Option (List ℕ) → List ℕ
fraction_field None = []
fraction_field (Some digits) = field (codes "fraction") (encode_utf8_all digits)

-- The float is shown as an `f32` if its suffix is `f32`, and as an `f64` if not.
abbrev pub IsTypeOf : FloatParts → FloatType → Type 0
IsTypeOf d F32 = d.suffix ≡ codes "f32"
IsTypeOf d F64 = d.suffix ≢ codes "f32"

-- A number of this type has an exponent iff it has more digits than this before the period ..
abbrev pub whole_digits : FloatType → ℕ
whole_digits F32 = 13
whole_digits F64 = 16

-- .. or more zeros than this after it.
abbrev pub leading_zeros : FloatType → ℕ
leading_zeros F32 = 5
leading_zeros F64 = 4

-- The float is finite, and the text is a number as in JSON, which is read as the float. It has at
-- most 25 bytes, an exponent only beyond these numbers of digits and zeros, and no zero at the end
-- of a fraction, but for `.0`.
pub record IsNumber
    (format : Format) (digits_before zeros_after : ℕ) (x : Float) (text : List ℕ) : Type 0 where
  pub finite : IsTrue (float_is_finite x)
  pub plain : IsPlainNumber text
  pub layout : IsLaidOutNumber digits_before zeros_after text
  pub short : length text ≤ 25
  pub reads : parse_float format text ≡ Some x

-- The text is the value of the literal in this type.
abbrev pub IsNumberOf : FloatType → FloatParts → (text : List ℕ) → Type 0
IsNumberOf ty d text = IsNumber (format_of ty) (whole_digits ty) (leading_zeros ty)
    (float_value (format_of ty) false d) text

-- The value of the literal is too large for this type.
abbrev pub IsOutOfRange : FloatType → FloatParts → Type 0
IsOutOfRange ty d = IsFalse (float_is_finite (float_value (format_of ty) false d))

-- The text for a value that is too large for this type.
abbrev pub out_of_range : FloatType → List ℕ
out_of_range ty = codes "infinity, out of range for " ++ float_type_name ty

-- The text is the value of the literal in the type that it is shown as, or says that the value is
-- too large for that type.
abbrev pub IsValueText : FloatParts → (text : List ℕ) → Type 0
IsValueText d text = (ty : FloatType) × IsTypeOf d ty
    × (IsNumberOf ty d text ⊎ (IsOutOfRange ty d × (text ≡ out_of_range ty)))

-- The lines on the value of a float, which is shown as the text, and on its parts.
abbrev pub float_fields : (value : List ℕ) → FloatParts → List ℕ
float_fields value d =
    codes "  value " ++ (value
    ++ (codes "\n  integer part " ++ (encode_utf8_all d.integer
    ++ (codes "\n" ++ (fraction_field d.fraction
    ++ field_of_part (codes "exponent") (encode_utf8_all d.exponent))))))

-- These are such lines.
abbrev pub IsFloatFields : FloatParts → (lines : List ℕ) → Type 0
IsFloatFields d lines =
    (value : List ℕ) × IsValueText d value × (lines ≡ float_fields value d)

-- The literal of the value, as it is built: what is not printable in it is escaped.
abbrev pub value_text : Derivation → List ℕ
value_text (a_char d) = char_text char_kind (written_char (char_value d.item) [])
value_text (a_string d) = string_text string_kind (written_string (chars (string_value d)) [])
value_text (a_byte_string d) =
    string_text byte_string_kind (written_byte_string (string_value d) [])
value_text (a_c_string d) = string_text c_string_kind (written_c_string (string_value d) [])
value_text _ = []

-- These are the lines on the value and on the parts but the suffix: of a byte its number, of a char
-- and a string the literal of the value.
abbrev pub IsFields : Derivation → (lines : List ℕ) → Type 0
IsFields (a_bool b) lines = lines ≡ field (codes "value") (bool_text b)
IsFields (an_integer d) lines = lines ≡ integer_fields d
IsFields (a_float d) lines = IsFloatFields d lines
IsFields (a_byte d) lines = lines ≡ field (codes "value") (decimal (char_value d.item))
IsFields (a_char d) lines = lines ≡ value_field (value_text (a_char d))
IsFields (a_string d) lines = lines ≡ value_field (value_text (a_string d))
IsFields (a_byte_string d) lines = lines ≡ value_field (value_text (a_byte_string d))
IsFields (a_c_string d) lines = lines ≡ value_field (value_text (a_c_string d))

-- The character as it is shown: `\u{..}` with its number in hex if it is not printable.
abbrev pub escaped_char : ℕ → List ℕ
escaped_char c =
    if is_printable c then c ∷ [] else codes "\\u{" ++ (digits 16 false c ++ codes "}")

-- Likewise for each character of a text.
abbrev pub escaped : List ℕ → List ℕ
escaped t = flat_map escaped_char t

-- A line on the kind, these lines on the value and the parts, and one on the suffix.
abbrev pub explanation : (fields : List ℕ) → Derivation → List ℕ
explanation fields d =
    kind_name d ++ (codes "\n" ++ (fields
    ++ field_of_part (codes "suffix") (encode_utf8_all (escaped (suffix_of d)))))

-- The lines explain the literal.
abbrev pub IsExplanation : Derivation → (lines : List ℕ) → Type 0
IsExplanation d lines =
    (fields : List ℕ) × IsFields d fields × (lines ≡ explanation fields d)

-- An LF or a printable character: an explanation has no other.
abbrev pub is_line_feed_or_printable : ℕ → Bool
is_line_feed_or_printable c = (c == line_feed) || is_printable c

-- The bytes are UTF-8 of such characters.
pub record Shows (bytes : List ℕ) : Type 0 where
  pub utf8 : IsUtf8 bytes
  pub clean : IsTrue (list_all is_line_feed_or_printable (chars bytes))
