-- The report on a text: that on its derivation, or that on its refusal.
use Rattle.std.specs.Prelude.{◌≡◌, ◌⊎◌, ℕ, ◌/◌, ◌%◌, nat_le, Bool, true, false, List, [], ◌∷◌, ◌++◌, flat_map, Option, Some, None, codes, if◌then◌else◌}
use Rattle.std.specs.Char.{digit_char}
use Rattle.std.specs.Fmt.{decimal, digits}
use Rattle.std.specs.Str.{chars, IsUtf8, encode_utf8_all}
use Rattle.litrs_base.specs.declared.integer.IntegerType.TheVariants.{U128}
use Rattle.litrs_base.specs.Base.{base_value}
use Rattle.litrs_base.specs.Numeral.{greatest_of}
use Rattle.litrs_base.specs.Refusal.{Refusal, refusal_text}
use Rattle.litrs_grammar.specs.Bool.{bool_text}
use Rattle.litrs_grammar.specs.CharByte.{char_value}
use Rattle.litrs_grammar.specs.Integer.{integer_value}
use Rattle.litrs_grammar.specs.Literal.{StringParts, string_suffix, string_value, Derivation, a_bool, an_integer, a_float, a_char, a_byte, a_string, a_byte_string, a_c_string, IsLiteral, literal_parse}
use Rattle.litrs_grammar.specs.LiteralRefusals.{IsRefusal}
use Rattle.litrs_grammar.specs.Strings.{is_raw}

-- A value in decimal, or `none` if it does not fit 128 bits.
abbrev pub value_text : ℕ → List ℕ
value_text n = if nat_le n (greatest_of U128) then decimal n else codes "none"

-- The report on an integer up to its value, by the bytes of its main part and suffix.
abbrev pub integer_front : ℕ → List ℕ → List ℕ → List ℕ
integer_front base digits suffix =
    codes "integer base=" ++ (decimal base
    ++ (codes " digits=" ++ (digits
    ++ (codes " suffix=" ++ (suffix ++ codes " value=")))))

-- The fraction of a float, or `-` if there is no period.
abbrev pub fraction_field : Option (List ℕ) → List ℕ
fraction_field None = codes "-"
fraction_field (Some digits) = encode_utf8_all digits

-- The report on a float, by the bytes of its parts.
abbrev pub float_report : (integer fraction exponent suffix : List ℕ) → List ℕ
float_report integer fraction exponent suffix =
    codes "float int=" ++ (integer ++ (codes " frac=" ++ (fraction
    ++ (codes " exp=" ++ (exponent ++ (codes " suffix=" ++ suffix))))))

-- A number in hex, in lower case and without leading zeros.
abbrev pub hex_text : ℕ → List ℕ
hex_text n = digits 16 false n

-- The report on a char or a byte, by its value and the bytes of its suffix.
abbrev pub char_report : (name : List ℕ) → ℕ → (suffix : List ℕ) → List ℕ
char_report name value suffix =
    name ++ (codes " value=" ++ (hex_text value ++ (codes " suffix=" ++ suffix)))

-- The field for raw and quoted strings.
abbrev pub raw_field : Bool → List ℕ
raw_field true = codes "yes"
raw_field false = codes "no"

-- A byte in hex, in lower case and with two digits.
abbrev pub hex_byte : ℕ → List ℕ
hex_byte b = digit_char (b / 16) ∷ digit_char (b % 16) ∷ []

-- Bytes in hex, one after the other.
abbrev pub hex_bytes : List ℕ → List ℕ
hex_bytes bytes = flat_map hex_byte bytes

-- The report on a string up to its value, by the bytes of its suffix.
abbrev pub string_front : (name raw suffix : List ℕ) → List ℕ
string_front name raw suffix =
    name ++ (codes " raw=" ++ (raw ++ (codes " suffix=" ++ (suffix ++ codes " value="))))

-- The report on a string of one of the three kinds. The value of a C string is without its closing
-- zero.
abbrev pub string_report : (name : List ℕ) → StringParts → List ℕ
string_report name d =
    string_front name (raw_field (is_raw d)) (encode_utf8_all (string_suffix d))
    ++ hex_bytes (string_value d)

-- `bool true`; `integer base=16 digits=ff80 suffix= value=65408`;
-- `float int=3 frac=14 exp= suffix=f33`; `char value=1f98a suffix=`; `byte value=ff suffix=`;
-- `string raw=no suffix=x value=610962`;
-- `bytestring raw=yes suffix= value=5c6e`; `cstring raw=no suffix= value=c3a9ff`
abbrev pub literal_report : Derivation → List ℕ
literal_report (a_bool b) = codes "bool " ++ bool_text b
literal_report (an_integer d) =
    integer_front (base_value d.base) (encode_utf8_all d.main) (encode_utf8_all d.suffix)
    ++ value_text (integer_value d)
literal_report (a_float d) =
    float_report (encode_utf8_all d.integer) (fraction_field d.fraction)
    (encode_utf8_all d.exponent) (encode_utf8_all d.suffix)
literal_report (a_char d) =
    char_report (codes "char") (char_value d.item) (encode_utf8_all d.suffix)
literal_report (a_byte d) =
    char_report (codes "byte") (char_value d.item) (encode_utf8_all d.suffix)
literal_report (a_string d) = string_report (codes "string") d
literal_report (a_byte_string d) = string_report (codes "bytestring") d
literal_report (a_c_string d) = string_report (codes "cstring") d

-- The report on a refusal: `error`, and the refusal as it is printed.
abbrev pub refusal_report : Refusal → List ℕ
refusal_report e = codes "error " ++ refusal_text e

-- `r` is the report on a text: that on its derivation, or that on its refusal.
abbrev pub IsTextReport : List ℕ → List ℕ → Type 0
IsTextReport t r =
    ((d : Derivation) × IsLiteral t d × (r ≡ literal_report d))
    ⊎ ((e : Refusal) × IsRefusal literal_parse t e × (r ≡ refusal_report e))

-- `r` is the report on a line, which may not be UTF-8.
abbrev pub IsReport : List ℕ → List ℕ → Type 0
IsReport line r =
    (IsUtf8 line × IsTextReport (chars line) r)
    ⊎ ((IsUtf8 line → ⊥) × (r ≡ codes "error input is not UTF-8"))
