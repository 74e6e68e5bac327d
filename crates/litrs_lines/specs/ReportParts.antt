-- The two parts of a report on a literal.
use Rattle.std.specs.Prelude.{ℕ, List, [], codes}
use Rattle.std.specs.Str.{encode_utf8_all}
use Rattle.litrs_grammar.specs.Literal.{StringParts, string_suffix, string_value, Derivation, a_bool, an_integer, a_float, a_char, a_byte, a_string, a_byte_string, a_c_string}
use Rattle.litrs_grammar.specs.Strings.{is_raw}
use Rattle.litrs_lines.specs.Report.{raw_field, string_front, literal_report}

-- The report on a string up to its value.
abbrev pub front_of_string : (name : List ℕ) → StringParts → List ℕ
front_of_string name d =
    string_front name (raw_field (is_raw d)) (encode_utf8_all (string_suffix d))

-- The report on a literal, for a string up to its value.
abbrev pub literal_front : Derivation → List ℕ
literal_front (a_bool b) = literal_report (a_bool b)
literal_front (an_integer d) = literal_report (an_integer d)
literal_front (a_float d) = literal_report (a_float d)
literal_front (a_char d) = literal_report (a_char d)
literal_front (a_byte d) = literal_report (a_byte d)
literal_front (a_string d) = front_of_string (codes "string") d
literal_front (a_byte_string d) = front_of_string (codes "bytestring") d
literal_front (a_c_string d) = front_of_string (codes "cstring") d

-- The bytes that follow in hex: the value of a string.
abbrev pub hex_value : Derivation → List ℕ
hex_value (a_bool b) = []
hex_value (an_integer d) = []
hex_value (a_float d) = []
hex_value (a_char d) = []
hex_value (a_byte d) = []
hex_value (a_string d) = string_value d
hex_value (a_byte_string d) = string_value d
hex_value (a_c_string d) = string_value d
