-- The fields of an answer for a literal.
use Rattle.std.specs.Prelude.{◌≡◌, ℕ, ◌+◌, ◌*◌, ◌^◌, nat_lt, Bool, false, List, Option, Some, None, is_some, unwrap_or, if◌then◌else◌}
use Rattle.litrs_base.specs.Base.{base_value}
use Rattle.litrs_grammar.specs.Integer.{integer_value}
use Rattle.litrs_grammar.specs.CharByte.{char_value}
use Rattle.litrs_grammar.specs.Literal.{Derivation, a_bool, an_integer, a_float, a_char, a_byte, a_string, a_byte_string, a_c_string, literal_kind, string_value}
use Rattle.litrs_grammar.specs.Strings.{is_raw}
use Rattle.litrs_c.specs.declared.LiteralFields.{LiteralFields}
use Rattle.litrs_c.specs.Codes.{kind_code}
use Rattle.litrs_c.specs.Places.{main_place, fraction_place, exponent_place, IsSuffixPlace}

-- The number of digits of the base of an integer, or 0 for other literals.
abbrev pub base_code : Derivation → ℕ
base_code (an_integer d) = base_value d.base
base_code _ = 0

-- `true` iff the literal is a raw string of one of the three kinds.
abbrev pub is_raw_string : Derivation → Bool
is_raw_string (a_string d) = is_raw d
is_raw_string (a_byte_string d) = is_raw d
is_raw_string (a_c_string d) = is_raw d
is_raw_string _ = false

-- `true` iff the literal is a float with a period.
abbrev pub has_fraction : Derivation → Bool
has_fraction (a_float d) = is_some d.fraction
has_fraction _ = false

-- The value of a literal as a number: 1 for `true`, the code point for a char.
abbrev pub number_of : Derivation → Option ℕ
number_of (a_bool b) = Some (if b then 1 else 0)
number_of (an_integer d) = Some (integer_value d)
number_of (a_char d) = Some (char_value d.item)
number_of (a_byte d) = Some (char_value d.item)
number_of _ = None

-- The value of a string of one of the three kinds, in bytes.
abbrev pub bytes_of : Derivation → Option (List ℕ)
bytes_of (a_string d) = Some (string_value d)
bytes_of (a_byte_string d) = Some (string_value d)
bytes_of (a_c_string d) = Some (string_value d)
bytes_of _ = None

-- The number, if there is one that fits 128 bits.
abbrev pub held : Option ℕ → Option ℕ
held None = None
held (Some n) = if nat_lt n (2 ^ 128) then Some n else None

-- The halves are those of the number that fits 128 bits. If there is none, both are 0.
pub record HoldsNumber (number : Option ℕ) (fields : LiteralFields) : Type 0 where
  pub has_value : fields.has_value ≡ is_some number
  pub value : fields.value_low + 2 ^ 64 * fields.value_high ≡ unwrap_or number 0

-- The fields are those of the literal with this derivation, whose text has `len` bytes.
pub record IsLiteralFields (len : ℕ) (d : Derivation) (fields : LiteralFields) : Type 0 where
  pub kind : fields.kind ≡ kind_code (literal_kind d)
  pub base : fields.base ≡ base_code d
  pub raw : fields.is_raw ≡ is_raw_string d
  pub has_fraction : fields.has_fraction ≡ has_fraction d
  pub number : HoldsNumber (held (number_of d)) fields
  pub main : fields.main ≡ main_place d
  pub fraction : fields.fraction ≡ fraction_place d
  pub exponent : fields.exponent ≡ exponent_place d
  pub suffix : IsSuffixPlace len d fields.suffix
