-- The values of literals. `negative` says that a minus sign precedes the literal. The Rust
-- Reference, Literal expressions.
use Rattle.std.specs.Prelude.{ℕ, ℤ, pos, neg_ℤ, ◌^◌, Bool, true, false, List, Option, Some, None}
use Rattle.std.specs.Float.{binary32, binary64}
use Rattle.std.specs.Float.Ieee.{Float, Format, round, neg}
use Rattle.litrs.specs.CharByte.{char_value}
use Rattle.litrs.specs.Integer.{integer_value}
use Rattle.litrs.specs.Literal.{Derivation, a_bool, an_integer, a_float, a_char, a_byte, a_string, a_byte_string, a_c_string, string_value}
use Rattle.litrs.specs.declared.FloatType.{FloatType}
use Rattle.litrs.specs.declared.FloatType.TheVariants.{F32, F64}
use Rattle.litrs.specs.declared.IntegerType.{IntegerType}
use Rattle.litrs.specs.declared.IntegerType.TheVariants.{I8, I16, I32, I64, I128, Isize}
use Rattle.litrs_value.specs.FloatValue.{float_value}

-- The number of this magnitude with its sign.
abbrev pub signed : (negative : Bool) → ℕ → ℤ
signed true magnitude = neg_ℤ (pos magnitude)
signed false magnitude = pos magnitude

-- The magnitude of the least number of a type.
abbrev pub least_magnitude : IntegerType → ℕ
least_magnitude I8 = 2 ^ 7
least_magnitude I16 = 2 ^ 15
least_magnitude I32 = 2 ^ 31
least_magnitude I64 = 2 ^ 63
least_magnitude I128 = 2 ^ 127
least_magnitude Isize = 2 ^ 63
least_magnitude _ = 0

-- The number of an integer or of a byte.
abbrev pub number_of : (negative : Bool) → Derivation → Option ℤ
number_of negative (an_integer d) = Some (signed negative (integer_value d))
number_of negative (a_byte d) = Some (signed negative (char_value d.item))
number_of negative d = None

-- The format of a float type.
abbrev pub format_of : FloatType → Format
format_of F32 = binary32
format_of F64 = binary64

-- A float with its sign.
abbrev pub with_sign : (negative : Bool) → Float → Float
with_sign true x = neg x
with_sign false x = x

-- The float nearest to an integer, or to a float literal; an infinity if it is too large.
abbrev pub float_of : Format → (negative : Bool) → Derivation → Option Float
float_of format negative (an_integer d) = Some (round format negative (integer_value d) 1)
float_of format negative (a_float d) = Some (float_value format negative d)
float_of format negative d = None

-- The value of a bool.
abbrev pub flag_of : Derivation → Option Bool
flag_of (a_bool b) = Some b
flag_of d = None

-- The character of a char.
abbrev pub char_of : Derivation → Option ℕ
char_of (a_char d) = Some (char_value d.item)
char_of d = None

-- The text of a string.
abbrev pub string_of : Derivation → Option (List ℕ)
string_of (a_string d) = Some (string_value d)
string_of d = None

-- The bytes of a byte string, or of a C string without its closing zero.
abbrev pub bytes_of : Derivation → Option (List ℕ)
bytes_of (a_byte_string d) = Some (string_value d)
bytes_of (a_c_string d) = Some (string_value d)
bytes_of d = None

-- The bytes of a C string without its closing zero.
abbrev pub c_string_of : Derivation → Option (List ℕ)
c_string_of (a_c_string d) = Some (string_value d)
c_string_of d = None
