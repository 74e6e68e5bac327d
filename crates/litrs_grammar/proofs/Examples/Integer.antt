-- Suffixes, integers and their types by computation: forms, values, where a text is cut, and each row of the table of
-- refusals.
use Prim.Native.String.{String}
use Rattle.std.specs.Prelude.{◌≡◌, ℕ, pos, neg_ℤ, true, false, Some, None, codes, refl}
use Rattle.litrs_base.specs.declared.err.ParseErrorKind.TheVariants as kind
use Rattle.litrs_base.specs.declared.integer.IntegerBase.{IntegerBase}
use Rattle.litrs_base.specs.declared.integer.IntegerBase.TheVariants as base
use Rattle.litrs_base.specs.declared.integer.IntegerType.{IntegerType}
use Rattle.litrs_base.specs.declared.integer.IntegerType.TheVariants as type
use Rattle.litrs_base.specs.Refusal.{Refusal, without_span, at_byte, spanning}
use Rattle.litrs_base.specs.Numeral.{numeral, least_of, greatest_of}
use Rattle.litrs_base.specs.IntegerTypes.{type_name}
use Rattle.litrs_base.specs.Base.{is_digit}
use Rattle.litrs_grammar.specs.Suffix.{is_suffix, suffix_kind}
use Rattle.litrs_grammar.specs.Integer.{IntegerParts, IsIntegerOf, integer_cut, integer_refusal, integer_value}
use Rattle.litrs_grammar.proofs.Computing.{computing, prefixed}

-- the base, the main part and the suffix
abbrev parts : IntegerBase → String → String → IntegerParts
parts base main suffix = record { base = base; main = codes main; suffix = codes suffix }

-- the text is an integer of these parts
abbrev Is : String → IntegerParts → Type 0
Is text d = IsIntegerOf (codes text) d

-- the text is refused
abbrev Refused : String → Refusal → Type 0
Refused text refusal = integer_refusal (codes text) ≡ Some refusal

-- it is not
abbrev Accepted : String → Type 0
Accepted text = integer_refusal (codes text) ≡ None

-- the name of a type, its least number without the sign, and its greatest number
abbrev IsType : IntegerType → String → (least greatest : ℕ) → Type 0
IsType type name least greatest =
    (type_name type ≡ codes name) × (least_of type ≡ neg_ℤ (pos least)) × (greatest_of type ≡ greatest)

-- Suffixes

suffixes :
    (is_suffix (codes "_x") ≡ true)
    × (is_suffix (codes "__") ≡ true)
    × (is_suffix (codes "_") ≡ false)
unfolding computing
suffixes = (refl, refl, refl)

suffix_refusals :
    (suffix_kind (codes "_") ≡ kind.InvalidSuffix)
    × (suffix_kind (codes "🦊") ≡ kind.InvalidSuffix)
    × (suffix_kind (codes "\u{80}") ≡ kind.InvalidSuffix)
    -- the characters beside the letters
    × (suffix_kind (codes "`x") ≡ kind.UnexpectedChar)
unfolding computing
suffix_refusals = (refl, refl, refl, refl)

-- Literals and their parts

literals :
    Is "0o400" (parts base.Octal "400" "")
unfolding computing
literals = prefixed refl refl refl refl refl refl (λ e. cc)

-- Values

numbers :
    numeral 2 (codes "1111_1111") ≡ 255
unfolding computing
numbers = refl

values :
    (integer_value (parts base.Binary "10" "") ≡ 2)
    × (integer_value (parts base.Octal "10" "") ≡ 8)
    × (integer_value (parts base.Decimal "10" "") ≡ 10)
    × (integer_value (parts base.Hexadecimal "10" "") ≡ 16)
    × (integer_value (parts base.Decimal "7_0" "u8") ≡ 70)
unfolding computing
values = (refl, refl, refl, refl, refl)

-- Cuts of texts, integers or not

cuts :
    (integer_cut (codes "0b12") ≡ parts base.Binary "1" "2")
    × (integer_cut (codes "0o_9") ≡ parts base.Octal "_" "9")
unfolding computing
cuts = (refl, refl)

-- Texts that the grammar allows, and texts that it does not

digits :
    (is_digit base.Binary 48 ≡ true)
    × (is_digit base.Octal 48 ≡ true)
    × (is_digit base.Octal 56 ≡ false)
unfolding computing
digits = (refl, refl, refl)

-- Texts that are not refused

accepted :
    Accepted "1_000u32"
    × Accepted "1_"
    × Accepted "0b10"
unfolding computing
accepted = (refl, refl, refl)

-- Refused texts, by the rows of the table

rows-empty :
    Refused "" (without_span kind.Empty)
unfolding computing
rows-empty = refl

rows-does_not_start_with_digit :
    Refused "true" (at_byte 0 kind.DoesNotStartWithDigit)
    × Refused "a1" (at_byte 0 kind.DoesNotStartWithDigit)
unfolding computing
rows-does_not_start_with_digit = (refl, refl)

rows-invalid_digit :
    Refused "0b12" (at_byte 3 kind.InvalidDigit)
    × Refused "0o8" (at_byte 2 kind.InvalidDigit)
unfolding computing
rows-invalid_digit = (refl, refl)

rows-unexpected_char :
    Refused "0b/" (spanning 2 3 kind.UnexpectedChar)
unfolding computing
rows-unexpected_char = refl

rows-invalid_suffix :
    Refused "1e+x" (spanning 1 4 kind.InvalidSuffix)
    × Refused "1a " (spanning 1 3 kind.InvalidSuffix)
unfolding computing
rows-invalid_suffix = (refl, refl)

rows-integer_suffix_starting_with_e :
    Refused "1e3" (at_byte 1 kind.IntegerSuffixStartingWithE)
    -- the prefix counts in the place
    × Refused "0b1e3" (at_byte 3 kind.IntegerSuffixStartingWithE)
    × Refused "1E" (at_byte 1 kind.IntegerSuffixStartingWithE)
unfolding computing
rows-integer_suffix_starting_with_e = (refl, refl, refl)

rows-no_digits :
    Refused "0xg" (spanning 2 2 kind.NoDigits)
    × Refused "0x_" (spanning 2 3 kind.NoDigits)
unfolding computing
rows-no_digits = (refl, refl)

-- Types

types :
    IsType type.U8 "u8" 0 255
    × IsType type.U16 "u16" 0 65535
    × IsType type.U32 "u32" 0 4294967295
    × IsType type.U64 "u64" 0 18446744073709551615
    × IsType type.U128 "u128" 0 340282366920938463463374607431768211455
    × IsType type.Usize "usize" 0 18446744073709551615
    × IsType type.I8 "i8" 128 127
    × IsType type.I16 "i16" 32768 32767
    × IsType type.I32 "i32" 2147483648 2147483647
    × IsType type.I64 "i64" 9223372036854775808 9223372036854775807
    × IsType type.I128 "i128" 170141183460469231731687303715884105728 170141183460469231731687303715884105727
    × IsType type.Isize "isize" 9223372036854775808 9223372036854775807
unfolding computing
types = (
  (refl, refl, refl),
  (refl, refl, refl),
  (refl, refl, refl),
  (refl, refl, refl),
  (refl, refl, refl),
  (refl, refl, refl),
  (refl, refl, refl),
  (refl, refl, refl),
  (refl, refl, refl),
  (refl, refl, refl),
  (refl, refl, refl),
  (refl, refl, refl),
)
