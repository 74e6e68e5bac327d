-- The bases of integers. The Rust Reference, Tokens, Literals: "Integer literals".
use Rattle.std.specs.Prelude.{ℕ, Bool, ◌==◌, ◌||◌, List, codes}
use Rattle.std.specs.Char.{is_ascii_digit, is_ascii_hexdigit}
use Rattle.std.specs.Int.{is_in_range}
use Rattle.litrs_base.specs.Characters.{underscore}
use Rattle.litrs_base.specs.declared.integer.IntegerBase.{IntegerBase}
use Rattle.litrs_base.specs.declared.integer.IntegerBase.TheVariants.{Binary, Octal, Decimal, Hexadecimal}

-- The prefix of an integer of the base.
abbrev pub prefix : IntegerBase → List ℕ
prefix Binary = codes "0b"
prefix Octal = codes "0o"
prefix Decimal = codes ""
prefix Hexadecimal = codes "0x"

-- The number of digits of the base.
abbrev pub base_value : IntegerBase → ℕ
base_value Binary = 2
base_value Octal = 8
base_value Decimal = 10
base_value Hexadecimal = 16

-- `true` iff the character is a digit of the base.
abbrev pub is_digit : IntegerBase → ℕ → Bool
is_digit Binary c = is_in_range 48 49 c
is_digit Octal c = is_in_range 48 55 c
is_digit Decimal c = is_ascii_digit c
is_digit Hexadecimal c = is_ascii_hexdigit c

-- `true` iff the character is a digit of the base or `_`.
abbrev pub is_digit_or_underscore : IntegerBase → ℕ → Bool
is_digit_or_underscore base c = is_digit base c || (c == underscore)
