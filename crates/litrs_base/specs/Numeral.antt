-- The number that digits write. The Rust Reference, Literal expressions, Integer literal
-- expressions.
use Rattle.std.specs.Prelude.{ℕ, ℤ, pos, neg_ℤ, ◌≤ℤ◌, Bool, ◌+◌, ◌*◌, ◌^◌, ◌-◌, not, ◌==◌, List, [], ◌∷◌, length, filter}
use Rattle.std.specs.Char.{digit_value}
use Rattle.litrs_base.specs.Characters.{underscore}
use Rattle.litrs_base.specs.declared.integer.IntegerType.{IntegerType}
use Rattle.litrs_base.specs.declared.integer.IntegerType.TheVariants.{U8, U16, U32, U64, U128, Usize, I8, I16, I32, I64, I128, Isize}

-- The sum of each digit times the base to the power of the number of digits after it.
unfoldable pub place_sum : ℕ → List ℕ → ℕ
place_sum base [] = 0
place_sum base (c ∷ cs) = digit_value c * base ^ length cs + place_sum base cs

-- `true` iff the character is not `_`.
abbrev pub is_no_underscore : ℕ → Bool
is_no_underscore c = not (c == underscore)

-- The value of digits of a base, ignoring underscores. It has no bound.
abbrev pub numeral : ℕ → List ℕ → ℕ
numeral base t = place_sum base (filter is_no_underscore t)

-- The greatest number of a type.
abbrev pub greatest_of : IntegerType → ℕ
greatest_of U8 = 2 ^ 8 - 1
greatest_of U16 = 2 ^ 16 - 1
greatest_of U32 = 2 ^ 32 - 1
greatest_of U64 = 2 ^ 64 - 1
greatest_of U128 = 2 ^ 128 - 1
greatest_of Usize = 2 ^ 64 - 1
greatest_of I8 = 2 ^ 7 - 1
greatest_of I16 = 2 ^ 15 - 1
greatest_of I32 = 2 ^ 31 - 1
greatest_of I64 = 2 ^ 63 - 1
greatest_of I128 = 2 ^ 127 - 1
greatest_of Isize = 2 ^ 63 - 1

-- The least number of a type.
abbrev pub least_of : IntegerType → ℤ
least_of I8 = neg_ℤ (pos (2 ^ 7))
least_of I16 = neg_ℤ (pos (2 ^ 15))
least_of I32 = neg_ℤ (pos (2 ^ 31))
least_of I64 = neg_ℤ (pos (2 ^ 63))
least_of I128 = neg_ℤ (pos (2 ^ 127))
least_of Isize = neg_ℤ (pos (2 ^ 63))
least_of _ = pos 0

-- The type has a value of this number, which may be negative.
abbrev pub IsNumberOf : IntegerType → ℤ → Type 0
IsNumberOf type number = (least_of type ≤ℤ number) × (number ≤ℤ pos (greatest_of type))
