-- The digits of a number, and their groups. The Rust Reference, Tokens, Literals: "Integer
-- literals".
use Rattle.std.specs.Prelude.{ℕ, ◌%◌, ◌==◌, ◌&&◌, Bool, nat_lt, List, [], ◌∷◌, ◌++◌, length, map, codes, if◌then◌else◌}
use Rattle.std.specs.Char.{digit_char}
use Rattle.std.specs.Int.Digits.{digits_of}
use Rattle.litrs_base.specs.Characters.{underscore}
use Rattle.litrs_base.specs.declared.integer.IntegerBase.{IntegerBase}
use Rattle.litrs_base.specs.Base.{base_value}

-- The digits of a number in the radix, with letters in lower case and without leading zeros. Those
-- of zero are `0`.
abbrev pub digits_in_radix : ℕ → ℕ → List ℕ
digits_in_radix radix value =
    if value == 0 then codes "0" else map digit_char (digits_of radix value)

-- The digits of a number in the base.
abbrev pub written_digits : IntegerBase → ℕ → List ℕ
written_digits base value = digits_in_radix (base_value base) value

-- `true` iff a group of `group` digits ends before `after` more digits: `after` is a multiple of
-- `group` and not zero. If `group` is zero, no group ends.
abbrev pub ends_group : (group after : ℕ) → Bool
ends_group group after = nat_lt 0 group && (nat_lt 0 after && (after % group == 0))

-- The digits with `_` after each group, counted from the last digit.
unfoldable pub grouped : ℕ → List ℕ → List ℕ
grouped group [] = []
grouped group (c ∷ cs) =
    c ∷ ((if ends_group group (length cs) then underscore ∷ [] else []) ++ grouped group cs)
