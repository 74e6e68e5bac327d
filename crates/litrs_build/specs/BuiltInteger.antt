-- The integer that is built. The Rust Reference, Tokens, Literals: "Integer literals".
use Rattle.std.specs.Prelude.{◌≡◌, ◌==◌, ◌&&◌, ◌||◌, ℕ, Bool, false, not, List, [], ◌∷◌, ◌++◌, codes, if◌then◌else◌}
use Rattle.litrs_base.specs.Characters.{underscore}
use Rattle.litrs_base.specs.declared.integer.IntegerBase.{IntegerBase}
use Rattle.litrs_base.specs.declared.integer.IntegerBase.TheVariants.{Decimal}
use Rattle.litrs_base.specs.Base.{is_digit_or_underscore}
use Rattle.litrs_base.specs.Text.{is_text, first_passes}
use Rattle.litrs_grammar.specs.Integer.{IntegerParts, IsInteger, is_e}
use Rattle.litrs_grammar.specs.Suffix.{is_suffix}
use Rattle.litrs_build.specs.WrittenDigits.{grouped}

-- `true` iff an integer of the base may have this suffix: it starts neither with a character that
-- the main part would take nor with `e` or `E`.
abbrev pub is_integer_suffix : IntegerBase → List ℕ → Bool
is_integer_suffix base suffix = is_suffix suffix
    && (not (first_passes is_e suffix) && not (first_passes (is_digit_or_underscore base) suffix))

-- No integer of the base has this suffix, whatever its value is.
abbrev pub NoIntegerHasSuffix : IntegerBase → List ℕ → Type 0
NoIntegerHasSuffix base suffix = (d : IntegerParts) →
    IsInteger d → d.base ≡ base → d.suffix ≡ suffix → ⊥

-- `true` for `b`, `o` and `x`, which after `0` are the prefix of a base.
abbrev pub is_base_letter : ℕ → Bool
is_base_letter c = (c == 98) || ((c == 111) || (c == 120))

-- `true` iff a separator is needed between digits and suffix: `0` in base ten and a suffix such as
-- `b1` would be the binary `0b1`.
abbrev pub needs_separator : IntegerBase → (digits suffix : List ℕ) → Bool
needs_separator Decimal digits suffix =
    is_text digits (codes "0") && first_passes is_base_letter suffix
needs_separator _ digits suffix = false

-- The digits in groups, and a `_` after them if a separator is needed.
abbrev pub main_part : IntegerBase → ℕ → (digits suffix : List ℕ) → List ℕ
main_part base group digits suffix = grouped group digits
    ++ (if needs_separator base digits suffix then underscore ∷ [] else [])

-- The integer with these digits in groups and this suffix.
abbrev pub built_integer : IntegerBase → ℕ → (digits suffix : List ℕ) → IntegerParts
built_integer base group digits suffix = record {
  base = base;
  main = main_part base group digits suffix;
  suffix = suffix;
}
