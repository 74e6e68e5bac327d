-- The bytes at which a search in the body of a quoted literal stops.
use Rattle.std.specs.Prelude.{ℕ, Bool, not, ◌==◌, ◌&&◌, ◌||◌}
use Rattle.litrs_lex.specs.declared.search.Special.{Special}
use Rattle.litrs_base.specs.Characters.{double_quote, carriage_return, backslash, nul, is_ascii}

-- `true` for `"` and CR, and for a backslash, zero, or a byte above 7F if these are special.
abbrev pub is_special : Special → ℕ → Bool
is_special what b =
    (b == double_quote) || (b == carriage_return) || (what.backslash && (b == backslash))
    || (what.nul && (b == nul)) || (what.non_ascii && not (is_ascii b))

abbrev pub is_ordinary : Special → ℕ → Bool
is_ordinary what b = not (is_special what b)
