-- Digits, regardless of groups and of case. The Rust Reference, Tokens, Integer literals.
use Rattle.std.specs.Prelude.{◌≡◌, ℕ, List, map, filter}
use Rattle.std.specs.Char.{to_ascii_lowercase}
use Rattle.litrs_base.specs.Numeral.{is_no_underscore}

-- The digits of a text without underscores, with letters in lower case.
abbrev pub digits_of : List ℕ → List ℕ
digits_of t = map to_ascii_lowercase (filter is_no_underscore t)

-- The texts have the same digits: they differ only in underscores and in case.
abbrev pub HaveSameDigits : List ℕ → List ℕ → Type 0
HaveSameDigits s t = digits_of s ≡ digits_of t
