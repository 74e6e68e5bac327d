-- Punctuation, and characters that no token begins with. The Rust Reference, "Punctuation" and
-- "Delimiters". A token is one character here: `+=` is two.
use Rattle.std.specs.Prelude.{◌≡◌, ℕ, Bool, not, ◌==◌, ◌&&◌, ◌||◌, List, ◌∷◌, nat_le, IsTrue, IsFalse}
use Rattle.std.specs.Char.{is_ascii_digit}
use Rattle.litrs_base.specs.Characters.{double_quote, single_quote}
use Rattle.litrs_base.specs.Text.{first_passes}
use Rattle.litrs_grammar.specs.Suffix.{starts_identifier}
use Rattle.litrs_lexer.specs.Comment.{slash, is_star_or_slash}
use Rattle.litrs_lexer.specs.Whitespace.{is_white_space}

-- The character is one of `!#$%&()*+,-./:;<=>?@[]^{|}~`: the characters of ASCII but for letters,
-- digits, white space, control characters, `"`, `'`, `\`, `_` and the backtick.
abbrev pub is_punctuation : ℕ → Bool
is_punctuation c =
    (c == 33) || (nat_le 35 c && nat_le c 38) || (nat_le 40 c && nat_le c 47)
    || (nat_le 58 c && nat_le c 64) || (c == 91) || (c == 93) || (c == 94)
    || (nat_le 123 c && nat_le c 126)

-- A punctuation character is at the front of the text, before the rest. A `/` before `/` or `*` is
-- not one, but begins a comment.
abbrev pub IsPunctuation : (t rest : List ℕ) → Type 0
IsPunctuation t rest = (c : ℕ) × (t ≡ c ∷ rest) × IsTrue (is_punctuation c)
    × IsFalse ((c == slash) && first_passes is_star_or_slash rest)

-- No other token begins with the character.
abbrev pub is_unknown : ℕ → Bool
is_unknown c =
    not (is_white_space c) && not (starts_identifier c) && not (is_ascii_digit c)
    && not (c == double_quote) && not (c == single_quote) && not (is_punctuation c)

-- An unknown character is at the front of the text, before the rest.
abbrev pub IsUnknown : (t rest : List ℕ) → Type 0
IsUnknown t rest = (c : ℕ) × (t ≡ c ∷ rest) × IsTrue (is_unknown c)
