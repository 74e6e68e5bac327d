-- The cuts of a text by the code, in bytes.
use Rattle.std.specs.Prelude.{◌≡◌, ◌<◌, ℕ, Bool, not, ◌==◌, ◌&&◌, ◌||◌, List, ◌∷◌, ◌++◌, length, nat_le}
use Rattle.std.specs.Char.{encode_utf8}
use Rattle.std.specs.Str.{chars}
use Rattle.litrs_base.specs.Characters.{letter_b, letter_c, letter_r}
use Rattle.litrs_lex.specs.Run.{is_in_run}
use Rattle.litrs_lex.specs.declared.run.Run.TheVariants.{Identifier}
use Rattle.litrs_prefix.specs.Ends.{IsEndOf}
use Rattle.litrs_lexer.specs.declared.ascii.Class.{Class}
use Rattle.litrs_lexer.specs.declared.ascii.Class.TheVariants.{Word, Space}
use Rattle.litrs_lexer.specs.Comment.{is_star_or_slash}
use Rattle.litrs_lexer.specs.Token.{IsToken}
use Rattle.litrs_lexer.specs.declared.kind.TokenKind.{TokenKind}

-- The first bytes of the text, up to the rest, are a token of this kind.
pub record IsCut (text : List ℕ) (kind : TokenKind) (rest : List ℕ) : Type 0 where
  pub is : IsToken kind (chars text) (chars rest)
  pub end : IsEndOf text rest
  pub shorter : length rest < length text

-- The text starts with this character, before the rest.
pub record IsFirstChar (text : List ℕ) (c : ℕ) (rest : List ℕ) : Type 0 where
  pub bytes : text ≡ encode_utf8 c ++ rest
  pub is : chars text ≡ c ∷ chars rest

-- The byte begins a character that is not ASCII.
abbrev pub is_wide : ℕ → Bool
is_wide b = nat_le 128 b

-- `t` or `f`, with which a bool begins
abbrev pub begins_bool : ℕ → Bool
begins_bool c = (c == 116) || (c == 102)

-- `b`, `c` or `r`, with which the prefix of a literal begins
abbrev pub begins_prefix : ℕ → Bool
begins_prefix c = (c == letter_b) || (c == letter_c) || (c == letter_r)

-- `"`, `'`, `\`, `_` or a backtick
abbrev pub is_other_mark : ℕ → Bool
is_other_mark c = (c == 34) || (c == 39) || (c == 92) || (c == 95) || (c == 96)

-- White space of ASCII.
abbrev pub is_ascii_white_space : ℕ → Bool
is_ascii_white_space c = (c == 32) || (nat_le 9 c && nat_le c 13)

-- The ASCII characters of a class, by their bytes.
abbrev pub is_of_class : Class → ℕ → Bool
is_of_class Word = is_in_run Identifier
is_of_class Space = is_ascii_white_space

-- Neither `/*` nor `*/` starts with the character.
abbrev pub is_of_comment : ℕ → Bool
is_of_comment c = not (is_star_or_slash c)
