-- The piece at the front of a text in which a literal begins. If none is valid there, the malformed
-- prefix is a piece, and a reader continues after it. The Rust Reference does not define it.
use Rattle.std.specs.Prelude.{◌≡◌, ℕ, ◌+◌, Bool, false, not, length, ◌==◌, ◌&&◌, List, [], ◌∷◌, ◌++◌, drop, if◌then◌else◌}
use Rattle.std.specs.Char.{is_ascii_digit}
use Rattle.std.specs.List.{after_first, before_first}
use Rattle.litrs_base.specs.Characters.{double_quote, single_quote, backslash, line_feed, letter_b, letter_c, letter_r}
use Rattle.litrs_base.specs.Text.{first_passes}
use Rattle.litrs_grammar.specs.Float.{float_cut}
use Rattle.litrs_grammar.specs.Literal.{Derivation, IsLiteral}
use Rattle.litrs_grammar.specs.Raw.{hash_len, raw_closing, length_before}
use Rattle.litrs_prefix.specs.Opens.{is_single_quote, after_name, after_hashes, opens_raw, opens_c_string, opens_bytes}

-- A symbol of a body: a character, or a backslash and the character that it escapes.
pub data Symbol : Type 0 where
  lone : ℕ → Symbol
  escaped : ℕ → Symbol

-- The symbols of a text. A backslash at the end is a symbol by itself.
abbrev pub symbols : List ℕ → List Symbol
symbols [] = []
symbols (c ∷ []) = lone c ∷ []
symbols (c ∷ d ∷ t) = if c == backslash then escaped d ∷ symbols t else lone c ∷ symbols (d ∷ t)

-- The text of symbols.
abbrev pub symbols_text : List Symbol → List ℕ
symbols_text [] = []
symbols_text (lone c ∷ s) = c ∷ symbols_text s
symbols_text (escaped c ∷ s) = backslash ∷ c ∷ symbols_text s

-- `true` iff the symbol is this character, and not escaped.
abbrev pub is_lone : ℕ → Symbol → Bool
is_lone quote (lone c) = c == quote
is_lone quote (escaped c) = false

-- The text after the first quote that is not escaped, or nothing if there is none.
abbrev pub after_quote : (quote : ℕ) → List ℕ → List ℕ
after_quote quote t = symbols_text (after_first (is_lone quote) (symbols t))

-- The text after the closing quote, for a text after `"`.
abbrev pub after_quoted : List ℕ → List ℕ
after_quoted = after_quote double_quote

-- The first line of a text, without its LF.
abbrev pub first_line : List ℕ → List ℕ
first_line t = before_first (λ c. c == line_feed) t

-- The text after the first `'` of the line that is not escaped, or after the line if there is none.
abbrev pub after_single_quote : List ℕ → List ℕ
after_single_quote t =
    after_quote single_quote (first_line t) ++ drop (length (first_line t)) t

-- The text after the closing quote, for a text after `'` or `b'`. A quote after the first character
-- closes the literal unless that is a backslash, for example in `'''`.
abbrev pub after_char : List ℕ → List ℕ
after_char [] = []
after_char (c ∷ t) =
    if not (c == backslash) && first_passes is_single_quote t then drop 1 t
    else after_single_quote (c ∷ t)

-- The text after the first closing with this number of hashes, or nothing if there is none.
abbrev pub after_closing : ℕ → List ℕ → List ℕ
after_closing n t = drop (length_before (raw_closing n) t + (1 + n)) t

-- The text after the closing, for a text after `r`, `br` or `cr`. The closing has as many hashes as
-- the front of the text.
abbrev pub after_raw : List ℕ → List ℕ
after_raw t = after_closing (hash_len t) (drop 1 (after_hashes t))

-- The text after the body, for a text after `b` or `c`.
abbrev pub after_prefixed : List ℕ → List ℕ
after_prefixed [] = []
after_prefixed (c ∷ t) =
    if c == double_quote then after_quoted t
    else if c == single_quote then after_char t
    else after_raw t

-- The text after the parts of a float that a number has: digits, a period and more digits, and an
-- exponent. The prefix of an integer and its digits are left for the name that is the suffix.
abbrev pub after_number : List ℕ → List ℕ
after_number t = (float_cut t).suffix

-- The text after the body of the piece at the front, without the name that follows it. A bool is
-- left for this name.
abbrev pub after_body : List ℕ → List ℕ
after_body [] = []
after_body (c ∷ t) =
    if is_ascii_digit c then after_number (c ∷ t)
    else if c == double_quote then after_quoted t
    else if c == single_quote then after_char t
    else if (c == letter_r) && opens_raw t then after_raw t
    else if (c == letter_b) && opens_bytes t then after_prefixed t
    else if (c == letter_c) && opens_c_string t then after_prefixed t
    else c ∷ t

-- The text after the piece at the front: after its body, and the whole name that follows. A number
-- is cut like a float, so a literal may be shorter: `1` of the piece `1.` in `1..2`.
abbrev pub after_opened : List ℕ → List ℕ
after_opened t = after_name (after_body t)

-- A prefix `front` of `t` is a piece if it is the text before `after_opened t`. A longer one is
-- also a piece if that one and all texts between the two are literals. No other prefix is. If no
-- literal is valid at the front of `t`, its malformed prefix is the prefix of `t` that is a piece
-- but not a literal.
pub record IsPiece (t front : List ℕ) : Type 0 where
  pub piece : List ℕ
  pub more : List ℕ
  pub opened : piece ++ after_opened t ≡ t
  pub longer : piece ++ more ≡ front
  pub shortest : (x : List ℕ) (c : ℕ) (y : List ℕ) → x ++ c ∷ y ≡ more →
      (d : Derivation) × IsLiteral (piece ++ x) d
