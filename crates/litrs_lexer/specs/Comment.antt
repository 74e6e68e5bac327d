-- Comments. The Rust Reference, "Comments".
use Rattle.std.specs.Prelude.{◌≡◌, ℕ, Bool, false, not, ◌==◌, ◌&&◌, ◌||◌, List, [], ◌∷◌, drop, Option, Some, None, if◌then◌else◌, IsTrue, IsFalse}
use Rattle.litrs_base.specs.Characters.{line_feed}
use Rattle.litrs_base.specs.Text.{first_passes}
use Rattle.litrs_lexer.specs.Whitespace.{after_while}
use Rattle.litrs_lexer.specs.declared.kind.DocStyle.{DocStyle}
use Rattle.litrs_lexer.specs.declared.kind.DocStyle.TheVariants.{Inner, Outer}
use Rattle.litrs_lexer.specs.declared.kind.TokenKind.{TokenKind}
use Rattle.litrs_lexer.specs.declared.kind.TokenKind.TheVariants.{LineComment, BlockComment, UnterminatedBlockComment}

-- `!`
abbrev pub exclamation : ℕ
exclamation = 33

-- `*`
abbrev pub star : ℕ
star = 42

-- `/`
abbrev pub slash : ℕ
slash = 47

-- The character is not a line feed.
abbrev pub is_of_line : ℕ → Bool
is_of_line c = not (c == line_feed)

-- The part of the text from its first line feed on.
abbrev pub after_line : List ℕ → List ℕ
after_line t = after_while is_of_line t

-- A line comment is at the front of the text, up to the rest: `//` and the rest of the line,
-- without its line feed.
abbrev pub IsLineComment : (t rest : List ℕ) → Type 0
IsLineComment t rest = (body : List ℕ) × (t ≡ slash ∷ slash ∷ body) × (rest ≡ after_line body)

-- The two characters are `/*`.
abbrev pub opens_comment : (c d : ℕ) → Bool
opens_comment c d = (c == slash) && (d == star)

-- The two characters are `*/`.
abbrev pub closes_comment : (c d : ℕ) → Bool
closes_comment c d = (c == star) && (d == slash)

-- The text starts with `/*` or `*/`.
abbrev pub starts_with_mark : List ℕ → Bool
starts_with_mark [] = false
starts_with_mark (c ∷ []) = false
starts_with_mark (c ∷ d ∷ t) = opens_comment c d || closes_comment c d

-- After `/*`, the text has the body of a block comment with the `*/` that closes it, up to the
-- rest. A body is made of block comments and of characters at which neither `/*` nor `*/` starts:
-- block comments nest.
pub data IsBody : (t rest : List ℕ) → Type 0 where
  closed : {c d : ℕ} {rest : List ℕ} → IsTrue (closes_comment c d) → IsBody (c ∷ d ∷ rest) rest
  comment : {c d : ℕ} {t after rest : List ℕ} → IsTrue (opens_comment c d) →
      IsBody t after → IsBody after rest → IsBody (c ∷ d ∷ t) rest
  character : {c : ℕ} {t rest : List ℕ} → IsFalse (starts_with_mark (c ∷ t)) →
      IsBody t rest → IsBody (c ∷ t) rest

-- A block comment is at the front of the text, up to the rest.
abbrev pub IsBlockComment : (t rest : List ℕ) → Type 0
IsBlockComment t rest = (body : List ℕ) × (t ≡ slash ∷ star ∷ body) × IsBody body rest

-- A block comment that is not closed is at the front of the text. It extends to the end.
abbrev pub IsUnterminatedBlockComment : (t rest : List ℕ) → Type 0
IsUnterminatedBlockComment t rest = (body : List ℕ) × (t ≡ slash ∷ star ∷ body)
    × ((after : List ℕ) → IsBody body after → ⊥) × (rest ≡ [])

abbrev pub is_slash : ℕ → Bool
is_slash c = c == slash

abbrev pub is_star_or_slash : ℕ → Bool
is_star_or_slash c = (c == star) || (c == slash)

-- The documentation that a line comment is, by its text after `//`: inner if that starts with `!`,
-- and outer if it starts with `/` and not with `//`.
abbrev pub line_doc : List ℕ → Option DocStyle
line_doc [] = None
line_doc (c ∷ t) =
    if c == exclamation then Some Inner
    else if (c == slash) && not (first_passes is_slash t) then Some Outer
    else None

-- The documentation that a block comment is, by its text after `/*`. It is inner if that starts
-- with `!`, and outer if that starts with `*`, but neither with `**` nor with `*/`.
abbrev pub block_doc : List ℕ → Option DocStyle
block_doc [] = None
block_doc (c ∷ t) =
    if c == exclamation then Some Inner
    else if (c == star) && not (first_passes is_star_or_slash t) then Some Outer
    else None

-- The documentation that a token of this kind and text is.
abbrev pub doc_style : TokenKind → List ℕ → Option DocStyle
doc_style LineComment t = line_doc (drop 2 t)
doc_style BlockComment t = block_doc (drop 2 t)
doc_style UnterminatedBlockComment t = block_doc (drop 2 t)
doc_style kind t = None
