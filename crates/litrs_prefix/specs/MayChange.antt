-- The texts for which more text can change the answer of `parse_prefix`.
use Rattle.std.specs.Prelude.{◌≡◌, ℕ, Bool, true, false, ◌==◌, ◌&&◌, ◌||◌, List, [], ◌∷◌, ◌++◌, codes, IsTrue, IsFalse}
use Rattle.litrs_base.specs.Characters.{single_quote, letter_b, letter_c, letter_r}
use Rattle.litrs_base.specs.Text.{IsText, is_empty, is_text}
use Rattle.litrs_grammar.specs.Literal.{Derivation, IsLiteral}
use Rattle.litrs_prefix.specs.Piece.{IsPiece}
use Rattle.litrs_prefix.specs.Opens.{after_name, after_hashes, opens}
use Rattle.litrs_prefix.specs.Prefix.{HasPrefix, HasNoPrefix}

-- `front` is the malformed prefix of `t`. The length and the error that `parse_prefix` returns are
-- those of `front`.
pub record IsMalformedFront (t front : List ℕ) : Type 0 where
  pub rest : List ℕ
  pub spells : front ++ rest ≡ t
  pub opens : IsTrue (opens t)
  pub none : HasNoPrefix t
  pub is_piece : IsPiece t front
  pub invalid : (d : Derivation) → IsLiteral front d → ⊥

-- An answer of `parse_prefix`, if no allocation fails: no literal begins at the front; this literal
-- is the front; or this front is malformed.
pub data Answer : Type 0 where
  none : Answer
  literal : Derivation → List ℕ → Answer
  malformed : List ℕ → Answer

-- The answer is that for the text.
abbrev pub IsAnswer : List ℕ → Answer → Type 0
IsAnswer t none = IsFalse (opens t)
IsAnswer t (literal d front) = (rest : List ℕ) × (front ++ rest ≡ t) × HasPrefix t d rest
IsAnswer t (malformed front) = IsMalformedFront t front

-- The answer for the text is the answer for each longer text.
abbrev pub AnswerStays : List ℕ → Type 0
AnswerStays t = (answer : Answer) (more : List ℕ) → IsText more →
    IsAnswer t answer → IsAnswer (t ++ more) answer

-- Some longer text has another answer.
abbrev pub AnswerChanges : List ℕ → Type 0
AnswerChanges t = (more : List ℕ) × IsText more
    × ((answer : Answer) → IsAnswer t answer → IsAnswer (t ++ more) answer → ⊥)

-- No literal begins at the front of any longer text.
abbrev pub OpensNever : List ℕ → Type 0
OpensNever t = (more : List ℕ) → IsText more → IsFalse (opens (t ++ more))

-- A literal begins at the front of some longer text.
abbrev pub OpensLater : List ℕ → Type 0
OpensLater t = (more : List ℕ) × IsText more × IsTrue (opens (t ++ more))

-- After `b` or `c`: nothing, or `r` and hashes.
abbrev pub is_open_prefix : List ℕ → Bool
is_open_prefix [] = true
is_open_prefix (c ∷ t) = (c == letter_r) && is_empty (after_hashes t)

-- The text is `'`, alone or with a name, after which `'` begins a char, valid or malformed. Or it
-- is the front of a literal with a prefix up to its hashes, which a quote opens.
abbrev pub is_open_front : List ℕ → Bool
is_open_front [] = false
is_open_front (c ∷ t) =
    ((c == single_quote) && is_empty (after_name t))
    || ((c == letter_r) && is_empty (after_hashes t))
    || (((c == letter_b) || (c == letter_c)) && is_open_prefix t)

-- The text is `'` or `b'`, and a line feed. The literal is malformed before the line feed, unless a
-- `'` follows.
abbrev pub is_quoted_line_feed : List ℕ → Bool
is_quoted_line_feed t = is_text (codes "'\n") t || is_text (codes "b'\n") t
