-- Laws of floats.
use Rattle.std.specs.Prelude.{◌≡◌, ◌↔◌, ℕ, List, [], ◌∷◌, ◌++◌, Some, None}
use Rattle.litrs_base.specs.Characters.{line_feed}
use Rattle.litrs_base.specs.Refusal.{Refusal, IsInText}
use Rattle.litrs_grammar.specs.Float.{FloatParts, IsFloatOf, float_refusal}

-- A text has at most one derivation as a float.
abbrev pub FloatsAreUnique : Type 0
FloatsAreUnique = (t : List ℕ) (d e : FloatParts) → IsFloatOf t d → IsFloatOf t e → d ≡ e

-- A text is either a float or refused by the table, and never both.
abbrev pub FloatsAreDecided : Type 0
FloatsAreDecided = (t : List ℕ) → (float_refusal t ≡ None) ↔ ((d : FloatParts) × IsFloatOf t d)

-- The span of each refusal lies within the text and starts on a character boundary.
abbrev pub FloatSpansLieInText : Type 0
FloatSpansLieInText = (t : List ℕ) (e : Refusal) → float_refusal t ≡ Some e → IsInText t e

-- No float ends with LF.
abbrev pub NoFloatEndsWithLineFeed : Type 0
NoFloatEndsWithLineFeed = (t : List ℕ) (d : FloatParts) → ¬ IsFloatOf (t ++ line_feed ∷ []) d
