-- Laws of escapes.
use Rattle.std.specs.Prelude.{◌≡◌, ◌↔◌, ℕ, List, ◌∷◌, ◌++◌, Some, None}
use Rattle.litrs_base.specs.Refusal.{Refusal, IsInText}
use Rattle.litrs_base.specs.Characters.{backslash}
use Rattle.litrs_base.specs.declared.quotes.Switches.{Switches}
use Rattle.litrs_grammar.specs.Escape.{Escape, IsEscape, escape_text, escape_refusal}

-- A text has at most one escape at its front.
abbrev pub EscapesAreUnique : Type 0
EscapesAreUnique = (w : Switches) (e f : Escape) (x y : List ℕ) →
    IsEscape w e → IsEscape w f → escape_text e ++ x ≡ escape_text f ++ y → (e ≡ f) × (x ≡ y)

-- There is an escape at the front of the text.
abbrev pub BeginsWithEscape : Switches → List ℕ → Type 0
BeginsWithEscape w t = (e : Escape) × (rest : List ℕ) × (escape_text e ++ rest ≡ t) × IsEscape w e

-- A text that starts with a backslash either has an escape at its front or is refused by the table,
-- and never both.
abbrev pub EscapesAreDecided : Type 0
EscapesAreDecided = (w : Switches) (t : List ℕ) →
    (escape_refusal w (backslash ∷ t) ≡ None) ↔ BeginsWithEscape w (backslash ∷ t)

-- The span of each refusal lies within the text and starts on a character boundary.
abbrev pub EscapeSpansLieInText : Type 0
EscapeSpansLieInText = (w : Switches) (t : List ℕ) (e : Refusal) →
    escape_refusal w (backslash ∷ t) ≡ Some e → IsInText (backslash ∷ t) e
