-- Laws of chars and bytes.
use Rattle.std.specs.Prelude.{◌≡◌, ◌↔◌, ℕ, List, [], ◌∷◌, ◌++◌, Some, None}
use Rattle.litrs_base.specs.Refusal.{Refusal, IsInText}
use Rattle.litrs_base.specs.Characters.{line_feed}
use Rattle.litrs_base.specs.declared.quotes.CharKind.{CharKind}
use Rattle.litrs_grammar.specs.CharByte.{CharParts, IsCharLiteral, char_kind_refusal}

-- A text has at most one derivation as a char or a byte, over both kinds together.
abbrev pub CharsAreUnique : Type 0
CharsAreUnique = (t : List ℕ) (k l : CharKind) (d e : CharParts) →
    IsCharLiteral k t d → IsCharLiteral l t e → (k ≡ l) × (d ≡ e)

-- A text is either a literal of the kind (a char or a byte) or refused by the table of the kind,
-- and never both.
abbrev pub CharsAreDecided : Type 0
CharsAreDecided = (kind : CharKind) (t : List ℕ) →
    (char_kind_refusal kind t ≡ None) ↔ ((d : CharParts) × IsCharLiteral kind t d)

-- The span of each refusal lies within the text and starts on a character boundary.
abbrev pub CharSpansLieInText : Type 0
CharSpansLieInText = (kind : CharKind) (t : List ℕ) (e : Refusal) →
    char_kind_refusal kind t ≡ Some e → IsInText t e

-- No char and no byte ends with LF.
abbrev pub NoCharEndsWithLineFeed : Type 0
NoCharEndsWithLineFeed = (kind : CharKind) (t : List ℕ) (d : CharParts) →
    ¬ IsCharLiteral kind (t ++ line_feed ∷ []) d
