-- Laws of all literals, and of the refusals of the nine parses.
use Rattle.std.specs.Prelude.{◌≡◌, ◌≢◌, ◌⊎◌, ℕ, List, [], ◌∷◌, ◌++◌}
use Rattle.litrs_base.specs.declared.err.ParseErrorKind.TheVariants.{OutOfMemory}
use Rattle.litrs_base.specs.Refusal.{Refusal, IsInText}
use Rattle.litrs_base.specs.Characters.{line_feed}
use Rattle.litrs_grammar.specs.Literal.{Derivation, IsLiteral, Parse, IsLiteralOf}
use Rattle.litrs_grammar.specs.LiteralRefusals.{IsRefusal}

-- A text has at most one derivation over all eight kinds, so no text is a literal of two kinds.
abbrev pub LiteralsAreUnique : Type 0
LiteralsAreUnique = (t : List ℕ) (d e : Derivation) → IsLiteral t d → IsLiteral t e → d ≡ e

-- For each of the nine parses a text has a derivation or a refusal.
abbrev pub TextsAreDecided : Type 0
TextsAreDecided = (parse : Parse) (t : List ℕ) →
    ((d : Derivation) × IsLiteralOf parse t d) ⊎ ((e : Refusal) × IsRefusal parse t e)

-- No text has both a derivation and a refusal.
abbrev pub LiteralsAreNotRefused : Type 0
LiteralsAreNotRefused = (parse : Parse) (t : List ℕ) (d : Derivation) (e : Refusal) →
    IsLiteralOf parse t d → ¬ IsRefusal parse t e

-- At most one pair of kind and span refuses a text.
abbrev pub RefusalsAreUnique : Type 0
RefusalsAreUnique = (parse : Parse) (t : List ℕ) (e f : Refusal) →
    IsRefusal parse t e → IsRefusal parse t f → e ≡ f

-- The span of each refusal lies within the text and starts on a character boundary.
abbrev pub RefusalSpansLieInText : Type 0
RefusalSpansLieInText = (parse : Parse) (t : List ℕ) (e : Refusal) →
    IsRefusal parse t e → IsInText t e

-- No refusal of a text is `OutOfMemory`.
abbrev pub NoRefusalIsOfMemory : Type 0
NoRefusalIsOfMemory = (parse : Parse) (t : List ℕ) (e : Refusal) →
    IsRefusal parse t e → e.kind ≢ OutOfMemory

-- No literal ends with LF.
abbrev pub NoLiteralEndsWithLineFeed : Type 0
NoLiteralEndsWithLineFeed = (t : List ℕ) (d : Derivation) → ¬ IsLiteral (t ++ line_feed ∷ []) d
