-- Laws of the steps of texts.
use Rattle.std.specs.Prelude.{◌≡◌, ◌⊎◌, ℕ, List}
use Rattle.std.specs.Str.{chars}
use Rattle.litrs.specs.LiteralDerivation.{literal_raw, derivation}
use Rattle.litrs_base.specs.Refusal.{Refusal, refusal_of}
use Rattle.litrs_grammar.specs.Literal.{Derivation, IsLiteral, literal_parse}
use Rattle.litrs_grammar.specs.LiteralRefusals.{IsRefusal}
use Rattle.litrs_lines.specs.declared.collector.Step.{Step}
use Rattle.litrs_lines.specs.declared.collector.Step.TheVariants.{More, Literal, Refused}
use Rattle.litrs_lines.specs.Steps.{BeginsByLine, IsUnfinished, IsStep}

-- The text is a literal, or unfinished, or refused and does not begin a literal with an LF after
-- it.
abbrev pub HasStep : List ℕ → Type 0
HasStep t =
    ((d : Derivation) × IsLiteral (chars t) d)
    ⊎ (IsUnfinished t
    ⊎ ((r : Refusal) × IsRefusal literal_parse (chars t) r × (BeginsByLine t → ⊥)))

-- One of the three holds for each text.
abbrev pub StepsAreDecided : Type 0
StepsAreDecided = (t : List ℕ) → HasStep t

-- The two steps are the same.
abbrev pub SameStep : Step → Step → Type 0
SameStep More More = Unit {0}
SameStep (Literal lit) (Literal other) =
    (literal_raw lit ≡ literal_raw other) × (derivation lit ≡ derivation other)
SameStep (Refused e) (Refused other) = refusal_of e ≡ refusal_of other
SameStep _ _ = ⊥

-- No text has two steps.
abbrev pub StepsAreUnique : Type 0
StepsAreUnique = (t : List ℕ) (step other : Step) → IsStep t step → IsStep t other →
    SameStep step other
