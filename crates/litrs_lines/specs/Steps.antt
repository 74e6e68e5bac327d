-- The steps of a collector, by the lines that it has, joined by LF.
use Rattle.std.specs.Prelude.{◌≡◌, ◌⊎◌, ℕ, Bool, true, false, List, [], ◌∷◌, ◌++◌, IsTrue, IsFalse}
use Rattle.std.specs.Str.{chars, IsUtf8}
use Rattle.litrs.specs.declared.Literal.{Literal as AnyLiteral}
use Rattle.litrs.specs.LiteralDerivation.{literal_raw, derivation}
use Rattle.litrs_base.specs.Characters.{line_feed}
use Rattle.litrs_base.specs.Derivations.{HasNoDerivation, IsOnlyDerivation}
use Rattle.litrs_grammar.specs.Literal.{Derivation, a_bool, IsLiteral, literal_parse, Begins}
use Rattle.litrs_grammar.specs.Refused.{IsRefused}
use Rattle.litrs_lines.specs.declared.collector.Step.{Step}
use Rattle.litrs_lines.specs.declared.collector.Step.TheVariants.{More, Literal, Refused}

-- The text with an LF after it begins a literal.
abbrev pub BeginsByLine : List ℕ → Type 0
BeginsByLine t = Begins literal_parse (chars t ++ line_feed ∷ [])

-- The text is not a literal, and with an LF after it begins one.
abbrev pub IsUnfinished : List ℕ → Type 0
IsUnfinished t = HasNoDerivation (IsLiteral (chars t)) × BeginsByLine t

-- `true` iff the derivation is that of a bool.
abbrev pub is_a_bool : Derivation → Bool
is_a_bool (a_bool b) = true
is_a_bool d = false

-- The text is a literal other than a bool, or with an LF after it begins a literal. No other first
-- line is copied.
abbrev pub MayBeCopied : List ℕ → Type 0
MayBeCopied t =
    ((d : Derivation) × IsLiteral (chars t) d × IsFalse (is_a_bool d)) ⊎ BeginsByLine t

-- The literal is the only derivation of the text.
abbrev pub IsReadAs : {B : Type 0} → List ℕ → AnyLiteral B → Type 0
IsReadAs t lit =
    (literal_raw lit ≡ t) × IsOnlyDerivation (IsLiteral (chars t)) (derivation lit)

-- The step is this literal, with an owned text.
abbrev pub IsLiteralStep : {B : Type 0} → AnyLiteral B → Step → Type 0
IsLiteralStep lit (Literal owned) =
    (literal_raw owned ≡ literal_raw lit) × (derivation owned ≡ derivation lit)
IsLiteralStep lit _ = ⊥

-- The step of a text: it is unfinished; or it is a literal; or it is refused, and with an LF after
-- it does not begin a literal.
abbrev pub IsStep : List ℕ → Step → Type 0
IsStep t More = IsUnfinished t
IsStep t (Literal lit) = IsReadAs t lit
IsStep t (Refused e) = IsRefused literal_parse (chars t) e × (BeginsByLine t → ⊥)

-- The text that is held after a step: the text with an LF after it if it is unfinished, otherwise
-- nothing.
abbrev pub held_after : List ℕ → Step → List ℕ
held_after t More = t ++ line_feed ∷ []
held_after t _ = []

-- The effect of a line that completes the text `text`: the result is the step of the text, and both
-- decide the text that is held.
pub record Feeds (text held : List ℕ) (step : Step) : Type 0 where
  pub utf8 : IsUtf8 text
  pub is : IsStep text step
  pub after : held ≡ held_after text step

-- The effect of a line that is added if a literal can continue after it. If it can, the text is
-- unfinished, and is held with an LF after it. Otherwise, the text with an LF after it does not
-- begin a literal, and the text that is held is unchanged.
pub record Pushes (old line new : List ℕ) (goes_on : Bool) : Type 0 where
  pub more : IsTrue goes_on → IsUnfinished (old ++ line) × (new ≡ (old ++ line) ++ line_feed ∷ [])
  pub other : IsFalse goes_on → (BeginsByLine (old ++ line) → ⊥) × (new ≡ old)
