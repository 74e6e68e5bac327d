-- The steps of a collector for the literal at the front of the lines that it has, joined by LF.
use Rattle.std.specs.Prelude.{◌≡◌, ◌⊎◌, ℕ, List, [], ◌∷◌, ◌++◌, IsFalse}
use Rattle.std.specs.Str.{chars, IsUtf8}
use Rattle.litrs.specs.LiteralDerivation.{literal_raw, derivation}
use Rattle.litrs_base.specs.Characters.{line_feed}
use Rattle.litrs_grammar.specs.Literal.{Derivation}
use Rattle.litrs_prefix.specs.Ends.{IsEndOf}
use Rattle.litrs_prefix.specs.Malformed.{IsMalformed}
use Rattle.litrs_prefix.specs.Opens.{opens}
use Rattle.litrs_prefix.specs.Prefix.{HasPrefix}
use Rattle.litrs_lines.specs.Held.{IsHeld}
use Rattle.litrs_lines.specs.Steps.{BeginsByLine, IsUnfinished, is_a_bool}
use Rattle.litrs_lines.specs.declared.collector.PrefixStep.{PrefixStep}
use Rattle.litrs_lines.specs.declared.collector.PrefixStep.TheVariants.{More, Literal, NoLiteral, Malformed}

-- The text has this literal, with this rest, at its front; or no literal begins there; or one
-- begins, and none is valid.
abbrev pub IsFront : List ℕ → PrefixStep → Type 0
IsFront t More = ⊥
IsFront t (Literal lit rest) =
    (literal_raw lit ++ rest.now ≡ t) × HasPrefix (chars t) (derivation lit) (chars rest.now)
IsFront t NoLiteral = IsFalse (opens (chars t))
IsFront t (Malformed e) = IsMalformed (chars t) e

-- The text has a literal other than a bool at its front.
abbrev pub HasFrontToCopy : List ℕ → Type 0
HasFrontToCopy t = (d : Derivation) × (rest : List ℕ) × HasPrefix (chars t) d rest
    × IsFalse (is_a_bool d)

-- The text has a literal other than a bool at its front, or with an LF after it begins a literal.
-- No other first line is copied.
abbrev pub MayBeCopiedToFront : List ℕ → Type 0
MayBeCopiedToFront t = HasFrontToCopy t ⊎ BeginsByLine t

-- The step of a text: it is unfinished; or, with an LF after it, it does not begin a literal, and
-- the step tells its front.
abbrev pub IsPrefixStep : List ℕ → PrefixStep → Type 0
IsPrefixStep t More = IsUnfinished t
IsPrefixStep t step = IsFront t step × (BeginsByLine t → ⊥)

-- The text is what a collector holds, and then the line.
abbrev pub IsHeldBefore : (line text : List ℕ) → Type 0
IsHeldBefore line text = (held : List ℕ) × IsHeld held × IsUtf8 held × (held ++ line ≡ text)

-- The rest follows a literal at the front of what a collector holds, and then the line.
abbrev pub IsAfterLiteral : (line rest : List ℕ) → Type 0
IsAfterLiteral line rest =
    (text : List ℕ) × (d : Derivation) × IsHeldBefore line text
    × HasPrefix (chars text) d (chars rest)

-- The rest after the literal is the end of the line.
abbrev pub EndsInLine : (line : List ℕ) → PrefixStep → Type 0
EndsInLine line (Literal lit rest) = IsEndOf line rest.now
EndsInLine line step = Unit {0}

-- The text that is held after a step: the text with an LF after it if it is unfinished, otherwise
-- nothing.
abbrev pub held_after_prefix : List ℕ → PrefixStep → List ℕ
held_after_prefix t More = t ++ line_feed ∷ []
held_after_prefix t step = []
