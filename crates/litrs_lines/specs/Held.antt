-- The text that a collector holds: nothing, or lines with an LF after each.
use Rattle.std.specs.Prelude.{◌≡◌, ℕ, List, [], ◌∷◌, ◌++◌}
use Rattle.std.specs.Str.{chars, IsUtf8}
use Rattle.litrs_base.specs.Characters.{line_feed}
use Rattle.litrs_base.specs.declared.err.ParseError.{ParseError}
use Rattle.litrs_grammar.specs.Literal.{literal_parse}
use Rattle.litrs_grammar.specs.Quoted.{without_last}
use Rattle.litrs_grammar.specs.Refused.{IsRefused}
use Rattle.litrs_lines.specs.Steps.{IsUnfinished}

-- Nothing is held, or lines that are unfinished, with an LF after each. `without_last` removes the
-- LF after the last line.
abbrev pub IsHeld : List ℕ → Type 0
IsHeld held = (held ≡ [] → ⊥) →
    (without_last held ++ line_feed ∷ [] ≡ held)
    × IsUnfinished (without_last held)

-- The refusal of the lines that are held, without the LF after the last.
abbrev pub IsRefusalOfHeld : List ℕ → ParseError → Type 0
IsRefusalOfHeld held e =
    (lines : List ℕ) × IsUtf8 lines × (lines ++ line_feed ∷ [] ≡ held)
    × IsRefused literal_parse (chars lines) e
