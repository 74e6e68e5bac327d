-- Texts that more text may give a literal at the front, or another one.
use Rattle.std.specs.Prelude.{◌≡◌, ℕ, List, [], ◌∷◌, ◌++◌, IsTrue}
use Rattle.litrs_base.specs.Characters.{period}
use Rattle.litrs_base.specs.Text.{IsText, is_empty}
use Rattle.litrs_grammar.specs.Integer.{IntegerParts, IsIntegerOf}
use Rattle.litrs_grammar.specs.Literal.{Derivation}
use Rattle.litrs_prefix.specs.Prefix.{HasPrefix}

-- A literal is at the front, before a rest that is not empty: every longer text has it there.
abbrev pub IsSettled : List ℕ → Type 0
IsSettled t = (d : Derivation) × (c : ℕ) × (rest : List ℕ) × HasPrefix t d (c ∷ rest)

-- No literal is settled at the front, and with some text after it, which may be empty, the text has
-- a literal there. The answer of `parse_prefix` may change without this: see `MayChange`.
pub record PrefixGoesOn (t : List ℕ) : Type 0 where
  pub unsettled : IsSettled t → ⊥
  pub more : List ℕ
  pub is_text : IsText more
  pub literal : Derivation
  pub rest : List ℕ
  pub found : HasPrefix (t ++ more) literal rest

-- An integer without a suffix.
abbrev pub IsBareInteger : List ℕ → Type 0
IsBareInteger t = (d : IntegerParts) × IsIntegerOf t d × IsTrue (is_empty d.suffix)

-- An integer without a suffix, and one period.
abbrev pub IsIntegerAndPeriod : List ℕ → Type 0
IsIntegerAndPeriod t = (front : List ℕ) × IsBareInteger front × (front ++ period ∷ [] ≡ t)
