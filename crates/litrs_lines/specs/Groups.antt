-- The groups of lines: lines that are a literal, or a refused text, or a line that is not UTF-8.
use Rattle.std.specs.Prelude.{◌≡◌, ◌⊎◌, ℕ, List, [], ◌∷◌, ◌++◌, All}
use Rattle.std.specs.List.{join_with_byte}
use Rattle.std.specs.Str.{chars, IsUtf8}
use Rattle.litrs_base.specs.Characters.{line_feed}
use Rattle.litrs_grammar.specs.Literal.{Derivation, IsLiteral}
use Rattle.litrs_lines.specs.Steps.{BeginsByLine}

-- The line is not UTF-8.
abbrev pub IsNoText : List ℕ → Type 0
IsNoText line = IsUtf8 line → ⊥

-- The text of some lines, joined by LF.
abbrev pub joined : List (List ℕ) → List ℕ
joined lines = join_with_byte line_feed lines

-- The text is a literal, or with an LF after it does not begin one.
abbrev pub IsFinished : List ℕ → Type 0
IsFinished t = ((d : Derivation) × IsLiteral (chars t) d) ⊎ (BeginsByLine t → ⊥)

-- There is no next line, or it is not UTF-8.
abbrev pub NoTextNext : List (List ℕ) → Type 0
NoTextNext [] = Unit {0}
NoTextNext (line ∷ lines) = IsNoText line

-- A group may end between these lines.
abbrev pub EndsGroup : (group after : List (List ℕ)) → Type 0
EndsGroup group after = IsFinished (joined group) ⊎ NoTextNext after

-- The group is the least number of next lines, at least one, that are UTF-8 and after which a group
-- may end.
pub record IsGroup (group after : List (List ℕ)) : Type 0 where
  pub some : group ≡ [] → ⊥
  pub texts : All IsUtf8 group
  pub ends : EndsGroup group after
  pub least : (front rest : List (List ℕ)) → front ++ rest ≡ group → (front ≡ [] → ⊥) →
      (rest ≡ [] → ⊥) → EndsGroup front (rest ++ after) → ⊥

-- The group is one line that is not UTF-8.
abbrev pub IsOtherLine : List (List ℕ) → Type 0
IsOtherLine group = (line : List ℕ) × (group ≡ line ∷ []) × IsNoText line

-- The groups of the lines, one after the other.
abbrev pub AreGroups : List (List (List ℕ)) → List (List ℕ) → Type 0
AreGroups [] lines = lines ≡ []
AreGroups (group ∷ groups) lines =
    (after : List (List ℕ)) × (group ++ after ≡ lines)
    × (IsGroup group after ⊎ IsOtherLine group) × AreGroups groups after
