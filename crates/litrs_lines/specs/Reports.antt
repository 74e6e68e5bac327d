-- The reports on texts and on groups of lines, one after the other.
use Rattle.std.specs.Prelude.{◌≡◌, ℕ, List, [], ◌∷◌, ◌++◌, Option, map}
use Rattle.std.specs.Io.KnownBytes.{Appends}
use Rattle.litrs_base.specs.Characters.{line_feed}
use Rattle.litrs_lines.specs.Groups.{joined, AreGroups}
use Rattle.litrs_lines.specs.Report.{IsReport}

-- `out` has a report on each text, with an LF after it. A text may be a line that is not UTF-8.
abbrev pub AreReports : List (List ℕ) → List ℕ → Type 0
AreReports [] out = out ≡ []
AreReports (text ∷ texts) out =
    (r : List ℕ) × (rest : List ℕ) × IsReport text r × AreReports texts rest
    × (out ≡ (r ++ line_feed ∷ []) ++ rest)

-- `out` has a report on each group of the lines, joined by LF.
abbrev pub AreGroupReports : List (List ℕ) → List ℕ → Type 0
AreGroupReports lines out =
    (groups : List (List (List ℕ))) × AreGroups groups lines × AreReports (map joined groups) out

-- The reports on the groups of these lines were appended to known bytes.
pub record AppendsReports (lines : List (List ℕ)) (old new : Option (List ℕ)) : Type 0 where
  pub out : List ℕ
  pub reports : AreGroupReports lines out
  pub appends : Appends old new out
