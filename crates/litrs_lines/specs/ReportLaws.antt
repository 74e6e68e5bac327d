-- Laws of reports.
use Rattle.std.specs.Prelude.{◌≡◌, ℕ, List}
use Rattle.litrs_lines.specs.Reports.{AreGroupReports}

-- Each list of lines has reports on its groups.
abbrev pub LinesHaveReports : Type 0
LinesHaveReports = (lines : List (List ℕ)) → (out : List ℕ) × AreGroupReports lines out

-- No list of lines has other reports on its groups.
abbrev pub ReportsAreUnique : Type 0
ReportsAreUnique = (lines : List (List ℕ)) (out other : List ℕ) →
    AreGroupReports lines out → AreGroupReports lines other → out ≡ other
