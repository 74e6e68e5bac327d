-- Laws of the groups of lines.
use Rattle.std.specs.Prelude.{◌≡◌, ℕ, List}
use Rattle.litrs_lines.specs.Groups.{AreGroups}

-- Each list of lines has groups.
abbrev pub LinesHaveGroups : Type 0
LinesHaveGroups = (lines : List (List ℕ)) → (groups : List (List (List ℕ))) × AreGroups groups lines

-- No list of lines has other groups.
abbrev pub GroupsAreUnique : Type 0
GroupsAreUnique = (lines : List (List ℕ)) (groups others : List (List (List ℕ))) →
    AreGroups groups lines → AreGroups others lines → groups ≡ others
