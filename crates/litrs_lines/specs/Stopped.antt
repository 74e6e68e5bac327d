-- Runs that stop.
use Rattle.std.specs.Prelude.{ℕ, List, [], ◌∷◌, Option, None, Some, IfSome}
use Rattle.std.specs.Io.{StartsWith}
use Rattle.std.specs.Io.KnownBytes.{Appends, Consumes}
use Rattle.litrs_lines.specs.Lines.{ended_lines, lines_of}
use Rattle.litrs_lines.specs.Reports.{AreGroupReports}

-- A prefix of `bytes` was appended to known bytes.
pub record AppendsBeginning (old new : Option (List ℕ)) (bytes : List ℕ) : Type 0 where
  pub written : List ℕ
  pub appends : Appends old new written
  pub begins : StartsWith bytes written

-- The whole lines of the bytes that were taken from an input: all lines, or only those that an LF
-- ends if bytes are left.
abbrev pub whole_lines : (left : Option (List ℕ)) (taken : List ℕ) → List (List ℕ)
whole_lines None taken = lines_of taken
whole_lines (Some []) taken = lines_of taken
whole_lines (Some (b ∷ bs)) taken = ended_lines taken

-- A prefix of the reports on the groups of all lines of `bytes` was appended to known bytes.
abbrev pub AppendsBeginningOfReports : (old new : Option (List ℕ)) (bytes : List ℕ) → Type 0
AppendsBeginningOfReports old new bytes =
    (out : List ℕ) × AreGroupReports (lines_of bytes) out × AppendsBeginning old new out

-- The bytes that were written begin the reports on the groups of the whole lines that were taken.
-- They also begin those on the groups of all lines of a known input.
pub record StopsWithin (left_old left_new contents_old contents_new : Option (List ℕ))
    : Type 0 where
  pub taken : List ℕ
  pub takes : Consumes left_old left_new taken
  pub out : List ℕ
  pub reports : AreGroupReports (whole_lines left_new taken) out
  pub writes : AppendsBeginning contents_old contents_new out
  pub begins : IfSome left_old (AppendsBeginningOfReports contents_old contents_new)
