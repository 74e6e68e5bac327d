-- The greatest so far.
use Rattle.std.proofs.Common.{◌≡◌, take, map}
use Rattle.litrs_diagnostic.specs.Label.{greatest_number}
use Rattle.litrs_diagnostic.specs.Rows.{label_of}
use Rattle.litrs_diagnostic.proofs.labels.greatest_number.Given as goal

abbrev pub invariant-loop-label : goal.invariant-loop-label
invariant-loop-label l =
    l.greatest ≡ greatest_number l.fn.first_line l.fn.last (map label_of (take l.label-index l.labels))
