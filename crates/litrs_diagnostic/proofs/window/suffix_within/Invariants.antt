-- Characters so far, and the columns that are left.
use Rattle.std.proofs.Common.{List, ℕ, length}
use Rattle.litrs_diagnostic.proofs.Within.{IsTakenBack}
use Rattle.litrs_diagnostic.proofs.window.suffix_within.Given as goal

abbrev pub invariant-loop-more : goal.invariant-loop-more
invariant-loop-more l = (tail done : List ℕ) × IsTakenBack l.width l.left l.text l.rest tail done

abbrev pub decreases-loop-more : goal.decreases-loop-more
decreases-loop-more l = length l.rest
