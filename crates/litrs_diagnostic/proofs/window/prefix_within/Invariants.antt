-- Characters so far, and the columns that are left.
use Rattle.std.proofs.Common.{List, ℕ, length}
use Rattle.litrs_diagnostic.proofs.Within.{IsTaken}
use Rattle.litrs_diagnostic.proofs.window.prefix_within.Given as goal

abbrev pub invariant-loop-c : goal.invariant-loop-c
invariant-loop-c l = (front done : List ℕ) × IsTaken l.width l.left l.text front l.rest done

abbrev pub decreases-loop-c : goal.decreases-loop-c
decreases-loop-c l = length l.rest
