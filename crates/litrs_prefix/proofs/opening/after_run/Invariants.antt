-- The rest is an end of the text, and what follows the run is the same.
use Rattle.litrs_prefix.proofs.Words.{◌≡◌, length, chars, Utf8, shadow, after_run, IsEndOf}
use Rattle.litrs_prefix.proofs.opening.after_run.Given as goal

abbrev pub invariant-loop-c : goal.invariant-loop-c
invariant-loop-c l = shadow (Utf8 l.rest) × (after_run (chars l.rest) ≡ after_run (chars l.text)) × IsEndOf l.text l.rest

abbrev pub decreases-loop-c : goal.decreases-loop-c
decreases-loop-c l = length l.rest
