-- Each line makes the rest shorter.
use Rattle.std.proofs.Common.{length}
use Rattle.litrs_explain.proofs.program.Run.explain_bytes.Given as goal

abbrev pub decreases-loop-ending : goal.decreases-loop-ending
decreases-loop-ending l = length l.rest
