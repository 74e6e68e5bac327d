-- The text after the run is an end of the text.
use Rattle.litrs_prefix.proofs.Words.{all, after_first, end_of_end}
use Rattle.litrs_prefix.proofs.opening.after_name.Goals as goal

pub returns-in-Some-clause-end : goal.returns-in-Some-clause-end
returns-in-Some-clause-end c =
    let text = c.args.text.now in end_of_end text _ _ (after_first text text _ c.in-Some.c (all text) c.in-Some.ensures.bytes) c.after_run.ensures.end
