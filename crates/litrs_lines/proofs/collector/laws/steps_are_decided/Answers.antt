use Rattle.litrs_lines.proofs.StepLemmas.{steps_are_decided}
use Rattle.litrs_lines.proofs.collector.laws.steps_are_decided.Goals as goal

pub returns : goal.returns
returns c = steps_are_decided
