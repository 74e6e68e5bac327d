use Rattle.litrs_lines.proofs.StepLemmas.{steps_are_unique}
use Rattle.litrs_lines.proofs.collector.laws.steps_are_unique.Goals as goal

pub returns : goal.returns
returns c = steps_are_unique
