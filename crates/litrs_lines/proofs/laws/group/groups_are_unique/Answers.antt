use Rattle.litrs_lines.proofs.GroupLemmas.{groups_are_unique}
use Rattle.litrs_lines.proofs.laws.group.groups_are_unique.Goals as goal

pub returns : goal.returns
returns c = groups_are_unique
