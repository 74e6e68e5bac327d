use Rattle.litrs_lines.proofs.GroupLemmas.{lines_have_groups}
use Rattle.litrs_lines.proofs.laws.group.lines_have_groups.Goals as goal

pub returns : goal.returns
returns c = lines_have_groups
