use Rattle.litrs_lines.proofs.LinesLemmas.{lines_are_unique}
use Rattle.litrs_lines.proofs.laws.lines.lines_are_unique.Goals as goal

pub returns : goal.returns
returns c = lines_are_unique
