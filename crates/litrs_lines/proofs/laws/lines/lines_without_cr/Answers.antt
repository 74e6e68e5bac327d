use Rattle.litrs_lines.proofs.LinesLemmas.{lines_without_cr}
use Rattle.litrs_lines.proofs.laws.lines.lines_without_cr.Goals as goal

pub returns : goal.returns
returns c = lines_without_cr
