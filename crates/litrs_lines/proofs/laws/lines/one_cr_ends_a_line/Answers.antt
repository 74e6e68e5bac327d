use Rattle.litrs_lines.proofs.LinesLemmas.{one_cr_ends_a_line}
use Rattle.litrs_lines.proofs.laws.lines.one_cr_ends_a_line.Goals as goal

pub returns : goal.returns
returns c = one_cr_ends_a_line
