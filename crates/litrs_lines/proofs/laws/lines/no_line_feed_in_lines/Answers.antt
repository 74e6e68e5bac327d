use Rattle.litrs_lines.proofs.LinesLemmas.{no_line_feed_in_lines}
use Rattle.litrs_lines.proofs.laws.lines.no_line_feed_in_lines.Goals as goal

pub returns : goal.returns
returns c = no_line_feed_in_lines
