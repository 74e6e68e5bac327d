use Rattle.litrs_lines.proofs.LinesLemmas.{ended_parts_of-spell}
use Rattle.litrs_lines.proofs.laws.lines.lines_spell_the_bytes.Goals as goal

pub returns : goal.returns
returns c = ended_parts_of-spell
