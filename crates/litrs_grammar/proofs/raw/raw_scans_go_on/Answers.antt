use Rattle.litrs_grammar.proofs.RawScans.{raw_scans_go_on}
use Rattle.litrs_grammar.proofs.raw.raw_scans_go_on.Goals as goal

pub returns : goal.returns
returns c = raw_scans_go_on
