-- The law is the lemma.
use Rattle.litrs_prefix.proofs.Opened.{opened}
use Rattle.litrs_prefix.proofs.laws.prefixes_open.Goals as goal

pub returns : goal.returns
returns c = opened
