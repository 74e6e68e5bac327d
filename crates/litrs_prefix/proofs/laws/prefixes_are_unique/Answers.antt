-- The law is the lemma.
use Rattle.litrs_prefix.proofs.Unique.{unique}
use Rattle.litrs_prefix.proofs.laws.prefixes_are_unique.Goals as goal

pub returns : goal.returns
returns c = unique
