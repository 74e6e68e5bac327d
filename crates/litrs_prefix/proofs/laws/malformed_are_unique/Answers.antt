-- The law is the lemma.
use Rattle.litrs_prefix.proofs.PieceLaws.{malformed_unique}
use Rattle.litrs_prefix.proofs.laws.malformed_are_unique.Goals as goal

pub returns : goal.returns
returns c = malformed_unique
