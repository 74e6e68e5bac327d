use Rattle.litrs_build.proofs.Hashes.{raw_literals_need_hashes}
use Rattle.litrs_build.proofs.laws.raw_literals_need_hashes.Goals as goal

pub returns : goal.returns
returns c = raw_literals_need_hashes
