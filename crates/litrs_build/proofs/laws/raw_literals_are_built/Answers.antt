use Rattle.litrs_build.proofs.RawLiterals.{raw_literals_are_built}
use Rattle.litrs_build.proofs.laws.raw_literals_are_built.Goals as goal

pub returns : goal.returns
returns c = raw_literals_are_built
