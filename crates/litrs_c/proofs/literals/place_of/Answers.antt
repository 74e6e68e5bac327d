use Rattle.litrs_c.proofs.PartPlaces.{place_by_size}
use Rattle.litrs_c.proofs.literals.place_of.Goals as goal

pub returns : goal.returns
returns c = place_by_size c.args.start c.args.part.now c.utf8.part
