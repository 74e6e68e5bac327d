use Rattle.litrs_grammar.proofs.RawScans.{raw_bodies_end_at_closings}
use Rattle.litrs_grammar.proofs.raw.raw_bodies_end_at_closings.Goals as goal

pub returns : goal.returns
returns c = raw_bodies_end_at_closings
