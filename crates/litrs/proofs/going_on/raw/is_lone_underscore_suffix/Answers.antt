-- The span starts on a character boundary.
use Rattle.litrs.proofs.RawEnds.{span_starts}
use Rattle.litrs.proofs.going_on.raw.is_lone_underscore_suffix.Goals as goal

pub range_from-requires : goal.range_from-requires
range_from-requires c = λ _. span_starts c.args.text.now c.args.refusal.now c.in-Some.span
    c.utf8.text c.requires c.in-Some.ensures
