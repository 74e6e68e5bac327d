-- The text is a float, so that it is not refused.
use Rattle.std.proofs.Common.{refl}
use Rattle.litrs_grammar.specs.Literal.{a_float}
use Rattle.litrs_build.proofs.floats.float_of.Goals as goal

pub unreachable-requires : goal.unreachable-requires
unreachable-requires c = c.in-Err.ensures.refused.none (a_float c.requires.0) (refl, c.requires.1)
