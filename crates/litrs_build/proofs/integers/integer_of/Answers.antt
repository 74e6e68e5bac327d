-- The text is an integer, so that it is not refused.
use Rattle.std.proofs.Common.{refl}
use Rattle.litrs_grammar.specs.Literal.{an_integer}
use Rattle.litrs_build.proofs.integers.integer_of.Goals as goal

pub unreachable-requires : goal.unreachable-requires
unreachable-requires c =
    c.in-Err.ensures.refused.none (an_integer c.requires.0) (refl, c.requires.1)
