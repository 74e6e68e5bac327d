-- A float, or else an integer.
use Rattle.litrs_prefix.proofs.Words.{refl, arith, chars, a_float}
use Rattle.litrs_prefix.specs.Words.{float_parts}
use Rattle.litrs_prefix.proofs.Judged.{number_before}
use Rattle.litrs_prefix.proofs.follow.number_follows.Goals as goal

pub returns-then-ends_suffix : goal.returns-then-ends_suffix
returns-then-ends_suffix c = (a_float (float_parts c.in-Ok.lit), c.in-Ok.ensures.ok.0, grind (arith))

pub returns-else-ends_suffix : goal.returns-else-ends_suffix
returns-else-ends_suffix c = (a_float (float_parts c.in-Ok.lit), c.in-Ok.ensures.ok.0, grind (arith))

pub returns-in-Err : goal.returns-in-Err
returns-in-Err c =
    number_before c.args.front.now (chars c.args.rest.now) c.integer_follows.result c.utf8.front c.requires
    (λ d h. c.in-Err.ensures.refused.none (a_float d) (refl, h)) c.integer_follows.ensures
