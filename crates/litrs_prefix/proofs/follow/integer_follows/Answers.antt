-- A refused text has no derivation.
use Rattle.litrs_prefix.proofs.Words.{refl, an_integer}
use Rattle.litrs_prefix.proofs.follow.integer_follows.Goals as goal

pub returns-in-Err : goal.returns-in-Err
returns-in-Err c = λ d h. c.in-Err.ensures.refused.none (an_integer d) (refl, h)
