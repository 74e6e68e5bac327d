-- The earlier mask is empty.
use Rattle.std.proofs.Common.{not, arith}
use Rattle.litrs_lex.specs.Special.{is_special}
use Rattle.litrs_lex.proofs.MarkedRuns.{run_bound}
use Rattle.litrs_lex.proofs.search.next_special.Goals as goal

pub next_special_masked-requires-clause-mask : goal.next_special_masked-requires-clause-mask
next_special_masked-requires-clause-mask c = c.empty_at.ensures.mask _ _ c.requires

pub returns-clause-within : goal.returns-clause-within
returns-clause-within c = omega (arith, c.next_special_masked.ensures.place, run_bound (λ b. not (is_special c.args.what b)) c.args.bytes.now c.args.from c.requires)
