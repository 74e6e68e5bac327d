-- At the quote, or where the body is refused.
use Rattle.std.proofs.Common.{◌<◌, ◌^◌, length, arith}
use Rattle.litrs_lex.proofs.Readings.{body_ends, end_held, none_longer}
use Rattle.litrs_lex.proofs.quoted.read_end.Goals as goal

pub returns-in-Quote : goal.returns-in-Quote
returns-in-Quote g c = body_ends _ c.args.input.now _ _ _ c.in-Quote.ensures.reached

pub returns-in-Refused : goal.returns-in-Refused
returns-in-Refused g c = end_held _ c.args.input.now _ _ _ c.in-Refused.ensures.reached.0

pub unreachable-requires : goal.unreachable-requires
unreachable-requires g c = none_longer _ c.args.input.now _ (let small : length c.args.input.now < 2 ^ 64 = omega arith in small) c.in-Full.ensures.reached.1
