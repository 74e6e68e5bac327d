use Rattle.std.proofs.Common.{◌<◌, inr, sym, ap, arith}
use Rattle.litrs_c.specs.Names.{zero_ended, token_names}
use Rattle.litrs_c.proofs.Names.{token_unknown, text_at, ended_name_at}
use Rattle.litrs_c.proofs.static_texts.token_kind_name.Goals as goal

pub returns-then-index-lt15 : goal.returns-then-index-lt15
returns-then-index-lt15 c =
    let within : c.args.number < 15 = c.if-index-lt15.true in
    rw text_at (ended_name_at token_names c.args.number _ within)

pub returns-else-index-lt15 : goal.returns-else-index-lt15
returns-else-index-lt15 c =
    let past : 14 < c.args.number = omega (arith, c.if-index-lt15.false) in
    sym (ap zero_ended (token_unknown c.args.number (inr past)))
