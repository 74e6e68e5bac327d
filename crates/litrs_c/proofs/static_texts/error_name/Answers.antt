use Rattle.std.proofs.Common.{◌<◌, inr, sym, ap, arith}
use Rattle.litrs_c.specs.Names.{zero_ended, error_names}
use Rattle.litrs_c.proofs.Names.{error_unknown, text_at, ended_name_at}
use Rattle.litrs_c.proofs.static_texts.error_name.Goals as goal

pub returns-then-index-lt42 : goal.returns-then-index-lt42
returns-then-index-lt42 c =
    let within : c.args.number < 42 = c.if-index-lt42.true in
    rw text_at (ended_name_at error_names c.args.number _ within)

pub returns-else-index-lt42 : goal.returns-else-index-lt42
returns-else-index-lt42 c =
    let past : 41 < c.args.number = omega (arith, c.if-index-lt42.false) in
    sym (ap zero_ended (error_unknown c.args.number (inr past)))
