-- By the number of leading zeros.
use Rattle.std.proofs.Common.{refl}
use Rattle.litrs_value.proofs.Rounding.{len_is}
use Rattle.litrs_value.proofs.leading.bit_len.Goals as goal

pub returns : goal.returns
returns c =
    let l = len_is c.args.number _ c.from.result c.requires c.ranges.number.fits refl c.from.ensures in
    record { from = l.0; below = l.1; range = l.2 }
