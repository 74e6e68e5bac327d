-- The float is that of the rounded bits.
use Rattle.std.proofs.Common.{ℕ, ◌+◌, ◌-◌, ap, ◌∙◌}
use Rattle.litrs_value.proofs.Rounding.{rounded_at, dropped_is, kept_fits}
use Rattle.litrs_value.proofs.leading.rounded.Goals as goal

pub round_to_even-significand-requires : goal.round_to_even-significand-requires
round_to_even-significand-requires g c =
    kept_fits g.F.RawFloat.format c.args.leading.now.number c.bit_len-len.result c.DIGITS.result c.power_of_two-unit.result (c.DIGITS.ensures ∙ g.met.F.RawFloat.digits_is) c.bit_len-len.ensures.range.0 c.bit_len-len.ensures.below c.power_of_two-unit.ensures

pub returns : goal.returns
returns g c = λ n is.
    let f = g.F.RawFloat.format in
    let x = c.args.leading.now in
    let len = c.bit_len-len.result in
    let d = len - c.DIGITS.result in
    let dropped = dropped_is f len c.DIGITS.result (c.DIGITS.ensures ∙ g.met.F.RawFloat.digits_is) c.bit_len-len.ensures.range.0 in
    c.scaled.ensures
    ∙ rounded_at f x n len d c.power_of_two-unit.result c.round_to_even-significand.result (c.LOWEST.result + d + x.shift) is c.bit_len-len.ensures.from c.bit_len-len.ensures.below dropped.0 dropped.1
    c.power_of_two-unit.ensures (ap (λ (k : ℕ). k + d + x.shift) (c.LOWEST.ensures ∙ g.met.F.RawFloat.lowest_is))
    c.round_to_even-significand.ensures.below c.round_to_even-significand.ensures.tie c.round_to_even-significand.ensures.beyond c.round_to_even-significand.ensures.above
