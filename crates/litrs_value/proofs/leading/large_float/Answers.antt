-- A large integer has many leading bits.
use Rattle.litrs.specs.Base.{base_value}
use Rattle.litrs.specs.Numeral.{numeral}
use Rattle.litrs_value.proofs.Rounding.{leading_long}
use Rattle.litrs_value.proofs.leading.large_float.Goals as goal

pub rounded-requires-clause-number : goal.rounded-requires-clause-number
rounded-requires-clause-number g c = leading_long c.leading_bits.result (numeral (base_value c.args.base) c.args.main.now) c.leading_bits.ensures.leading c.requires.large

pub returns : goal.returns
returns g c = c.rounded.ensures _ c.leading_bits.ensures.leading
