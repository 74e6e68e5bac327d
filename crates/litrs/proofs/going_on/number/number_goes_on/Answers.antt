-- A number, or a refusal that lacks digits.
use Rattle.std.proofs.Common.{length, refl}
use Rattle.litrs.proofs.Begins.{yes}
use Rattle.litrs.proofs.Numbers.{number_found, number_decided}
use Rattle.litrs.proofs.going_on.number.number_goes_on.Goals as goal

pub returns-in-Ok : goal.returns-in-Ok
returns-in-Ok c = yes (number_found _ c.args.text.now c.in-Ok.ensures.ok)

pub returns-in-Err : goal.returns-in-Err
returns-in-Err c =
    number_decided c.args.text.now c.in-Err.e (length c.args.text.now) c.may_gain_digits.result
    c.utf8.text c.requires c.in-Err.ensures.refused refl c.may_gain_digits.ensures
