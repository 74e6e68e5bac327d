-- The value with its sign.
use Rattle.std.proofs.Common.{Some, sym, ap, ◌∙◌}
use Rattle.litrs.specs.FloatLiteral.{float_parts}
use Rattle.litrs.specs.Integer.{integer_value}
use Rattle.litrs.specs.IntegerLiteral.{integer_parts}
use Rattle.litrs.specs.LiteralDerivation.{derivation}
use Rattle.litrs_value.specs.Values.{float_of, with_sign}
use Rattle.litrs_value.proofs.Signs.{sign_of_round, sign_of_value}
use Rattle.litrs_value.proofs.floats.number.Goals as goal

pub returns-in_ok-value-in-Float-clause-value : goal.returns-in_ok-value-in-Float-clause-value
returns-in_ok-value-in-Float-clause-value g c =
    let f = g.F.RawFloat.format in
    ap (λ l. float_of f c.args.negative (derivation l)) c.in-Float.is
    ∙ ap Some (sym (c.with_sign.ensures ∙ (ap (with_sign c.args.negative) c.in_ok-value-in-Float.ensures.value ∙ sign_of_value f c.args.negative (float_parts c.in-Float.lit))))

pub returns-in_ok-value-in-Integer-clause-value : goal.returns-in_ok-value-in-Integer-clause-value
returns-in_ok-value-in-Integer-clause-value g c =
    let f = g.F.RawFloat.format in
    ap (λ l. float_of f c.args.negative (derivation l)) c.in-Integer.is
    ∙ ap Some (sym (c.with_sign-in-Integer.ensures ∙ (ap (with_sign c.args.negative) c.in_ok-value-in-Integer.ensures.value ∙ sign_of_round f c.args.negative (integer_value (integer_parts c.in-Integer.lit)) 1)))
