use Rattle.std.proofs.Common.{◌≡◌, Some, false, sym, ap, ◌∙◌, subst}
use Rattle.std.specs.List.{list_any}
use Rattle.std.specs.Prelude.{IfErr}
use Rattle.std.specs.Float.Ieee.{round}
use Rattle.litrs.specs.FloatLiteral.{float_parts}
use Rattle.litrs.specs.IntegerLiteral.{integer_parts}
use Rattle.litrs.specs.LiteralDerivation.{derivation}
use Rattle.litrs_grammar.specs.Float.{number_part, is_underscore}
use Rattle.litrs_grammar.specs.Integer.{integer_value}
use Rattle.litrs_value.specs.FloatValue.{float_value}
use Rattle.litrs_value.specs.Values.{float_of}
use Rattle.litrs_c.specs.Numbers.{IsCopied}
use Rattle.litrs_c.proofs.Results.{map_ok, fails_if}
use Rattle.litrs_c.proofs.numbers.nearest.Goals as goal

pub returns-in-Float-clause-value : goal.returns-in-Float-clause-value
returns-in-Float-clause-value g c =
    let f = g.F.RawFloat.format in
    let value = g.F.RawFloat.value in
    map_ok c.float.result (λ x. value x ≡ float_value f false (float_parts c.in-Float.lit)) (λ x. float_of f false (derivation c.args.lit.now) ≡ Some (value x)) c.float.ensures.value
    (λ x is. ap (λ l. float_of f false (derivation l)) c.in-Float.is ∙ ap Some (sym is))

pub returns-in-Float-clause-memory : goal.returns-in-Float-clause-memory
returns-in-Float-clause-memory g c =
    subst (λ d. IfErr c.float.result (λ _. IsCopied d)) (sym (ap derivation c.in-Float.is))
    (fails_if c.float.result (list_any is_underscore (number_part (float_parts c.in-Float.lit))) c.float.ensures.succeeds)

pub returns-in-Integer-clause-value : goal.returns-in-Integer-clause-value
returns-in-Integer-clause-value g c =
    let f = g.F.RawFloat.format in
    let value = g.F.RawFloat.value in
    map_ok c.integer_float.result (λ x. value x ≡ round f false (integer_value (integer_parts c.in-Integer.lit)) 1) (λ x. float_of f false (derivation c.args.lit.now) ≡ Some (value x)) c.integer_float.ensures.value
    (λ x is. ap (λ l. float_of f false (derivation l)) c.in-Integer.is ∙ ap Some (sym is))

pub returns-in-Integer-clause-memory : goal.returns-in-Integer-clause-memory
returns-in-Integer-clause-memory g c =
    subst (λ d. IfErr c.integer_float.result (λ _. IsCopied d)) (sym (ap derivation c.in-Integer.is)) c.integer_float.ensures.memory
