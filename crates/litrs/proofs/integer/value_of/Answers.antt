-- One more byte: an underscore, or a digit.
use Rattle.std.proofs.lemmas.Grind.{common_steps}
use Rattle.std.proofs.Common.{◌≡◌, ◌+◌, ◌*◌, get_or, sym, ◌∙◌, arith}
use Rattle.std.specs.Char.{digit_value}
use Rattle.litrs_base.specs.Base.{base_value}
use Rattle.litrs_lex.proofs.NumeralLemmas.{numeral-nil, numeral_take, numeral_digit, positive_base}
use Rattle.litrs.proofs.integer.value_of.Goals as goal

pub loop-i-init : goal.loop-i-init
loop-i-init g c = sym (numeral-nil (base_value c.args.base))

pub returns-in_err-from_number : goal.returns-in_err-from_number
returns-in_err-from_number g c =
    let front = numeral_take (base_value c.args.base) c.args.main.now c.loop-i.i (positive_base c.args.base) in
    rw (c.from_residual.ensures) (λ fits. c.in_err-from_number.ensures (omega arith))

pub loop-i-preserved : goal.loop-i-preserved
loop-i-preserved g c =
    let main = c.args.main.now in
    let i = c.loop-i.i in
    let radix : c.from-radix.result ≡ base_value c.args.base = c.from-radix.ensures ∙ c.value.ensures in
    let digit : c.from.result ≡ digit_value (get_or main i 0) = c.from.ensures ∙ c.in-Some.ensures.1 in
    (λ k. c.loop-i.invariant k * radix k + digit k) ∙ sym (numeral_digit (base_value c.args.base) main i c.loop-i-test.true c.if-byte-eq95.false)

pub loop-i-preserved-then-byte-eq95 : goal.loop-i-preserved-then-byte-eq95
loop-i-preserved-then-byte-eq95 g c = grind (arith, common_steps)
