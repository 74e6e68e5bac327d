-- One more byte: an underscore, or a digit.
use Rattle.std.proofs.Common.{◌≡◌, ℕ, ◌+◌, ◌*◌, get_or, take, refl, sym, subst, ◌∙◌, arith}
use Rattle.std.specs.Char.{digit_value}
use Rattle.litrs.specs.Base.{base_value}
use Rattle.litrs.specs.Numeral.{numeral}
use Rattle.litrs.proofs.NumeralLemmas.{numeral-nil, numeral_digit, numeral_underscore}
use Rattle.litrs_value.specs.Leading.{IsLeading}
use Rattle.litrs_value.proofs.LeadingBits.{leading_none, digit_at}
use Rattle.litrs_value.proofs.leading.leading_bits.Goals as goal

pub loop-i-init : goal.loop-i-init
loop-i-init c = record {
  leading = leading_none _ _ refl refl refl (numeral-nil (base_value c.args.base));
  shift = omega arith;
}

pub loop-i-preserved-then-byte-eq95 : goal.loop-i-preserved-then-byte-eq95
loop-i-preserved-then-byte-eq95 c = record {
  leading = subst (λ (n : ℕ). IsLeading c.loop-i.leading n) (sym (numeral_underscore (base_value c.args.base) c.args.main.now c.loop-i.i c.loop-i-test.true c.if-byte-eq95.true)) c.loop-i.invariant.leading;
  shift = omega (arith, c.loop-i.invariant.shift);
}

pub push-leading-requires-clause-radix : goal.push-leading-requires-clause-radix
push-leading-requires-clause-radix c = (c.from-radix.ensures ∙ c.value.ensures) ∙ c.digit_bits-bits.ensures.power

pub push-leading-requires-clause-digit : goal.push-leading-requires-clause-digit
push-leading-requires-clause-digit c =
    let main = c.args.main.now in
    let i = c.loop-i.i in
    let small = digit_at c.args.base main i c.requires.digits c.loop-i-test.true c.if-byte-eq95.false in
    let radix : c.from-radix.result ≡ base_value c.args.base = c.from-radix.ensures ∙ c.value.ensures in
    let digit : c.from.result ≡ digit_value (get_or main i 0) = c.from.ensures ∙ c.in-Some.ensures.1 in
    omega (arith, small, radix, digit)

pub loop-i-preserved : goal.loop-i-preserved
loop-i-preserved c =
    let base = base_value c.args.base in
    let main = c.args.main.now in
    let i = c.loop-i.i in
    let n = numeral base (take i main) in
    let radix : c.from-radix.result ≡ base = c.from-radix.ensures ∙ c.value.ensures in
    let digit : c.from.result ≡ digit_value (get_or main i 0) = c.from.ensures ∙ c.in-Some.ensures.1 in
    let all : n * c.from-radix.result + c.from.result ≡ numeral base (take (i + 1) main) =
    (λ k. n * radix k + digit k) ∙ sym (numeral_digit base main i c.loop-i-test.true c.if-byte-eq95.false) in
    record {
      leading = subst (λ (m : ℕ). IsLeading c.push-leading.result m) all (c.push-leading.ensures.leading n c.loop-i.invariant.leading);
      shift = omega (arith, c.push-leading.ensures.shift, c.loop-i.invariant.shift);
    }
