-- One more byte: an underscore, or a digit.
use Rattle.std.proofs.Common.{◌+◌, ◌*◌, take, get_or, sym, ap, ◌∙◌, arith}
use Rattle.std.specs.Char.{digit_value}
use Rattle.litrs_base.specs.Base.{base_value}
use Rattle.litrs_base.specs.Numeral.{numeral}
use Rattle.litrs_lex.proofs.NumeralLemmas.{numeral_take, numeral_digit, positive_base}
use Rattle.litrs.proofs.integer.value_from.Goals as goal

pub loop-i-init : goal.loop-i-init
loop-i-init g c = record { value = c.requires.front; fits = c.requires.fits }

pub returns-in_err-number : goal.returns-in_err-number
returns-in_err-number g c =
    let base = base_value c.args.base in
    let main = c.args.main.now in
    let i = c.loop-i.i in
    let digit = numeral_digit base main i c.loop-i-test.true c.if-byte-eq95.false in
    let front = numeral_take base main (i + 1) (positive_base c.args.base) in
    let over = c.in_err-number.ensures.numbers (numeral base (take i main)) base c.loop-i.invariant.value (c.from_small_number-radix.ensures ∙ ap g.N.FromIntegerLiteral.of c.value.ensures) in
    rw (c.from_residual.ensures) (λ fits. over (omega arith))

pub returns-in_err-number-2 : goal.returns-in_err-number-2
returns-in_err-number-2 g c =
    let base = base_value c.args.base in
    let main = c.args.main.now in
    let i = c.loop-i.i in
    let digit = numeral_digit base main i c.loop-i-test.true c.if-byte-eq95.false in
    let front = numeral_take base main (i + 1) (positive_base c.args.base) in
    let product = c.in_ok-number.ensures.numbers (numeral base (take i main)) base c.loop-i.invariant.value (c.from_small_number-radix.ensures ∙ ap g.N.FromIntegerLiteral.of c.value.ensures) in
    let over = c.in_err-number-2.ensures.numbers (numeral base (take i main) * base) (digit_value (get_or main i 0)) product.1 (c.from_small_number.ensures ∙ ap g.N.FromIntegerLiteral.of c.in-Some.ensures.1) in
    rw (c.from_residual-in_err-number-2.ensures) (λ fits. over (omega arith))

pub loop-i-preserved : goal.loop-i-preserved
loop-i-preserved g c =
    let base = base_value c.args.base in
    let main = c.args.main.now in
    let i = c.loop-i.i in
    let digit = numeral_digit base main i c.loop-i-test.true c.if-byte-eq95.false in
    let product = c.in_ok-number.ensures.numbers (numeral base (take i main)) base c.loop-i.invariant.value (c.from_small_number-radix.ensures ∙ ap g.N.FromIntegerLiteral.of c.value.ensures) in
    let total = c.in_ok-number-2.ensures.numbers (numeral base (take i main) * base) (digit_value (get_or main i 0)) product.1 (c.from_small_number.ensures ∙ ap g.N.FromIntegerLiteral.of c.in-Some.ensures.1) in
    record {
      value = total.1 ∙ ap g.N.FromIntegerLiteral.of (sym digit);
      fits = let fits = total.0 in omega arith;
    }
