-- A chunk of digits with leading zeros, after those of the quotient. The digits of a number of 64
-- bits are those that `{}` writes.
use Rattle.std.proofs.Common.{◌≡◌, ◌≤◌, ◌<◌, ◌-◌, ◌^◌, ◌++◌, length, drop, ap, ◌∙◌, arith, rules}
use Rattle.std.specs.Fmt.{decimal}
use Rattle.std.proofs.lemmas.Fmt.{length-decimal-le}
use Rattle.std.proofs.lemmas.List.{append-nil, drop_all, take_all}
use Rattle.litrs_base.specs.declared.integer.IntegerBase.TheVariants.{Decimal}
use Rattle.litrs_build.specs.WrittenDigits.{written_digits}
use Rattle.litrs_build.proofs.DigitLemmas.{decimal_digits, written_fits, write_chunk, next_chunk}
use Rattle.litrs_build.proofs.integers.write_decimal.Goals as goal

pub loop-rest-init : goal.loop-rest-init
loop-rest-init c =
    let buffer = c.args.buffer.now in
    let room : length buffer ≡ 128 = search rules in
    let small : c.args.value < 2 ^ 128 = omega arith in
    record {
      within = omega arith;
      room = room;
      fits = written_fits c.args.value small;
      zeros = take_all 128 buffer (omega arith) ∙ c.requires;
      written = ap (λ t. written_digits Decimal c.args.value ++ t) (drop_all 128 buffer (omega arith))
          ∙ append-nil (written_digits Decimal c.args.value);
    }

pub write_digits-requires : goal.write_digits-requires
write_digits-requires c =
    let rest = c.loop-rest.rest in
    let held = c.loop-rest.invariant in
    let large : 2 ^ 64 ≤ rest = omega (arith, c.loop-rest-test.true) in
    let divided = c.divide_by_chunk-quotient.ensures in
    let next = next_chunk rest _ _ large divided.quotient divided.remainder in
    let few = length-decimal-le 9 c.divide_by_chunk-quotient.result.1 (omega arith) (omega arith) (omega arith) in
    (omega (arith, few, next.1, held.fits), omega (arith, held.within, held.room))

pub overflow_sub-end : goal.overflow_sub-end
overflow_sub-end c =
    let rest = c.loop-rest.rest in
    let held = c.loop-rest.invariant in
    let large : 2 ^ 64 ≤ rest = omega (arith, c.loop-rest-test.true) in
    let divided = c.divide_by_chunk-quotient.ensures in
    omega (arith, (next_chunk rest _ _ large divided.quotient divided.remainder).1, held.fits)

pub loop-rest-preserved : goal.loop-rest-preserved
loop-rest-preserved c =
    let rest = c.loop-rest.rest in
    let end = c.loop-rest.end in
    let before = c.loop-rest.buffer in
    let after = c.write_digits.new.buf in
    let held = c.loop-rest.invariant in
    let low = c.divide_by_chunk-quotient.result.1 in
    let large : 2 ^ 64 ≤ rest = omega (arith, c.loop-rest-test.true) in
    let divided = c.divide_by_chunk-quotient.ensures in
    let next = next_chunk rest _ _ large divided.quotient divided.remainder in
    let same = decimal_digits low (omega arith) in
    let few = length-decimal-le 9 low (omega arith) (omega arith) (omega arith) in
    let room : length after ≡ 128 = search rules in
    let chunk = write_chunk end c.write_digits.result (decimal low) before after
    (omega (arith, next.1, held.fits)) c.write_digits.ensures.start few
    (omega (arith, held.within, room)) held.zeros c.write_digits.ensures.before
    c.write_digits.ensures.written (omega (arith, held.within, held.room)) in
    record {
      within = omega (arith, held.within);
      room = room;
      fits = omega (arith, next.1, held.fits);
      zeros = chunk.0;
      written = next.0 (decimal low) same (drop end before) (drop (end - 9) after) chunk.1 ∙ held.written;
    }

pub write_digits-requires-2 : goal.write_digits-requires-2
write_digits-requires-2 c =
    let held = c.loop-rest.invariant in
    let small : c.loop-rest.rest < 2 ^ 64 = omega (arith, c.loop-rest-test.false) in
    let same = ap length (decimal_digits c.loop-rest.rest small) in
    (omega (arith, same, held.fits), omega (arith, held.within, held.room))

pub returns-clause-digits : goal.returns-clause-digits
returns-clause-digits c =
    let rest = c.loop-rest.rest in
    let small : rest < 2 ^ 64 = omega (arith, c.loop-rest-test.false) in
    c.write_digits-2.ensures.written
    ∙ (ap (λ t. t ++ drop c.loop-rest.end c.loop-rest.buffer) (decimal_digits rest small)
    ∙ c.loop-rest.invariant.written)
