-- One more digit, before those that are written.
use Rattle.std.proofs.Common.{◌≡◌, ◌≤◌, ◌<◌, ◌-◌, ◌/◌, ◌%◌, ◌^◌, ◌++◌, map, length, drop, set, ap, ◌∙◌, arith, rules}
use Rattle.std.specs.Char.{digit_char}
use Rattle.std.specs.Int.Digits.{digits_of}
use Rattle.std.proofs.lemmas.List.{append-nil, drop_all, length-set}
use Rattle.litrs_build.proofs.DigitLemmas.{digits_fit, write_step, write_fits, write_zero}
use Rattle.litrs_build.proofs.integers.write_in_radix.Goals as goal

pub returns-then-value-eq0-clause-digits : goal.returns-then-value-eq0-clause-digits
returns-then-value-eq0-clause-digits g c =
    let room : length c.args.buffer.now ≡ 128 = search rules in
    write_zero g.row.RADIX c.args.value c.args.buffer.now c.if-value-eq0.true room

pub loop-rest-init : goal.loop-rest-init
loop-rest-init g c =
    let buffer = c.args.buffer.now in
    let ds = map digit_char (digits_of g.row.RADIX c.args.value) in
    let room : length buffer ≡ 128 = search rules in
    let small : c.args.value < 2 ^ 128 = omega arith in
    record {
      within = omega arith;
      room = room;
      fits = digits_fit g.row.RADIX c.args.value c.requires.0 small;
      written = ap (λ t. ds ++ t) (drop_all 128 buffer (omega arith)) ∙ append-nil ds;
    }

pub overflow_sub-start : goal.overflow_sub-start
overflow_sub-start g c =
    (write_fits g.row.RADIX c.loop-rest.rest c.loop-rest.start
    c.requires.0 c.loop-rest-test.true c.loop-rest.invariant.fits).0

pub loop-rest-preserved : goal.loop-rest-preserved
loop-rest-preserved g c =
    let b = g.row.RADIX in
    let rest = c.loop-rest.rest in
    let start = c.loop-rest.start in
    let buffer = c.loop-rest.buffer in
    let held = c.loop-rest.invariant in
    let all = map digit_char (digits_of b c.args.value) in
    let two = c.requires.0 in
    let some : 0 < rest = c.loop-rest-test.true in
    let fits = write_fits b rest start two some held.fits in
    let digit : c.digit_char.result ≡ digit_char (rest % b) = c.digit_char.ensures in
    let room = held.room in
    let within = held.within in
    let inside : start ≤ length buffer = omega arith in
    record {
      within = omega arith;
      room = length-set buffer (start - 1) c.digit_char.result ∙ held.room;
      fits = fits.1;
      written = (λ i. map digit_char (digits_of b (rest / b))
          ++ drop (start - 1) (set buffer (start - 1) (digit i)))
          ∙ write_step b rest start buffer all two some fits.0 inside held.written;
    }
