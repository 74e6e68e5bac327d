-- One more leading digit, or one that follows them.
use Rattle.std.proofs.Common.{◌-◌, ◌^◌, ◌≤◌, refl, arith}
use native.Mathlib.Nat.{mul-le-mul}
use lib.Pow.{pow_mono}
use Rattle.litrs_value.proofs.LeadingBits.{leading_digit, leading_follows}
use Rattle.litrs_value.proofs.leading.Leading.push.Goals as goal

pub returns-then-is_short-clause-leading : goal.returns-then-is_short-clause-leading
returns-then-is_short-clause-leading c = λ n is.
    leading_digit c.args.self _ n c.args.radix c.args.digit (c.is_short.ensures.short c.if-is_short.true) refl refl refl is

pub returns-else-is_short-clause-leading : goal.returns-else-is_short-clause-leading
returns-else-is_short-clause-leading c = λ n is.
    leading_follows c.args.self _ n c.args.radix c.args.digit c.args.bits c.is_more.result (c.is_short.ensures.long c.if-is_short.false) c.requires.radix c.requires.digit refl refl refl
    c.is_more.ensures.none c.is_more.ensures.some is

pub overflow_mul-number : goal.overflow_mul-number
overflow_mul-number c =
    let radix : c.args.radix ≤ 16 = omega (arith, c.requires.radix, pow_mono c.requires.bits) in
    let number : c.args.self.number ≤ 2 ^ 60 - 1 = omega (arith, c.is_short.ensures.short c.if-is_short.true) in
    omega (arith, mul-le-mul number radix)

pub overflow_add-number : goal.overflow_add-number
overflow_add-number c =
    let radix : c.args.radix ≤ 16 = omega (arith, c.requires.radix, pow_mono c.requires.bits) in
    let number : c.args.self.number ≤ 2 ^ 60 - 1 = omega (arith, c.is_short.ensures.short c.if-is_short.true) in
    omega (arith, mul-le-mul number radix, c.requires.digit)
