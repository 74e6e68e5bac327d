-- The text after the first character of the rest is an end of the text.
use Rattle.litrs_prefix.proofs.Words.{refl, ap, arith, chars, IsEndOf, after_first, after_bytes, end_at, end_boundary}
use Rattle.litrs_prefix.proofs.Pieces.{no_bytes}
use Rattle.litrs_prefix.proofs.next_boundary.Goals as goal

after_is : (c : goal.In-Some) → IsEndOf c.args.text.now c.in-Some.after.now
after_is c =
    let end = after_bytes c.args.text.now c.range_from.result.now c.args.start c.range_from.ensures.value in
    after_first c.args.text.now c.range_from.result.now c.in-Some.after.now c.in-Some.field-0-0 end c.in-Some.ensures.bytes

pub returns-in-Some-clause-boundary : goal.returns-in-Some-clause-boundary
returns-in-Some-clause-boundary c = end_boundary c.args.text.now c.in-Some.after.now c.in-Some.ensures.rest (after_is c)

pub returns-in-None-clause-longer : goal.returns-in-None-clause-longer
returns-in-None-clause-longer c = λ less.
    omega (arith, c.range_from.ensures.len, no_bytes c.range_from.result.now c.range_from.utf8 c.in-None.ensures.empty)

pub returns-in-Some-clause-rest : goal.returns-in-Some-clause-rest
returns-in-Some-clause-rest c =
    let end = after_is c in
    rw (← c.range_from.ensures.value, c.in-Some.ensures.parts) (ap chars (end_at c.args.text.now end.0 c.in-Some.after.now c.in-Some.ensures.rest end.1).1)

pub returns-in-None-clause-rest : goal.returns-in-None-clause-rest
returns-in-None-clause-rest c = rw (← c.range_from.ensures.value, c.in-None.ensures.empty) refl
