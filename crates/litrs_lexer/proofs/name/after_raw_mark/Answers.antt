-- The text after two characters is an end of the text.
use Rattle.std.proofs.Common.{◌<◌, length, arith}
use Rattle.litrs_prefix.proofs.Ends.{all, after_first, shorter}
use Rattle.litrs_lexer.proofs.name.after_raw_mark.Goals as goal

pub returns-then-starts_with_name-clause-end : goal.returns-then-starts_with_name-clause-end
returns-then-starts_with_name-clause-end c =
    let text = c.args.text.now in
    let after = c.in-Some.after.now in
    after_first text after c.in-Some-split_first_char.name.now c.in-Some-split_first_char.d
    (after_first text text after c.in-Some.c (all text) c.in-Some.ensures.bytes) c.in-Some-split_first_char.ensures.bytes

pub returns-then-starts_with_name-clause-shorter : goal.returns-then-starts_with_name-clause-shorter
returns-then-starts_with_name-clause-shorter c =
    let after = c.in-Some.after.now in
    let a : length after < length c.args.text.now = shorter c.args.text.now c.in-Some.c after c.in-Some.ensures.bytes in
    let b : length c.in-Some-split_first_char.name.now < length after = shorter after c.in-Some-split_first_char.d c.in-Some-split_first_char.name.now c.in-Some-split_first_char.ensures.bytes in
    omega arith
