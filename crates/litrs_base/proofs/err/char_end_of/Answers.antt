-- std's boundary in the bytes is that of the text.
use Rattle.std.proofs.Common.{◌≤◌, ◌<◌, length, arith}
use Rattle.litrs_base.proofs.CharEnds.{char_end_within, char_end_past}
use Rattle.litrs_base.proofs.err.char_end_of.Goals as goal

pub returns-then-end-text : goal.returns-then-end-text
returns-then-end-text c =
    let within : c.args.end ≤ length c.args.text.now = omega (arith, c.if-end-text.true) in
    char_end_within c.args.text.now c.args.end c.ceil_char_boundary.result c.utf8.text within
    c.ceil_char_boundary.ensures.bound c.ceil_char_boundary.ensures.boundary c.ceil_char_boundary.ensures.nearest

pub returns-else-end-text : goal.returns-else-end-text
returns-else-end-text c =
    let over : length c.args.text.now < c.args.end = omega (arith, c.if-end-text.false) in
    char_end_past c.args.text.now c.args.end c.utf8.text over
