-- The line is a front of the text, and is cut as the text is.
use Rattle.std.proofs.Common.{◌≤◌, length, refl, sym, arith}
use Rattle.litrs_diagnostic.proofs.ByteLines.{cut_within, cut_past}
use Rattle.litrs_diagnostic.proofs.lines.cut_first_line.Goals as goal

pub returns-then-len-line-clause-marked : goal.returns-then-len-line-clause-marked
returns-then-len-line-clause-marked c =
    let front = c.first_line-line.ensures.front in
    let fits : c.args.len ≤ length c.first_line-line.result.now = omega arith in
    let cut = cut_within c.args.text.now c.first_line-line.result.now front.0 c.args.len
    c.utf8.text c.first_line-line.utf8 front.1 c.requires fits in
    rw (c.split_at.ensures.front, cut.0) (rw c.first_line-line.ensures.line refl)

pub returns-then-len-line-clause-after : goal.returns-then-len-line-clause-after
returns-then-len-line-clause-after c =
    let front = c.first_line-line.ensures.front in
    let fits : c.args.len ≤ length c.first_line-line.result.now = omega arith in
    let cut = cut_within c.args.text.now c.first_line-line.result.now front.0 c.args.len
    c.utf8.text c.first_line-line.utf8 front.1 c.requires fits in
    rw (c.split_at.ensures.back, cut.1) (rw c.first_line-line.ensures.line refl)

pub returns-else-len-line-clause-marked : goal.returns-else-len-line-clause-marked
returns-else-len-line-clause-marked c =
    let front = c.first_line-line.ensures.front in
    let past : length c.first_line-line.result.now ≤ c.args.len = omega arith in
    let cut = cut_past c.args.text.now c.first_line-line.result.now front.0 c.args.len
    c.first_line-line.utf8 front.1 past in
    rw (sym c.first_line-line.ensures.line) cut.0

pub returns-else-len-line-clause-after : goal.returns-else-len-line-clause-after
returns-else-len-line-clause-after c =
    let front = c.first_line-line.ensures.front in
    let past : length c.first_line-line.result.now ≤ c.args.len = omega arith in
    let cut = cut_past c.args.text.now c.first_line-line.result.now front.0 c.args.len
    c.first_line-line.utf8 front.1 past in
    rw (sym c.first_line-line.ensures.line) cut.1
