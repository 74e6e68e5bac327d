-- The line on which the range begins, by its places on lines.
use Rattle.litrs_diagnostic.specs.Rows.{line_of}
use Rattle.litrs_diagnostic.proofs.Cuts.{start_line_at_is, place_on_line-order}
use Rattle.litrs_diagnostic.proofs.lines.start_line_at.Goals as goal

pub returns : goal.returns
returns c =
    start_line_at_is c.args.source.now c.args.start c.args.end c.place_on_line-from.result
    c.place_on_line-to.result (line_of c.start_line.result) c.place_on_line-from.ensures.value
    c.place_on_line-to.ensures.value c.start_line.ensures

pub start_line-requires-clause-in_order : goal.start_line-requires-clause-in_order
start_line-requires-clause-in_order c =
    rw (c.place_on_line-from.ensures.value, c.place_on_line-to.ensures.value)
    (place_on_line-order c.args.source.now c.args.start c.args.end c.requires.in_order)
