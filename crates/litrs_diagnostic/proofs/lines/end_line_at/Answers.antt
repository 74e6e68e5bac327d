-- The line on which the range ends, by its places on lines.
use Rattle.litrs_diagnostic.specs.Rows.{line_of}
use Rattle.litrs_diagnostic.proofs.Cuts.{end_line_at_is, place_on_line-order}
use Rattle.litrs_diagnostic.proofs.lines.end_line_at.Goals as goal

pub returns : goal.returns
returns c =
    end_line_at_is c.args.source.now c.args.start c.args.end c.place_on_line-from.result
    c.place_on_line-to.result (line_of c.end_line.result) c.place_on_line-from.ensures.value
    c.place_on_line-to.ensures.value c.end_line.ensures

pub end_line-requires-clause-in_order : goal.end_line-requires-clause-in_order
end_line-requires-clause-in_order c =
    rw (c.place_on_line-from.ensures.value, c.place_on_line-to.ensures.value)
    (place_on_line-order c.args.source.now c.args.start c.args.end c.requires.in_order)
