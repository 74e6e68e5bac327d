-- The line is cut where the text is.
use Rattle.litrs_diagnostic.proofs.Cuts.{cut_at_end, start_line_is}
use Rattle.litrs_diagnostic.proofs.lines.start_line.Goals as goal

pub cut_first_line-requires : goal.cut_first_line-requires
cut_first_line-requires c =
    let cut = cut_at_end c.args.source.now c.args.start c.args.end c.utf8.source c.requires.start
    c.requires.end c.requires.in_order in
    rw c.split_at.ensures.back cut.boundary

pub returns : goal.returns
returns c =
    start_line_is c.args.source.now c.split_at.result.0.now c.split_at.result.1.now _ _ _
    c.args.start c.args.end
    c.utf8.source c.requires.start c.requires.end c.requires.in_order
    c.split_at.ensures.front c.split_at.ensures.back c.last_line.ensures.line
    c.cut_first_line.ensures.marked c.cut_first_line.ensures.after
