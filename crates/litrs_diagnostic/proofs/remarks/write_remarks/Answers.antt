-- Each turn writes one remark.
use Rattle.std.proofs.Common.{rules}
use Rattle.std.proofs.Output.{has_written_append, has_written_of_eq}
use Rattle.litrs_diagnostic.proofs.RemarkLines.{more_remarks}
use Rattle.litrs_diagnostic.proofs.remarks.write_remarks.Goals as goal

pub loop-remark-preserved : goal.loop-remark-preserved
loop-remark-preserved g c = λ plain.
    let so_far = c.loop-remark.invariant plain in
    has_written_of_eq _ _ _ _ _ (more_remarks c.args.frame.is_colored c.args.frame.margin
    c.args.remarks.now c.loop-remark.remark-index _ c.opening-blue.result.now
    c.closing-plain.result.now c.word-level.result.now c.loop-remark-test.true
    c.opening-blue.ensures c.closing-plain.ensures c.word-level.ensures)
    (has_written_append _ _ _ _ _ _ so_far (c.write.ensures.writes so_far.plain (search rules)))
