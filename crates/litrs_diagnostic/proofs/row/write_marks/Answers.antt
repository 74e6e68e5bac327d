-- The margin, and the marks after it.
use Rattle.std.proofs.Common.{rules, ap, ◌∙◌}
use Rattle.std.proofs.Output.{has_written_append, has_written_of_eq}
use Rattle.litrs_diagnostic.specs.Colors.{opening}
use Rattle.litrs_diagnostic.specs.Rows.{row_of}
use Rattle.litrs_diagnostic.proofs.Written.{marks_bytes}
use Rattle.litrs_diagnostic.proofs.row.write_marks.Goals as goal

pub returns : goal.returns
returns g c = λ plain ok.
    let frame = c.args.frame in
    let one = c.write.ensures.writes plain (search rules) in
    let two = c.write-2.ensures.writes one.plain ok in
    let color = c.opening-color.ensures ∙ ap (opening frame.is_colored) c.color.ensures in
    has_written_of_eq _ _ _ _ _ (marks_bytes frame.is_colored frame.margin
    c.opening-blue.result.now c.closing-plain.result.now c.opening-color.result.now
    c.dots-start.result.now c.label_gap-gap.result.now (row_of c.args.row)
    c.opening-blue.ensures c.closing-plain.ensures color c.dots-start.ensures
    c.label_gap-gap.ensures)
    (has_written_append _ _ _ _ _ _ one two)
