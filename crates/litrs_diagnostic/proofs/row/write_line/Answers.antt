-- The number, and the line after it.
use Rattle.std.proofs.Common.{rules, ◌-◌, ℕ, ap, ◌∙◌}
use Rattle.std.proofs.Output.{has_written_append, has_written_of_eq}
use Rattle.litrs_diagnostic.specs.Rows.{row_of}
use Rattle.litrs_diagnostic.proofs.Written.{line_bytes}
use Rattle.litrs_diagnostic.proofs.row.write_line.Goals as goal

pub returns : goal.returns
returns g c = λ plain ok.
    let frame = c.args.frame in
    let one = c.write.ensures.writes plain (search rules) in
    let two = c.write-2.ensures.writes one.plain ok in
    let filling = c.saturating_sub.ensures ∙ ap (λ (n : ℕ). frame.margin - n)
    c.digit_count.ensures in
    has_written_of_eq _ _ _ _ _ (line_bytes frame.is_colored frame.margin
    c.saturating_sub.result c.opening-blue.result.now c.closing-plain.result.now
    c.dots-start.result.now c.dots-end.result.now (row_of c.args.row) filling
    c.opening-blue.ensures c.closing-plain.ensures c.dots-start.ensures c.dots-end.ensures)
    (has_written_append _ _ _ _ _ _ one two)
