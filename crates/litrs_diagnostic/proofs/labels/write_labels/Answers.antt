-- Each turn writes one row, if it is between the bounds.
use Rattle.std.proofs.Common.{List, refl, ap, ◌∙◌, take, map}
use Rattle.std.proofs.Output.{has_written_append, has_written_of_eq}
use Rattle.std.specs.Str.{encode_utf8_all}
use Rattle.litrs_diagnostic.specs.Label.{label_row, rows_between}
use Rattle.litrs_diagnostic.specs.Row.{Row, below_rows, row_if, rows_text}
use Rattle.litrs_diagnostic.specs.Rows.{label_of, row_of}
use Rattle.litrs_diagnostic.specs.declared.label.Label.{Label}
use Rattle.litrs_diagnostic.proofs.RowLines.{has_written_nil, more_below, more_bytes, more_rows}
use Rattle.litrs_diagnostic.proofs.labels.write_labels.Goals as goal

pub loop-label-init : goal.loop-label-init
unfolding below_rows rows_text
loop-label-init g c = (refl, λ plain. has_written_nil _ _ plain)

pub loop-label-preserved : goal.loop-label-preserved
loop-label-preserved g c =
    let d = c.args.diagnostic.now in
    let frame = c.args.frame in
    let so_far = c.loop-label.invariant in
    let rows = rows_between d.first_line d.width c.args.from c.args.to
    (map label_of (take c.loop-label.label-index d.labels.now)) in
    let row = row_if c.is_between-is_shown.result (row_of c.label_row-row.result) in
    let is_row = c.label_row-row.ensures ∙ ap (λ (l : Label). label_row d.first_line d.width
    (label_of l)) c.label-item.is in
    let more = more_rows d.first_line d.width c.args.from c.args.to d.labels.now
    c.loop-label.label-index c.label-item.result (row_of c.label_row-row.result)
    c.is_between-is_shown.result c.loop-label-test.true is_row c.is_between-is_shown.ensures in (
      more_below c.args.above c.loop-label.below c.in_ok-next.next rows row so_far.0
          c.in_ok-next.ensures.below ∙ ap (below_rows c.args.above) more,
      λ plain. let written = so_far.1 plain in
          has_written_of_eq _ _ _ _ _ (more_bytes frame.is_colored frame.margin c.args.above
          c.loop-label.below rows row so_far.0
          ∙ ap (λ (l : List Row). encode_utf8_all (rows_text frame.is_colored frame.margin
          c.args.above l)) more)
          (has_written_append _ _ _ _ _ _ written (c.in_ok-next.ensures.writes written.plain)),
    )
