-- Each turn takes one more label.
use Rattle.std.proofs.Common.{ap, ◌∙◌}
use Rattle.litrs_diagnostic.specs.Label.{label_number}
use Rattle.litrs_diagnostic.specs.Rows.{label_of}
use Rattle.litrs_diagnostic.specs.declared.label.Label.{Label}
use Rattle.litrs_diagnostic.proofs.RowLines.{more_greatest}
use Rattle.litrs_diagnostic.proofs.labels.greatest_number.Goals as goal

pub loop-label-preserved : goal.loop-label-preserved
loop-label-preserved c =
    let number = c.label_number.ensures ∙ ap (λ (l : Label). label_number c.args.first_line
    (label_of l)) c.label-item.is in
    more_greatest c.args.first_line c.args.last c.args.labels.now c.loop-label.label-index
    c.label-item.result c.loop-label.greatest c.label_number.result c.max-greatest.result
    c.loop-label-test.true c.loop-label.invariant number c.max-greatest.ensures
