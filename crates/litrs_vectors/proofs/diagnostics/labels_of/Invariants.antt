-- All labels are on the text.
use Rattle.std.proofs.Common.{◌≡◌}
use Rattle.std.specs.List.{All}
use Rattle.litrs_vectors.proofs.diagnostics.labels_of.Given as goal

abbrev pub invariant-loop-mark : goal.invariant-loop-mark
invariant-loop-mark l = All (λ label. label.source.now ≡ l.text) l.labels.items
