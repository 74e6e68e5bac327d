-- The LF after the last line is the last byte of what is held.
use Rattle.std.proofs.Common.{ℕ, List, ◌++◌, ◌∷◌, [], ap, ◌∙◌}
use Rattle.litrs_lines.proofs.StepLemmas.{cut_of_held}
use Rattle.litrs_lines.proofs.collector.lines_of_held.Goals as goal

pub split_at-requires : goal.split_at-requires
split_at-requires c = (cut_of_held c.args.held.now c.is_empty.result c.requires c.is_empty.ensures c.if-is_empty.false).0

pub returns-clause-lines : goal.returns-clause-lines
returns-clause-lines c = λ _. ap (λ (x : List ℕ). x ++ 10 ∷ []) c.split_at.ensures.front ∙ (cut_of_held c.args.held.now c.is_empty.result c.requires c.is_empty.ensures c.if-is_empty.false).1
