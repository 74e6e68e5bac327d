-- The rest is the end of the line.
use Rattle.std.proofs.Common.{◌∙◌}
use Rattle.litrs_prefix.proofs.Ends.{after_bytes}
use Rattle.litrs_lines.proofs.PrefixLines.{cut_before_rest}
use Rattle.litrs_lines.proofs.collector.end_of.Goals as goal

pub overflow_sub-start : goal.overflow_sub-start
overflow_sub-start c = (cut_before_rest c.args.line.now c.args.rest.now c.requires c.utf8.line c.utf8.rest).0

pub split_at-requires : goal.split_at-requires
split_at-requires c = (cut_before_rest c.args.line.now c.args.rest.now c.requires c.utf8.line c.utf8.rest).1

pub returns-clause-rest : goal.returns-clause-rest
returns-clause-rest c =
    c.split_at.ensures.back ∙ (cut_before_rest c.args.line.now c.args.rest.now c.requires c.utf8.line c.utf8.rest).2

pub returns-clause-end : goal.returns-clause-end
returns-clause-end c = after_bytes c.args.line.now c.split_at.result.1.now _ c.split_at.ensures.back
