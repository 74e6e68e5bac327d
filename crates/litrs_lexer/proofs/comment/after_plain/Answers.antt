-- The text is cut after the run.
use Rattle.std.proofs.Common.{true, ap, ◌∙◌}
use Rattle.std.specs.List.{prefix_len}
use Rattle.std.specs.Str.{chars}
use Rattle.litrs_lexer.specs.Cut.{is_of_comment}
use Rattle.litrs_lexer.proofs.Runs.{run_cut, end_after, comment_alike}
use Rattle.litrs_lexer.proofs.comment.after_plain.Goals as goal

pub split_at-requires : goal.split_at-requires
split_at-requires c =
    (run_cut is_of_comment true c.args.text.now c.plain_len.result comment_alike c.utf8.text (c.plain_len.ensures ∙ ap (prefix_len is_of_comment) c.as_bytes.ensures.value)).0

pub returns-clause-rest : goal.returns-clause-rest
returns-clause-rest c =
    ap chars c.split_at.ensures.back
    ∙ (run_cut is_of_comment true c.args.text.now c.plain_len.result comment_alike c.utf8.text (c.plain_len.ensures ∙ ap (prefix_len is_of_comment) c.as_bytes.ensures.value)).1

pub returns-clause-end : goal.returns-clause-end
returns-clause-end c = end_after c.args.text.now c.split_at.result.1.now c.plain_len.result c.split_at.ensures.back
