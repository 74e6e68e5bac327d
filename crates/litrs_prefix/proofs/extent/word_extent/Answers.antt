-- The characters of a name at the front are an integer, or no integer without a suffix is there.
use Rattle.litrs_prefix.proofs.Words.{Some, None, ap, ◌∙◌, chars, prefix_len, is_word}
use Rattle.litrs_prefix.proofs.Judged.{integer_before, judged_prefix}
use Rattle.litrs_prefix.proofs.NumberEnds.{only_without_integer}
use Rattle.litrs_prefix.proofs.Runs.{name_cut}
use Rattle.litrs_prefix.proofs.extent.word_extent.Goals as goal

pub split_at-requires : goal.split_at-requires
split_at-requires c = (name_cut c.args.text.now c.run_end-len.result c.utf8.text (c.run_end-len.ensures.run ∙ ap (prefix_len is_word) c.as_bytes.ensures.value)).0

pub returns-in-Some-true-clause-literal : goal.returns-in-Some-true-clause-literal
returns-in-Some-true-clause-literal c =
    let front = c.split_at.result.0.now in
    let rest = c.split_at.result.1.now in
    let at = (name_cut c.args.text.now c.run_end-len.result c.utf8.text (c.run_end-len.ensures.run ∙ ap (prefix_len is_word) c.as_bytes.ensures.value)).0 in
    judged_prefix c.args.text.now front rest c.run_end-len.result c.in-Some-true.field-0 c.utf8.text at c.split_at.ensures.front c.split_at.ensures.back
    (integer_before (chars front) (chars rest) c.in-Some-true.field-0 c.in-Some-true.ensures) (cc)

pub judged_extent-requires-clause-only : goal.judged_extent-requires-clause-only
judged_extent-requires-clause-only c =
    only_without_integer c.args.text.now c.split_at.result.0.now c.split_at.result.1.now c.run_end-len.result (Some c.in-Some-false.field-0) c.utf8.text (c.run_end-len.ensures.run ∙ ap (prefix_len is_word) c.as_bytes.ensures.value)
    c.split_at.ensures.front c.split_at.ensures.back c.in-Some-false.ensures (λ e. cc)

pub judged_extent-requires-in-None-clause-only : goal.judged_extent-requires-in-None-clause-only
judged_extent-requires-in-None-clause-only c =
    only_without_integer c.args.text.now c.split_at.result.0.now c.split_at.result.1.now c.run_end-len.result None c.utf8.text (c.run_end-len.ensures.run ∙ ap (prefix_len is_word) c.as_bytes.ensures.value)
    c.split_at.ensures.front c.split_at.ensures.back c.in-None.ensures (λ e. cc)
