-- A text that does not begin with a digit has one end.
use Rattle.litrs_prefix.proofs.Words.{sym, ◌∙◌, chars}
use Rattle.litrs_prefix.proofs.NumberEnds.{only_unless_digit}
use Rattle.litrs_prefix.proofs.PlainLiterals.{literal_len}
use Rattle.litrs_prefix.proofs.extent.opened_extent.Goals as goal

pub overflow_sub-result : goal.overflow_sub-result
overflow_sub-result c = let is = c.in-Some.ensures in (literal_len c.args.text.now c.in-Some.rest.now c.utf8.text is.utf8 (is.literal (c.ends_name.ensures c.if-ends_name.true))).0

pub returns-in-Some-clause-literal : goal.returns-in-Some-clause-literal
returns-in-Some-clause-literal c = let is = c.in-Some.ensures in (literal_len c.args.text.now c.in-Some.rest.now c.utf8.text is.utf8 (is.literal (c.ends_name.ensures c.if-ends_name.true))).1

pub judged_extent-requires-clause-only : goal.judged_extent-requires-clause-only
judged_extent-requires-clause-only c = only_unless_digit (chars c.args.text.now) (sym c.begins_with_digit.ensures ∙ c.if-begins_with_digit.false)
