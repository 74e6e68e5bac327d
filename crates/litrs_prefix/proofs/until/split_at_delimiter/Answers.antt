-- The text before the delimiter is a front of the text.
use Rattle.litrs_prefix.proofs.Words.{ap, ◌∙◌, chars, drop_trailing_whitespace}
use Rattle.litrs_prefix.proofs.Delimiters.{delimiter_at, trimmed}
use Rattle.litrs_prefix.proofs.until.split_at_delimiter.Goals as goal

pub overflow_sub-text : goal.overflow_sub-text
overflow_sub-text c = (delimiter_at _ _ _ _ c.utf8.text c.from_first-rest.utf8 c.after_literal.ensures c.from_first-rest.ensures).0.within

pub split_at-requires : goal.split_at-requires
split_at-requires c = (delimiter_at _ _ _ _ c.utf8.text c.from_first-rest.utf8 c.after_literal.ensures c.from_first-rest.ensures).0.boundary

pub returns-clause-front : goal.returns-clause-front
returns-clause-front c =
    let at = delimiter_at _ _ _ _ c.utf8.text c.from_first-rest.utf8 c.after_literal.ensures c.from_first-rest.ensures in
    trimmed c.split_at.result.0.now c.trim_end.result.now c.trim_end.utf8 c.trim_end.ensures.trim
    ∙ ap drop_trailing_whitespace (ap chars c.split_at.ensures.front ∙ at.0.before)

pub returns-clause-end : goal.returns-clause-end
returns-clause-end c = (delimiter_at _ _ _ _ c.utf8.text c.from_first-rest.utf8 c.after_literal.ensures c.from_first-rest.ensures).1
