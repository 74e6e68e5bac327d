-- A text that starts with an ASCII character that is not white space is what follows the white space.
use Rattle.std.proofs.Common.{sym, ◌∙◌}
use Rattle.litrs_prefix.proofs.Ends.{all}
use Rattle.litrs_lexer.proofs.AsciiRuns.{white_none}
use Rattle.litrs_lexer.proofs.whitespace.after_white_space.Goals as goal

pub returns-else-may_start_with_white_space-clause-rest : goal.returns-else-may_start_with_white_space-clause-rest
returns-else-may_start_with_white_space-clause-rest c = white_none c.args.text.now (sym c.may_start_with_white_space.ensures ∙ c.if-may_start_with_white_space.false)

pub returns-else-may_start_with_white_space-clause-end : goal.returns-else-may_start_with_white_space-clause-end
returns-else-may_start_with_white_space-clause-end c = all c.args.text.now
