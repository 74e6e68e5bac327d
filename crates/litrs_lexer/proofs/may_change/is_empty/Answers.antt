-- A text without characters has no bytes.
use Rattle.std.proofs.Common.{sym, ◌∙◌}
use Rattle.litrs_base.proofs.Chars.{chars_empty}
use Rattle.litrs_lexer.proofs.may_change.is_empty.Goals as goal

pub returns : goal.returns
returns c = c.is_empty.ensures ∙ sym (chars_empty c.args.text.now c.utf8.text)
