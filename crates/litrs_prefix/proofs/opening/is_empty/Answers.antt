-- a text without characters has no bytes
use Rattle.litrs_prefix.proofs.Words.{sym, ◌∙◌, chars_empty}
use Rattle.litrs_prefix.proofs.opening.is_empty.Goals as goal

pub returns : goal.returns
returns c = c.is_empty.ensures ∙ sym (chars_empty c.args.text.now c.utf8.text)
