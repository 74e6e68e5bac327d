-- A literal at the front opens there.
use Rattle.litrs_prefix.proofs.Words.{sym, ◌∙◌, true≢false, chars}
use Rattle.litrs_prefix.proofs.Opened.{opened}
use Rattle.litrs_prefix.proofs.extent.prefix_len.Goals as goal

pub returns-else-opens-clause-none : goal.returns-else-opens-clause-none
returns-else-opens-clause-none c = λ d r at.
    true≢false (sym (opened (chars c.args.text.now) d r at) ∙ (sym c.opens.ensures ∙ c.if-opens.false))
