use Rattle.litrs_grammar.proofs.Laws.Literal.{texts_are_decided}
use Rattle.litrs_grammar.proofs.literal.texts_are_decided.Goals as goal

pub returns : goal.returns
returns c = texts_are_decided
