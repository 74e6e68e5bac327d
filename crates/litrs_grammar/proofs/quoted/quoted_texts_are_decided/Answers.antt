use Rattle.litrs_grammar.proofs.Laws.Quoted.{quoted_texts_are_decided}
use Rattle.litrs_grammar.proofs.quoted.quoted_texts_are_decided.Goals as goal

pub returns : goal.returns
returns c = quoted_texts_are_decided
