use Rattle.litrs_grammar.proofs.Laws.Quoted.{quoted_texts_are_unique}
use Rattle.litrs_grammar.proofs.quoted.quoted_texts_are_unique.Goals as goal

pub returns : goal.returns
returns c = quoted_texts_are_unique
