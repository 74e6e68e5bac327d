use Rattle.litrs_grammar.proofs.Laws.Quoted.{quoted_refusals_are_unique}
use Rattle.litrs_grammar.proofs.quoted.quoted_refusals_are_unique.Goals as goal

pub returns : goal.returns
returns c = quoted_refusals_are_unique
