use Rattle.litrs_grammar.proofs.Laws.Quoted.{quoted_bodies_join}
use Rattle.litrs_grammar.proofs.quoted.quoted_bodies_join.Goals as goal

pub returns : goal.returns
returns c = quoted_bodies_join
