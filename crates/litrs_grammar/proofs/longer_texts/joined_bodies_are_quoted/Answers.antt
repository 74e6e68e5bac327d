use Rattle.litrs_grammar.proofs.LiteralTexts.{joined_bodies_are_quoted}
use Rattle.litrs_grammar.proofs.longer_texts.joined_bodies_are_quoted.Goals as goal

pub returns : goal.returns
returns c = joined_bodies_are_quoted
