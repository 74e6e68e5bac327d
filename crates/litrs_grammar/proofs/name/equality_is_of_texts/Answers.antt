use Rattle.std.specs.Cmp.Lexicographic.{bytes_decides}
use Rattle.litrs_grammar.proofs.name.equality_is_of_texts.Goals as goal

pub returns : goal.returns
returns c = bytes_decides
