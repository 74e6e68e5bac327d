-- A literal begins at a malformed prefix, and the prefix is not a literal.
use Rattle.std.proofs.Common.{ap}
use Rattle.std.specs.Prelude.{not}
use Rattle.std.proofs.lemmas.Bool.{and_from}
use Rattle.litrs_grammar.specs.Bool.{is_bool}
use Rattle.litrs_prefix.specs.Opens.{first_name, opens}
use Rattle.litrs_lexer.proofs.laws.malformed_prefixes_are_tokens.Goals as goal

pub returns : goal.returns
returns c = λ t e m other. (
  m.front,
  m.rest,
  m.spells,
  m.len,
  (and_from (opens t) (not (is_bool (first_name t))) m.opens (ap not other), m.none, (m.front, m.spells, m.is_piece, m.refused.none)),
)
