-- A raw mark begins with `r`.
use Rattle.std.proofs.Common.{ap, ◌∙◌}
use Rattle.std.specs.Str.{chars}
use Rattle.std.proofs.lemmas.Bool.{ne_eqb}
use Rattle.litrs_lexer.specs.Identifier.{begins_raw_name}
use Rattle.litrs_lexer.proofs.Cuts.{no_raw_name}
use Rattle.litrs_lexer.proofs.name.raw_name.Goals as goal

pub returns-else-c-eq114-clause-none : goal.returns-else-c-eq114-clause-none
returns-else-c-eq114-clause-none c = ap begins_raw_name c.requires.is ∙ no_raw_name c.args.c (chars c.args.after.now) (ne_eqb c.args.c 114 c.if-c-eq114.false)
