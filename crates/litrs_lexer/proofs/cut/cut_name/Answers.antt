-- A byte opens a literal.
use Rattle.std.proofs.Common.{sym, ap, ◌∙◌}
use Rattle.std.specs.Str.{chars}
use Rattle.litrs_lexer.specs.Literal.{opens_quoted}
use Rattle.litrs_lexer.proofs.Cuts.{byte_opens}
use Rattle.litrs_lexer.proofs.cut.cut_name.Goals as goal

pub cut_literal-kind-requires : goal.cut_literal-kind-requires
cut_literal-kind-requires c =
    ap opens_quoted c.requires.first.is ∙ byte_opens c.args.c (chars c.args.after.now) (sym c.begins_byte.ensures ∙ c.if-begins_byte.true)
