-- A name that begins with another letter does not begin a literal, except a bool.
use Rattle.std.proofs.Common.{sym, ap, ◌∙◌}
use Rattle.std.specs.Str.{chars}
use Rattle.litrs_prefix.specs.Opens.{opens}
use Rattle.litrs_lexer.specs.Literal.{opens_quoted}
use Rattle.litrs_lexer.proofs.Cuts.{prefix_opens, no_prefix_opens}
use Rattle.litrs_lexer.proofs.name.opens_prefixed.Goals as goal

pub returns-then-begins_prefix : goal.returns-then-begins_prefix
returns-then-begins_prefix c =
    let first = c.requires.first.is in
    c.opens.ensures
    ∙ (ap opens first ∙ (sym (prefix_opens c.args.c (chars c.args.after.now) (sym c.begins_prefix.ensures ∙ c.if-begins_prefix.true)) ∙ sym (ap opens_quoted first)))

pub returns-else-begins_prefix : goal.returns-else-begins_prefix
returns-else-begins_prefix c =
    sym (ap opens_quoted c.requires.first.is ∙ no_prefix_opens c.args.c (chars c.args.after.now) c.requires.name (sym c.begins_prefix.ensures ∙ c.if-begins_prefix.false))
