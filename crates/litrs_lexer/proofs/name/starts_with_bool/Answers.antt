-- A bool begins with `t` or `f`.
use Rattle.std.proofs.Common.{sym, ap, ◌∙◌}
use Rattle.litrs_grammar.specs.Bool.{is_bool}
use Rattle.litrs_lexer.proofs.Cuts.{no_bool}
use Rattle.litrs_lexer.proofs.name.starts_with_bool.Goals as goal

pub returns-then-begins_bool : goal.returns-then-begins_bool
returns-then-begins_bool c = c.is_bool.ensures ∙ ap is_bool c.name_before.ensures

pub returns-else-begins_bool : goal.returns-else-begins_bool
returns-else-begins_bool c = sym (no_bool c.args.text.now c.args.c c.args.after.now c.requires.first (sym c.begins_bool.ensures ∙ c.if-begins_bool.false))
