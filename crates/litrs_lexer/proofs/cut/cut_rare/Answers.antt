-- Characters that do not begin a token.
use Rattle.std.proofs.Common.{sym, ◌∙◌}
use Rattle.litrs_lexer.specs.declared.kind.TokenKind.TheVariants.{Unknown}
use Rattle.litrs_prefix.proofs.Ends.{all}
use Rattle.litrs_lexer.proofs.Cuts.{cut_after}
use Rattle.litrs_lexer.proofs.cut.cut_rare.Goals as goal

pub returns-else-begins_name-clause-cut : goal.returns-else-begins_name-clause-cut
returns-else-begins_name-clause-cut c =
    let after = c.args.after.now in
    cut_after Unknown c.args.text.now after after c.args.c c.requires.first (all after) (c.args.c, c.requires.first.is, c.requires.unknown (sym c.begins_name.ensures ∙ c.if-begins_name.false))
