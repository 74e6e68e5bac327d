-- Names and white space.
use Rattle.std.proofs.Common.{◌≡◌, ◌∷◌, true, sym, ap, ◌∙◌}
use Rattle.std.specs.Str.{chars}
use Rattle.litrs_base.specs.Text.{first_passes}
use Rattle.litrs_base.proofs.ListTests.{if_true}
use Rattle.litrs_lexer.specs.declared.kind.TokenKind.TheVariants.{Whitespace}
use Rattle.litrs_lexer.specs.Whitespace.{is_white_space, after_white_space}
use Rattle.litrs_lexer.proofs.Cuts.{cut_after, ascii_name}
use Rattle.litrs_lexer.proofs.cut.cut_from.Goals as goal

pub returns-then-is_white_space-clause-cut : goal.returns-then-is_white_space-clause-cut
returns-then-is_white_space-clause-cut c =
    let text = c.args.text.now in
    let after = c.args.after.now in
    let white : is_white_space c.args.c ≡ true = sym c.is_white_space.ensures ∙ c.if-is_white_space.true in
    cut_after Whitespace text after c.after_white_space.result.now c.args.c c.requires c.after_white_space.ensures.end (
      ap (first_passes is_white_space) c.requires.is ∙ white,
      c.after_white_space.ensures.rest ∙ sym (ap after_white_space c.requires.is ∙ if_true (is_white_space c.args.c) (after_white_space (chars after)) (c.args.c ∷ chars after) white),
    )

pub cut_name-kind-requires-clause-name : goal.cut_name-kind-requires-clause-name
cut_name-kind-requires-clause-name c = ascii_name c.args.c (sym c.begins_ascii_name.ensures ∙ c.if-begins_ascii_name.true)
