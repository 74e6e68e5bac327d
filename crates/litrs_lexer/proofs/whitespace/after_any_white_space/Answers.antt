-- Each character that is passed is white space.
use Rattle.std.proofs.Common.{◌≡◌, true, ◌∷◌, sym, ap, ◌∙◌}
use Rattle.std.specs.Str.{chars}
use Rattle.litrs_base.proofs.ListTests.{if_true}
use Rattle.litrs_prefix.proofs.Ends.{shorter, after_first}
use Rattle.litrs_lexer.specs.Whitespace.{is_white_space, after_white_space}
use Rattle.litrs_lexer.proofs.whitespace.after_any_white_space.Goals as goal

pub loop-c-smaller : goal.loop-c-smaller
loop-c-smaller c = shorter c.loop-c.rest.now c.in-Some.c c.in-Some.after.now c.in-Some.ensures.bytes

pub loop-c-preserved : goal.loop-c-preserved
loop-c-preserved c =
    let passes : is_white_space c.in-Some.c ≡ true = sym c.is_white_space.ensures ∙ c.if-is_white_space.true in
    let after = c.in-Some.after.now in
    let inv = c.loop-c.invariant in (
      c.in-Some.ensures.rest,
      sym (ap after_white_space c.in-Some.ensures.parts ∙ if_true (is_white_space c.in-Some.c) (after_white_space (chars after)) (c.in-Some.c ∷ chars after) passes) ∙ inv.1,
      after_first c.args.text.now c.loop-c.rest.now after c.in-Some.c inv.2 c.in-Some.ensures.bytes,
    )
