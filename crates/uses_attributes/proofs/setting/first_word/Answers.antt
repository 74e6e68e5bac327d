-- The tokens so far are skipped.
use Rattle.std.proofs.Common.{◌≡◌, ◌≢◌, refl, rules}
use Rattle.std.specs.Prelude.{IsTrue}
use Rattle.litrs_lexer.specs.Token.{is_trivia}
use Rattle.litrs_lexer.specs.declared.kind.TokenKind.TheVariants.{UnterminatedBlockComment}
use Rattle.uses_attributes.specs.Settings.{skipped, is_token, at_end}
use Rattle.uses_attributes.proofs.setting.first_word.Goals as goal
use Rattle.uses_attributes.proofs.setting.first_word.Goals.{then-is_trivia+else-ne, else-is_trivia}

pub loop-it-preserved : goal.loop-it-preserved
loop-it-preserved c =
    let token = c.in-Some.it in
    let trivia : IsTrue (is_trivia token.kind) = search rules in
    let closed : token.kind ≢ UnterminatedBlockComment = search rules in
    λ word is. c.loop-it.invariant word (skipped c.loop-it.left.source.now c.loop-it.left.rest.now c.next-token.new.self.rest.now token c.in-Some.ensures.steps.1 trivia closed is)

pub returns-in-Some-2 : goal.returns-in-Some-2
returns-in-Some-2 c =
    let token = c.in-Some-2.field-0 in
    let kept : IsTrue (is_trivia token.kind) → token.kind ≡ UnterminatedBlockComment = elim c.if-is_trivia.branch [
      | then-is_trivia+else-ne w ↦ λ trivia. search rules
      | else-is_trivia w ↦ λ trivia. search rules
    ] in
    c.loop-it.invariant _ (is_token c.loop-it.left.source.now c.loop-it.left.rest.now token c.in-Some-2.ensures.steps.1 kept refl (search rules))

pub returns-in-None : goal.returns-in-None
returns-in-None c =
    let none = c.in-None.ensures.steps.1.0 in
    c.loop-it.invariant _ (at_end c.loop-it.left.rest.now none none none)
