-- The token is at the front of what is left after the slashes.
use Rattle.std.proofs.Common.{List, ℕ, sym, subst}
use Rattle.litrs_prefix.specs.Ends.{IsEndOf}
use Rattle.litrs_prefix.proofs.Ends.{end_of_end}
use Rattle.litrs_explain.proofs.Tokens.{token_of}
use Rattle.litrs_explain.proofs.find.next_token.Goals as goal

pub returns-clause-rest : goal.returns-clause-rest
returns-clause-rest c =
    let source = c.args.left.now.source.now in
    let text = c.without_slashes-left.result.now in
    let rest = c.next.new.self.rest.now in
    let left = c.after_comment-left.result.now in
    let token = c.in_ok-token.token in
    let steps = c.in_ok-token.ensures.steps in
    let front = end_of_end source c.args.left.now.rest.now text c.requires c.without_slashes-left.ensures.end in
    let all = end_of_end source text rest front (token.text.now, steps.1.spells) in
    subst (λ (t : List ℕ). IsEndOf t left) (sym steps.0) (end_of_end source rest left all c.after_comment-left.ensures.end)

pub returns-clause-token : goal.returns-clause-token
returns-clause-token c =
    let source = c.args.left.now.source.now in
    let text = c.without_slashes-left.result.now in
    let front = end_of_end source c.args.left.now.rest.now text c.requires c.without_slashes-left.ensures.end in
    token_of source text c.in_ok-token.token c.next.new.self.rest.now front c.without_slashes-left.utf8 c.after_comment-left.ensures.utf8
    c.in_ok-token.ensures.steps.1
