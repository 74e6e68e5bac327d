-- The tree is a literal, which is of another kind.
use Rattle.litrs_token.proofs.Conversions.{err_of}
use Rattle.litrs_token.proofs.from_token.AnyFromToken.from_tree_ref.Goals as goal

pub returns-clause-invalid : goal.returns-clause-invalid
returns-clause-invalid g c = λ unwanted.
    let is = c.in_ok-literal.ensures.ok in
    rw is (err_of _ _ (c.from_literal_ref.ensures.invalid (λ wanted. unwanted (rw is wanted))))
