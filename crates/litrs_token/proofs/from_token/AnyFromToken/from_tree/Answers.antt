-- The tree is not a literal, or is one, perhaps of another kind.
use Rattle.litrs_token.proofs.Conversions.{err_of, no_literal_wanted}
use Rattle.litrs_token.proofs.from_token.AnyFromToken.from_tree.Goals as goal

pub returns-in_err-literal-clause-memory : goal.returns-in_err-literal-clause-memory
returns-in_err-literal-clause-memory g c = λ wanted.
    absurd (no_literal_wanted _ _ c.kind.ensures.one c.in_err-literal.ensures.none wanted)

pub returns-in_err-literal-clause-lack : goal.returns-in_err-literal-clause-lack
returns-in_err-literal-clause-lack g c = λ wanted failed.
    absurd (no_literal_wanted _ _ c.kind.ensures.one c.in_err-literal.ensures.none wanted)

pub returns-clause-invalid : goal.returns-clause-invalid
returns-clause-invalid g c = λ unwanted.
    let is = c.in_ok-literal.ensures.ok in
    rw is (err_of _ _ (c.from_literal.ensures.invalid (λ wanted. unwanted (rw is wanted))))
