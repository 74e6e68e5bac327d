-- The answers of conversions.
use Rattle.std.proofs.Common.{◌≡◌, Result, Ok, Err, ap, refl}
use Rattle.std.specs.Result.{IsErrAnd}
use Rattle.litrs_token.specs.declared.kind.TokenKind.{TokenKind}
use Rattle.litrs_token.specs.declared.kind.TokenKind.TheVariants as token
use Rattle.litrs_token.specs.declared.tree.TokenTree.TheOpen as tree
use Rattle.litrs_token.specs.Conversion.{IsWanted}
use Rattle.litrs_token.specs.Tree.{Shape, IsNoLiteral}

-- an error that is this one
pub err_of : {T E : Type 0} (r : Result T E) (e : E) → IsErrAnd r (λ x. x ≡ e) → r ≡ Err e
err_of (Ok x) e is = absurd is
err_of (Err x) e is = ap Err is

-- if one kind is wanted, a tree that is not a literal is not wanted
pub no_literal_wanted : (wanted : TokenKind) (t : Shape) → (wanted ≡ token.Literal → ⊥) →
    IsNoLiteral t → IsWanted wanted t → ⊥
no_literal_wanted wanted (tree.Group g) one none is = is
no_literal_wanted wanted (tree.Ident i) one none is = one is.0
no_literal_wanted wanted (tree.Punct p) one none is = is
no_literal_wanted wanted (tree.Literal l) one none is = none l refl
