-- Trees that are bools.
use Rattle.std.specs.Prelude.{◌≡◌, ℕ, Bool, false, List, [], IsTrue, IsFalse, Result, MatchResult}
use Rattle.litrs.specs.declared.bool.BoolLit.{BoolLit}
use Rattle.litrs.specs.BoolLiteral.{bool_value}
use Rattle.litrs_grammar.specs.Bool.{bool_text, is_bool}
use Rattle.litrs_token.specs.declared.err.InvalidToken.{InvalidToken}
use Rattle.litrs_token.specs.declared.kind.TokenKind.TheVariants as token
use Rattle.litrs_token.specs.declared.tree.TokenTree.{TokenTree}
use Rattle.litrs_token.specs.declared.tree.TokenTree.TheOpen as tree
use Rattle.litrs_token.specs.Mismatch.{tree_mismatch}
use Rattle.litrs_token.specs.Tree.{Shape, shape_of}

-- `true` iff the tree is the identifier `true` or `false`.
abbrev pub is_bool_ident : Shape → Bool
is_bool_ident (tree.Ident i) = is_bool i.text
is_bool_ident _ = false

-- The text of an identifier or a literal.
abbrev pub text_of : Shape → List ℕ
text_of (tree.Group g) = []
text_of (tree.Ident i) = i.text
text_of (tree.Punct p) = []
text_of (tree.Literal l) = l.text

-- The result of a conversion to a bool: the bool of the identifier, or the mismatch.
abbrev pub IsBoolAnswer : TokenTree → Result BoolLit InvalidToken → Type 0
IsBoolAnswer t result = MatchResult result
    (λ b. IsTrue (is_bool_ident (shape_of t))
    × (text_of (shape_of t) ≡ bool_text (bool_value b)))
    (λ e. IsFalse (is_bool_ident (shape_of t)) × (e ≡ tree_mismatch token.BoolLit t))
