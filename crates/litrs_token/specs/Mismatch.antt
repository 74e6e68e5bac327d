-- Mismatches: a token is not the expected one.
use Rattle.litrs_token.specs.declared.err.InvalidToken.{InvalidToken}
use Rattle.litrs_token.specs.declared.kind.TokenKind.{TokenKind}
use Rattle.litrs_token.specs.declared.kind.TokenKind.TheVariants as token
use Rattle.litrs_token.specs.declared.tree.TokenTree.{TokenTree}
use Rattle.litrs_token.specs.declared.tree.TokenTree.TheOpen as tree
use Rattle.litrs_token.specs.Errors.{mismatch}
use Rattle.litrs_token.specs.LiteralToken.{LiteralToken}
use Rattle.litrs_token.specs.Tree.{Shape, shape_of, tree_span}

-- The kind of a tree: a literal has its own kind, and every other tree that of its shape.
abbrev pub actual_kind : Shape → TokenKind
actual_kind (tree.Group g) = token.Group
actual_kind (tree.Ident i) = token.Ident
actual_kind (tree.Punct p) = token.Punct
actual_kind (tree.Literal l) = l.kind

-- The error of a literal or a tree if `wanted` was expected.
abbrev pub literal_mismatch : (wanted : TokenKind) → LiteralToken → InvalidToken
literal_mismatch wanted l = mismatch wanted l.kind l.span

abbrev pub tree_mismatch : (wanted : TokenKind) → TokenTree → InvalidToken
tree_mismatch wanted t = mismatch wanted (actual_kind (shape_of t)) (tree_span t)
