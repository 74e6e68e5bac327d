-- The tokens that the conversions to literals expect.
use Rattle.std.specs.Prelude.{◌≡◌, ◌⊎◌, IsTrue}
use Rattle.litrs_grammar.specs.Bool.{is_bool}
use Rattle.litrs_token.specs.declared.kind.TokenKind.{TokenKind}
use Rattle.litrs_token.specs.declared.kind.TokenKind.TheVariants as token
use Rattle.litrs_token.specs.declared.tree.TokenTree.TheOpen as tree
use Rattle.litrs_token.specs.Tree.{Shape}

-- A literal of the kind `kind` is expected if `kind` is the expected kind, or any literal is.
abbrev pub IsWantedKind : (wanted kind : TokenKind) → Type 0
IsWantedKind wanted kind = (kind ≡ wanted) ⊎ (wanted ≡ token.Literal)

-- A tree is expected if it is a literal of an expected kind. If any literal is expected, it can
-- also be the identifier `true` or `false`.
abbrev pub IsWanted : (wanted : TokenKind) → Shape → Type 0
IsWanted wanted (tree.Group g) = ⊥
IsWanted wanted (tree.Ident i) = (wanted ≡ token.Literal) × IsTrue (is_bool i.text)
IsWanted wanted (tree.Punct p) = ⊥
IsWanted wanted (tree.Literal l) = IsWantedKind wanted l.kind
