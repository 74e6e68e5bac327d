-- Trees of tokens.
use Rattle.std.specs.Prelude.{◌≡◌, List}
use Rattle.litrs_token.specs.declared.tree.Delimiter.{Delimiter}
use Rattle.litrs_token.specs.declared.tree.Group.{Group, out-Group}
use Rattle.litrs_token.specs.declared.tree.TokenTree.{TokenTree, out-TokenTree}
use Rattle.litrs_token.specs.declared.tree.TokenTree.TheOpen as tree
use Rattle.litrs_token.specs.LiteralToken.{LiteralToken}
use Rattle.litrs_token.specs.Place.{Place}

-- The parts of a group.
abbrev pub group_delimiter : Group → Delimiter
group_delimiter g = (out-Group g).delimiter

abbrev pub group_stream : Group → List TokenTree
group_stream g = (out-Group g).stream.items

abbrev pub group_span : Group → Place
group_span g = (out-Group g).span

-- A tree is a group, an identifier, punctuation or a literal.
abbrev pub Shape : Type 0
Shape = tree.TokenTree-F TokenTree Group

abbrev pub shape_of : TokenTree → Shape
shape_of t = out-TokenTree t

-- A literal as a tree.
abbrev pub a_literal : LiteralToken → Shape
a_literal l = tree.Literal l

-- The tree is not a literal.
abbrev pub IsNoLiteral : Shape → Type 0
IsNoLiteral t = (l : LiteralToken) → t ≡ a_literal l → ⊥

-- The span of a tree.
abbrev pub shape_span : Shape → Place
shape_span (tree.Group g) = group_span g
shape_span (tree.Ident i) = i.span
shape_span (tree.Punct p) = p.span
shape_span (tree.Literal l) = l.span

abbrev pub tree_span : TokenTree → Place
tree_span t = shape_span (shape_of t)

-- Two trees differ at most in their spans. The trees inside a group are the same, with their spans.
abbrev pub AreAlike : Shape → Shape → Type 0
AreAlike (tree.Group g) (tree.Group h) =
    (group_delimiter g ≡ group_delimiter h) × (group_stream g ≡ group_stream h)
AreAlike (tree.Ident i) (tree.Ident j) = i.text ≡ j.text
AreAlike (tree.Punct p) (tree.Punct q) = (p.character ≡ q.character) × (p.spacing ≡ q.spacing)
AreAlike (tree.Literal l) (tree.Literal m) = (l.text ≡ m.text) × (l.kind ≡ m.kind)
AreAlike _ _ = ⊥
