-- The tokens of a text, one after the other.
use Rattle.std.specs.Prelude.{◌≡◌, ◌<◌, ℕ, ◌+◌, List, [], ◌∷◌, ◌++◌, length, Option, Some, None}
use Rattle.std.specs.Str.{chars}
use Rattle.litrs_grammar.specs.Literal.{Derivation, IsLiteral}
use Rattle.litrs_lexer.specs.Token.{IsToken}
use Rattle.litrs_lexer.specs.declared.kind.TokenKind.{TokenKind}
use Rattle.litrs_lexer.specs.declared.kind.TokenKind.TheVariants.{Literal, MalformedLiteral}
use Rattle.litrs_lexer.specs.declared.token.Token.{Token}

-- The text of a `Literal` is a literal, and that of a `MalformedLiteral` is not.
abbrev pub IsLiteralBy : TokenKind → List ℕ → Type 0
IsLiteralBy Literal text = (d : Derivation) × IsLiteral text d
IsLiteralBy MalformedLiteral text = (d : Derivation) → IsLiteral text d → ⊥
IsLiteralBy kind text = Unit {0}

-- The token is at the front of the text, which is the end of the source, up to the rest. It has the
-- rule of its kind, is not empty, and starts where the text does.
pub record IsFirstToken (source text : List ℕ) (token : Token) (rest : List ℕ) : Type 0 where
  pub spells : token.text.now ++ rest ≡ text
  pub is : IsToken token.kind (chars text) (chars rest)
  pub some : 0 < length token.text.now
  pub start : token.start + length text ≡ length source
  pub literal : IsLiteralBy token.kind (chars token.text.now)

-- A step of the iterator, from the text that is left before it to the text that is left after it.
abbrev pub GivesToken : (source text : List ℕ) → Option Token → (rest : List ℕ) → Type 0
GivesToken source text None rest = (text ≡ []) × (rest ≡ [])
GivesToken source text (Some token) rest = IsFirstToken source text token rest

-- The tokens of the text, which is the end of the source, up to the rest.
abbrev pub AreTokens : (source text : List ℕ) → List Token → (rest : List ℕ) → Type 0
AreTokens source text [] rest = text ≡ rest
AreTokens source text (token ∷ tokens) rest =
    (next : List ℕ) × IsFirstToken source text token next × AreTokens source next tokens rest

-- The texts of the tokens, joined.
abbrev pub spelled : List Token → List ℕ
spelled [] = []
spelled (token ∷ tokens) = token.text.now ++ spelled tokens
