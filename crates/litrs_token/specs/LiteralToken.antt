-- Literals as tokens. The Rust Reference, Tokens, Literals.
use Rattle.std.specs.Prelude.{◌≡◌, ◌≢◌, ℕ, List}
use Rattle.litrs_grammar.specs.Literal.{LiteralKind, bool_literal, integer_literal, float_literal, char_literal, byte_literal, string_literal, byte_string_literal, c_string_literal, Derivation, literal_kind, IsLiteral}
use Rattle.litrs_token.specs.declared.kind.TokenKind.{TokenKind}
use Rattle.litrs_token.specs.declared.kind.TokenKind.TheVariants as token
use Rattle.litrs_token.specs.Place.{Place}

-- A literal as a token: the bytes of its text, its kind, and its span.
pub record LiteralToken : Type 0 where
  pub text : List ℕ
  pub kind : TokenKind
  pub span : Place

-- The kind of the token of a literal.
abbrev pub token_kind : LiteralKind → TokenKind
token_kind bool_literal = token.BoolLit
token_kind integer_literal = token.IntegerLit
token_kind float_literal = token.FloatLit
token_kind char_literal = token.CharLit
token_kind byte_literal = token.ByteLit
token_kind string_literal = token.StringLit
token_kind byte_string_literal = token.ByteStringLit
token_kind c_string_literal = token.CStringLit

-- `t` is a literal of the kind `kind`, and not a bool.
pub record IsLiteralToken (t : List ℕ) (kind : TokenKind) : Type 0 where
  pub derivation : Derivation
  pub literal : IsLiteral t derivation
  pub no_bool : literal_kind derivation ≢ bool_literal
  pub is_kind : token_kind (literal_kind derivation) ≡ kind

-- The text is a bool or not a literal.
abbrev pub IsNoLiteralToken : List ℕ → Type 0
IsNoLiteralToken t = (kind : TokenKind) → ¬ IsLiteralToken t kind

-- The text is a literal.
abbrev pub SomeLiteral : List ℕ → Type 0
SomeLiteral t = (d : Derivation) × IsLiteral t d
