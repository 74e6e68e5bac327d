-- The answers of the calls for a text that is checked once. A text is a list of bytes.
use Rattle.std.specs.Prelude.{◌≡◌, ◌⊎◌, ℕ, ◌+◌, List, length, drop}
use Rattle.std.specs.Str.{chars, IsCharBoundary}
use Rattle.litrs_lexer.specs.Comment.{doc_style}
use Rattle.litrs_lexer.specs.Token.{is_trivia}
use Rattle.litrs_lexer.specs.Tokens.{IsFirstToken}
use Rattle.litrs_lexer.specs.declared.token.Token.{Token}
use Rattle.litrs_c.specs.declared.tokens.TokenFields.{TokenFields}
use Rattle.litrs_c.specs.Codes.{token_code, doc_code}

-- The fields are those of the token.
pub record IsTokenFields (token : Token) (fields : TokenFields) : Type 0 where
  pub kind : fields.kind ≡ token_code token.kind
  pub doc_style : fields.doc_style ≡ doc_code (doc_style token.kind (chars token.text.now))
  pub trivia : fields.is_trivia ≡ is_trivia token.kind
  pub start : fields.place.start ≡ token.start
  pub end : fields.place.end ≡ token.start + length token.text.now

-- A character starts at the place `at` of the text, and the token there has these fields.
pub record IsTokenAt (text : List ℕ) (at : ℕ) (fields : TokenFields) : Type 0 where
  pub token : Token
  pub place : IsCharBoundary text at
  pub is : IsFirstToken text (drop at text) token (drop fields.place.end text)
  pub are : IsTokenFields token fields
  pub start : fields.place.start ≡ at

-- The text ends at the place `at`, or no character starts there.
abbrev pub HasNoTokenAt : (text : List ℕ) (at : ℕ) → Type 0
HasNoTokenAt text at = (at ≡ length text) ⊎ (IsCharBoundary text at → ⊥)
