-- The token at the front of a text. The Rust Reference, "Lexical structure", edition 2021. The rule
-- of each kind is independent: no kind takes precedence over another.
use Rattle.std.specs.Prelude.{ℕ, Bool, true, false, List}
use Rattle.litrs_lexer.specs.Comment.{IsLineComment, IsBlockComment, IsUnterminatedBlockComment}
use Rattle.litrs_lexer.specs.Identifier.{IsIdentifier, IsRawIdentifier, IsUnknownPrefix}
use Rattle.litrs_lexer.specs.Lifetime.{IsLifetime, IsRawLifetime, IsUnknownPrefixLifetime}
use Rattle.litrs_lexer.specs.Literal.{IsLiteralToken, IsMalformedLiteral}
use Rattle.litrs_lexer.specs.Punctuation.{IsPunctuation, IsUnknown}
use Rattle.litrs_lexer.specs.Whitespace.{IsWhitespace}
use Rattle.litrs_lexer.specs.declared.kind.TokenKind.{TokenKind}
use Rattle.litrs_lexer.specs.declared.kind.TokenKind.TheVariants.{Whitespace, LineComment, BlockComment, UnterminatedBlockComment, Ident, RawIdent, UnknownPrefix, Lifetime, RawLifetime, UnknownPrefixLifetime, Literal, MalformedLiteral, Punctuation, Unknown}

-- A token of this kind is at the front of the text, up to the rest.
abbrev pub IsToken : TokenKind → (t rest : List ℕ) → Type 0
IsToken Whitespace t rest = IsWhitespace t rest
IsToken LineComment t rest = IsLineComment t rest
IsToken BlockComment t rest = IsBlockComment t rest
IsToken UnterminatedBlockComment t rest = IsUnterminatedBlockComment t rest
IsToken Ident t rest = IsIdentifier t rest
IsToken RawIdent t rest = IsRawIdentifier t rest
IsToken UnknownPrefix t rest = IsUnknownPrefix t rest
IsToken Lifetime t rest = IsLifetime t rest
IsToken RawLifetime t rest = IsRawLifetime t rest
IsToken UnknownPrefixLifetime t rest = IsUnknownPrefixLifetime t rest
IsToken Literal t rest = IsLiteralToken t rest
IsToken MalformedLiteral t rest = IsMalformedLiteral t rest
IsToken Punctuation t rest = IsPunctuation t rest
IsToken Unknown t rest = IsUnknown t rest

-- Tokens of the kind are white space or comments.
abbrev pub is_trivia : TokenKind → Bool
is_trivia Whitespace = true
is_trivia LineComment = true
is_trivia BlockComment = true
is_trivia UnterminatedBlockComment = true
is_trivia kind = false

-- Tokens of the kind are literals, valid or malformed.
abbrev pub begins_literal : TokenKind → Bool
begins_literal Literal = true
begins_literal MalformedLiteral = true
begins_literal kind = false
