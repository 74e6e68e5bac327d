-- The messages of errors.
use Rattle.std.specs.Prelude.{ℕ, List, ◌++◌, codes}
use Rattle.litrs_token.specs.declared.ident.IdentError.{IdentError}
use Rattle.litrs_token.specs.declared.ident.IdentError.TheVariants as ident
use Rattle.litrs_token.specs.declared.literal.LiteralError.{LiteralError}
use Rattle.litrs_token.specs.declared.literal.LiteralError.TheVariants as literal
use Rattle.litrs_token.specs.declared.kind.TokenKind.{TokenKind}
use Rattle.litrs_token.specs.declared.err.InvalidToken.{InvalidToken}
use Rattle.litrs_token.specs.declared.err.TokenError.{TokenError}
use Rattle.litrs_token.specs.declared.err.TokenError.TheVariants as error
use Rattle.litrs_token.specs.Place.{Place}
use Rattle.litrs_token.specs.Description.{description}

abbrev pub ident_error_text : IdentError → List ℕ
ident_error_text ident.NotAnIdent = codes "not an identifier"
ident_error_text ident.Memory = codes "out of memory"

abbrev pub literal_error_text : LiteralError → List ℕ
literal_error_text literal.NotALiteral = codes "not a literal"
literal_error_text literal.Memory = codes "out of memory"

-- The error of a token of the kind `actual` at a place, if `expected` was expected.
abbrev pub mismatch : (expected actual : TokenKind) → Place → InvalidToken
mismatch expected actual span = record { expected = expected; actual = actual; span = span }

-- The span of the token.
abbrev pub invalid_span : InvalidToken → Place
invalid_span e = e.span

-- The message names both kinds.
abbrev pub invalid_text : InvalidToken → List ℕ
invalid_text e =
    codes "expected " ++ description e.expected
    ++ codes ", but found " ++ description e.actual

abbrev pub token_error_text : TokenError → List ℕ
token_error_text (error.Invalid e) = invalid_text e
token_error_text error.Memory = codes "out of memory"
