-- The numbers of kinds in the header.
use Rattle.std.specs.Prelude.{ℕ, Option, Some, None}
use Rattle.litrs_base.specs.declared.err.ParseErrorKind.{ParseErrorKind}
use Rattle.litrs_base.specs.declared.err.ParseErrorKind.TheVariants.{Empty, UnexpectedChar, InvalidLiteral, DoesNotStartWithDigit, InvalidDigit, NoDigits, NoExponentDigits, UnknownEscape, UnterminatedEscape, InvalidXEscape, NonAsciiXEscape, UnicodeEscapeInByteLiteral, InvalidStartOfUnicodeEscape, UnicodeEscapeWithoutBrace, NonHexDigitInUnicodeEscape, TooManyDigitInUnicodeEscape, InvalidUnicodeEscapeChar, UnterminatedUnicodeEscape, UnterminatedCharLiteral, OverlongCharLiteral, EmptyCharLiteral, UnterminatedByteLiteral, OverlongByteLiteral, EmptyByteLiteral, NonAsciiInByteLiteral, UnescapedSingleQuote, UnescapedSpecialWhitespace, DoesNotStartWithQuote, UnterminatedRawString, UnterminatedString, InvalidStringLiteralStart, InvalidByteLiteralStart, InvalidByteStringLiteralStart, InvalidCStringLiteralStart, DisallowedNulEscape, NulByte, CarriageReturn, TooManyHashes, InvalidSuffix, UnexpectedIntegerLit, IntegerSuffixStartingWithE, OutOfMemory}
use Rattle.litrs_grammar.specs.Literal.{LiteralKind, bool_literal, integer_literal, float_literal, char_literal, byte_literal, string_literal, byte_string_literal, c_string_literal}
use Rattle.litrs_lexer.specs.declared.kind.DocStyle.{DocStyle}
use Rattle.litrs_lexer.specs.declared.kind.DocStyle.TheVariants.{Inner, Outer}
use Rattle.litrs_lexer.specs.declared.kind.TokenKind.{TokenKind}
use Rattle.litrs_lexer.specs.declared.kind.TokenKind.TheVariants.{Whitespace, LineComment, BlockComment, UnterminatedBlockComment, Ident, RawIdent, UnknownPrefix, Lifetime, RawLifetime, UnknownPrefixLifetime, Literal, MalformedLiteral, Punctuation, Unknown}

-- The number in `enum litrs_kind`.
abbrev pub kind_code : LiteralKind → ℕ
kind_code bool_literal = 1
kind_code integer_literal = 2
kind_code float_literal = 3
kind_code char_literal = 4
kind_code byte_literal = 5
kind_code string_literal = 6
kind_code byte_string_literal = 7
kind_code c_string_literal = 8

-- The number in `enum litrs_error`.
abbrev pub error_code : ParseErrorKind → ℕ
error_code Empty = 1
error_code UnexpectedChar = 2
error_code InvalidLiteral = 3
error_code DoesNotStartWithDigit = 4
error_code InvalidDigit = 5
error_code NoDigits = 6
error_code NoExponentDigits = 7
error_code UnknownEscape = 8
error_code UnterminatedEscape = 9
error_code InvalidXEscape = 10
error_code NonAsciiXEscape = 11
error_code UnicodeEscapeInByteLiteral = 12
error_code InvalidStartOfUnicodeEscape = 13
error_code UnicodeEscapeWithoutBrace = 14
error_code NonHexDigitInUnicodeEscape = 15
error_code TooManyDigitInUnicodeEscape = 16
error_code InvalidUnicodeEscapeChar = 17
error_code UnterminatedUnicodeEscape = 18
error_code UnterminatedCharLiteral = 19
error_code OverlongCharLiteral = 20
error_code EmptyCharLiteral = 21
error_code UnterminatedByteLiteral = 22
error_code OverlongByteLiteral = 23
error_code EmptyByteLiteral = 24
error_code NonAsciiInByteLiteral = 25
error_code UnescapedSingleQuote = 26
error_code UnescapedSpecialWhitespace = 27
error_code DoesNotStartWithQuote = 28
error_code UnterminatedRawString = 29
error_code UnterminatedString = 30
error_code InvalidStringLiteralStart = 31
error_code InvalidByteLiteralStart = 32
error_code InvalidByteStringLiteralStart = 33
error_code InvalidCStringLiteralStart = 34
error_code DisallowedNulEscape = 35
error_code NulByte = 36
error_code CarriageReturn = 37
error_code TooManyHashes = 38
error_code InvalidSuffix = 39
error_code UnexpectedIntegerLit = 40
error_code IntegerSuffixStartingWithE = 41
error_code OutOfMemory = 42

-- The number in `enum litrs_token_kind`.
abbrev pub token_code : TokenKind → ℕ
token_code Whitespace = 1
token_code LineComment = 2
token_code BlockComment = 3
token_code UnterminatedBlockComment = 4
token_code Ident = 5
token_code RawIdent = 6
token_code UnknownPrefix = 7
token_code Lifetime = 8
token_code RawLifetime = 9
token_code UnknownPrefixLifetime = 10
token_code Literal = 11
token_code MalformedLiteral = 12
token_code Punctuation = 13
token_code Unknown = 14

-- The number in `enum litrs_doc_style`.
abbrev pub doc_code : Option DocStyle → ℕ
doc_code None = 0
doc_code (Some Inner) = 1
doc_code (Some Outer) = 2
