-- The kinds of refusals and their descriptions.
use Rattle.std.specs.Prelude.{ℕ, List, codes}
use Rattle.litrs_base.specs.declared.err.ParseErrorKind.{ParseErrorKind}
use Rattle.litrs_base.specs.declared.err.ParseErrorKind.TheVariants.{Empty, UnexpectedChar, InvalidLiteral, DoesNotStartWithDigit, InvalidDigit, NoDigits, NoExponentDigits, UnknownEscape, UnterminatedEscape, InvalidXEscape, NonAsciiXEscape, UnicodeEscapeInByteLiteral, InvalidStartOfUnicodeEscape, UnicodeEscapeWithoutBrace, NonHexDigitInUnicodeEscape, TooManyDigitInUnicodeEscape, InvalidUnicodeEscapeChar, UnterminatedUnicodeEscape, UnterminatedCharLiteral, OverlongCharLiteral, EmptyCharLiteral, UnterminatedByteLiteral, OverlongByteLiteral, EmptyByteLiteral, NonAsciiInByteLiteral, UnescapedSingleQuote, UnescapedSpecialWhitespace, DoesNotStartWithQuote, UnterminatedRawString, UnterminatedString, InvalidStringLiteralStart, InvalidByteLiteralStart, InvalidByteStringLiteralStart, InvalidCStringLiteralStart, DisallowedNulEscape, NulByte, CarriageReturn, TooManyHashes, InvalidSuffix, UnexpectedIntegerLit, IntegerSuffixStartingWithE, OutOfMemory}

-- The description of a kind.
abbrev pub kind_text : ParseErrorKind → List ℕ
kind_text Empty = codes "input is empty"
kind_text UnexpectedChar = codes "unexpected character"
kind_text InvalidLiteral = codes "invalid literal"
kind_text DoesNotStartWithDigit = codes "number literal does not start with decimal digit"
kind_text InvalidDigit = codes "integer literal contains a digit invalid for its base"
kind_text NoDigits = codes "integer literal does not contain any digits"
kind_text NoExponentDigits = codes "exponent of floating point literal does not contain any digits"
kind_text UnknownEscape = codes "unknown escape"
kind_text UnterminatedEscape = codes "unterminated escape: input ended too soon"
kind_text InvalidXEscape = codes "invalid `\\x` escape: not followed by two hex digits"
kind_text NonAsciiXEscape = codes "`\\x` escape in char/string literal exceed ASCII range"
kind_text UnicodeEscapeInByteLiteral =
    codes "`\\u{...}` escape in byte (string) literal not allowed"
kind_text InvalidStartOfUnicodeEscape = codes "invalid start of `\\u{...}` escape"
kind_text UnicodeEscapeWithoutBrace = codes "`Unicode \\u{...}` escape without opening brace"
kind_text NonHexDigitInUnicodeEscape = codes "non-hex digit found in `\\u{...}` escape"
kind_text TooManyDigitInUnicodeEscape = codes "more than six digits in `\\u{...}` escape"
kind_text InvalidUnicodeEscapeChar =
    codes "value specified in `\\u{...}` escape is not a valid char"
kind_text UnterminatedUnicodeEscape = codes "unterminated `\\u{...}` escape"
kind_text UnterminatedCharLiteral = codes "character literal is not terminated"
kind_text OverlongCharLiteral = codes "character literal contains more than one character"
kind_text EmptyCharLiteral = codes "empty character literal"
kind_text UnterminatedByteLiteral = codes "byte literal is not terminated"
kind_text OverlongByteLiteral = codes "byte literal contains more than one byte"
kind_text EmptyByteLiteral = codes "empty byte literal"
kind_text NonAsciiInByteLiteral = codes "non ASCII character in byte (string) literal"
kind_text UnescapedSingleQuote = codes "character literal contains unescaped ' character"
kind_text UnescapedSpecialWhitespace =
    codes "unescaped newline (\\n), tab (\\t) or cr (\\r) character"
kind_text DoesNotStartWithQuote = codes "invalid start for char/byte/string literal"
kind_text UnterminatedRawString = codes "unterminated raw (byte) string literal"
kind_text UnterminatedString = codes "unterminated (byte) string literal"
kind_text InvalidStringLiteralStart = codes "invalid start for string literal"
kind_text InvalidByteLiteralStart = codes "invalid start for byte literal"
kind_text InvalidByteStringLiteralStart = codes "invalid start for byte string literal"
kind_text InvalidCStringLiteralStart = codes "invalid start for C string literal"
kind_text DisallowedNulEscape = codes "`\\0` escape not allowed inside C string literal"
kind_text NulByte = codes "nul byte not allowed inside C string literal"
kind_text CarriageReturn = codes "`\\r` not allowed in string literals"
kind_text TooManyHashes = codes "raw string literal has too many # symbols (max 255)"
kind_text InvalidSuffix = codes "literal suffix is not a valid identifier"
kind_text UnexpectedIntegerLit = codes "expected float literal, but found integer"
kind_text IntegerSuffixStartingWithE = codes "integer literal suffix must not start with 'e' or 'E'"
kind_text OutOfMemory = codes "out of memory"
