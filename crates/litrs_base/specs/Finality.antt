-- The final kinds of refusals, and the open ones. The Rust Reference does not define refusals.
use Rattle.std.specs.Prelude.{Bool, true, false}
use Rattle.litrs_base.specs.declared.err.ParseErrorKind.{ParseErrorKind}
use Rattle.litrs_base.specs.declared.err.ParseErrorKind.TheVariants.{Empty, UnexpectedChar, InvalidLiteral, DoesNotStartWithDigit, InvalidDigit, NoDigits, NoExponentDigits, UnknownEscape, UnterminatedEscape, InvalidXEscape, NonAsciiXEscape, UnicodeEscapeInByteLiteral, InvalidStartOfUnicodeEscape, UnicodeEscapeWithoutBrace, NonHexDigitInUnicodeEscape, TooManyDigitInUnicodeEscape, InvalidUnicodeEscapeChar, UnterminatedUnicodeEscape, UnterminatedCharLiteral, OverlongCharLiteral, EmptyCharLiteral, UnterminatedByteLiteral, OverlongByteLiteral, EmptyByteLiteral, NonAsciiInByteLiteral, UnescapedSingleQuote, UnescapedSpecialWhitespace, DoesNotStartWithQuote, UnterminatedRawString, UnterminatedString, InvalidStringLiteralStart, InvalidByteLiteralStart, InvalidByteStringLiteralStart, InvalidCStringLiteralStart, DisallowedNulEscape, NulByte, CarriageReturn, TooManyHashes, InvalidSuffix, UnexpectedIntegerLit, IntegerSuffixStartingWithE, OutOfMemory}

-- After a final refusal the same parse refuses every text that starts with the refused one.
abbrev pub is_final : ParseErrorKind → Bool
is_final UnexpectedChar = true
is_final DoesNotStartWithDigit = true
is_final InvalidDigit = true
is_final UnknownEscape = true
is_final InvalidXEscape = true
is_final NonAsciiXEscape = true
is_final UnicodeEscapeInByteLiteral = true
is_final InvalidStartOfUnicodeEscape = true
is_final NonHexDigitInUnicodeEscape = true
is_final TooManyDigitInUnicodeEscape = true
is_final InvalidUnicodeEscapeChar = true
is_final OverlongCharLiteral = true
is_final EmptyCharLiteral = true
is_final OverlongByteLiteral = true
is_final EmptyByteLiteral = true
is_final NonAsciiInByteLiteral = true
is_final UnescapedSingleQuote = true
is_final UnescapedSpecialWhitespace = true
is_final DoesNotStartWithQuote = true
is_final InvalidStringLiteralStart = true
is_final DisallowedNulEscape = true
is_final NulByte = true
is_final CarriageReturn = true
is_final TooManyHashes = true
is_final IntegerSuffixStartingWithE = true
is_final Empty = false
is_final InvalidLiteral = false
is_final NoDigits = false
is_final NoExponentDigits = false
is_final UnterminatedEscape = false
is_final UnicodeEscapeWithoutBrace = false
is_final UnterminatedUnicodeEscape = false
is_final UnterminatedCharLiteral = false
is_final UnterminatedByteLiteral = false
is_final UnterminatedRawString = false
is_final UnterminatedString = false
is_final InvalidByteLiteralStart = false
is_final InvalidByteStringLiteralStart = false
is_final InvalidCStringLiteralStart = false
is_final InvalidSuffix = false
is_final UnexpectedIntegerLit = false
is_final OutOfMemory = false

-- After an open refusal, one of these two kinds, the closing text makes the refused text a literal.
abbrev pub is_open : ParseErrorKind → Bool
is_open UnterminatedString = true
is_open UnterminatedRawString = true
is_open _ = false
