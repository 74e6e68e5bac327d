-- The names of kinds, which are those of the variants of `Literal`, `ParseErrorKind` and
-- `TokenKind`.
use Rattle.std.specs.Prelude.{ℕ, List, [], ◌∷◌, ◌++◌, map, get_or, codes}
use Rattle.litrs_base.specs.declared.err.ParseErrorKind.{ParseErrorKind}
use Rattle.litrs_base.specs.declared.err.ParseErrorKind.TheVariants.{Empty, UnexpectedChar, InvalidLiteral, DoesNotStartWithDigit, InvalidDigit, NoDigits, NoExponentDigits, UnknownEscape, UnterminatedEscape, InvalidXEscape, NonAsciiXEscape, UnicodeEscapeInByteLiteral, InvalidStartOfUnicodeEscape, UnicodeEscapeWithoutBrace, NonHexDigitInUnicodeEscape, TooManyDigitInUnicodeEscape, InvalidUnicodeEscapeChar, UnterminatedUnicodeEscape, UnterminatedCharLiteral, OverlongCharLiteral, EmptyCharLiteral, UnterminatedByteLiteral, OverlongByteLiteral, EmptyByteLiteral, NonAsciiInByteLiteral, UnescapedSingleQuote, UnescapedSpecialWhitespace, DoesNotStartWithQuote, UnterminatedRawString, UnterminatedString, InvalidStringLiteralStart, InvalidByteLiteralStart, InvalidByteStringLiteralStart, InvalidCStringLiteralStart, DisallowedNulEscape, NulByte, CarriageReturn, TooManyHashes, InvalidSuffix, UnexpectedIntegerLit, IntegerSuffixStartingWithE, OutOfMemory}
use Rattle.litrs_grammar.specs.Literal.{LiteralKind, bool_literal, integer_literal, float_literal, char_literal, byte_literal, string_literal, byte_string_literal, c_string_literal}
use Rattle.litrs_lexer.specs.declared.kind.TokenKind.{TokenKind}
use Rattle.litrs_lexer.specs.declared.kind.TokenKind.TheVariants.{Whitespace, LineComment, BlockComment, UnterminatedBlockComment, Ident, RawIdent, UnknownPrefix, Lifetime, RawLifetime, UnknownPrefixLifetime, Literal, MalformedLiteral, Punctuation, Unknown}

-- A text of C: a zero follows its last byte.
abbrev pub zero_ended : List ℕ → List ℕ
zero_ended t = t ++ (0 ∷ [])

-- The name for a number that is not in the header.
abbrev pub unknown_name : List ℕ
unknown_name = codes "Unknown"

-- The name of a kind of literals.
abbrev pub kind_name : LiteralKind → List ℕ
kind_name bool_literal = codes "Bool"
kind_name integer_literal = codes "Integer"
kind_name float_literal = codes "Float"
kind_name char_literal = codes "Char"
kind_name byte_literal = codes "Byte"
kind_name string_literal = codes "String"
kind_name byte_string_literal = codes "ByteString"
kind_name c_string_literal = codes "CString"

-- The name of a kind of errors. An allocation failure has no name.
abbrev pub error_name : ParseErrorKind → List ℕ
error_name Empty = codes "Empty"
error_name UnexpectedChar = codes "UnexpectedChar"
error_name InvalidLiteral = codes "InvalidLiteral"
error_name DoesNotStartWithDigit = codes "DoesNotStartWithDigit"
error_name InvalidDigit = codes "InvalidDigit"
error_name NoDigits = codes "NoDigits"
error_name NoExponentDigits = codes "NoExponentDigits"
error_name UnknownEscape = codes "UnknownEscape"
error_name UnterminatedEscape = codes "UnterminatedEscape"
error_name InvalidXEscape = codes "InvalidXEscape"
error_name NonAsciiXEscape = codes "NonAsciiXEscape"
error_name UnicodeEscapeInByteLiteral = codes "UnicodeEscapeInByteLiteral"
error_name InvalidStartOfUnicodeEscape = codes "InvalidStartOfUnicodeEscape"
error_name UnicodeEscapeWithoutBrace = codes "UnicodeEscapeWithoutBrace"
error_name NonHexDigitInUnicodeEscape = codes "NonHexDigitInUnicodeEscape"
error_name TooManyDigitInUnicodeEscape = codes "TooManyDigitInUnicodeEscape"
error_name InvalidUnicodeEscapeChar = codes "InvalidUnicodeEscapeChar"
error_name UnterminatedUnicodeEscape = codes "UnterminatedUnicodeEscape"
error_name UnterminatedCharLiteral = codes "UnterminatedCharLiteral"
error_name OverlongCharLiteral = codes "OverlongCharLiteral"
error_name EmptyCharLiteral = codes "EmptyCharLiteral"
error_name UnterminatedByteLiteral = codes "UnterminatedByteLiteral"
error_name OverlongByteLiteral = codes "OverlongByteLiteral"
error_name EmptyByteLiteral = codes "EmptyByteLiteral"
error_name NonAsciiInByteLiteral = codes "NonAsciiInByteLiteral"
error_name UnescapedSingleQuote = codes "UnescapedSingleQuote"
error_name UnescapedSpecialWhitespace = codes "UnescapedSpecialWhitespace"
error_name DoesNotStartWithQuote = codes "DoesNotStartWithQuote"
error_name UnterminatedRawString = codes "UnterminatedRawString"
error_name UnterminatedString = codes "UnterminatedString"
error_name InvalidStringLiteralStart = codes "InvalidStringLiteralStart"
error_name InvalidByteLiteralStart = codes "InvalidByteLiteralStart"
error_name InvalidByteStringLiteralStart = codes "InvalidByteStringLiteralStart"
error_name InvalidCStringLiteralStart = codes "InvalidCStringLiteralStart"
error_name DisallowedNulEscape = codes "DisallowedNulEscape"
error_name NulByte = codes "NulByte"
error_name CarriageReturn = codes "CarriageReturn"
error_name TooManyHashes = codes "TooManyHashes"
error_name InvalidSuffix = codes "InvalidSuffix"
error_name UnexpectedIntegerLit = codes "UnexpectedIntegerLit"
error_name IntegerSuffixStartingWithE = codes "IntegerSuffixStartingWithE"
error_name OutOfMemory = unknown_name

-- The name of a kind of tokens.
abbrev pub token_name : TokenKind → List ℕ
token_name Whitespace = codes "Whitespace"
token_name LineComment = codes "LineComment"
token_name BlockComment = codes "BlockComment"
token_name UnterminatedBlockComment = codes "UnterminatedBlockComment"
token_name Ident = codes "Ident"
token_name RawIdent = codes "RawIdent"
token_name UnknownPrefix = codes "UnknownPrefix"
token_name Lifetime = codes "Lifetime"
token_name RawLifetime = codes "RawLifetime"
token_name UnknownPrefixLifetime = codes "UnknownPrefixLifetime"
token_name Literal = codes "Literal"
token_name MalformedLiteral = codes "MalformedLiteral"
token_name Punctuation = codes "Punctuation"
token_name Unknown = codes "Unknown"

-- The names by the numbers of `enum litrs_kind`.
abbrev pub kind_names : List (List ℕ)
kind_names = unknown_name ∷ map kind_name (
    bool_literal ∷ integer_literal ∷ float_literal ∷ char_literal ∷ byte_literal ∷
    string_literal ∷ byte_string_literal ∷ c_string_literal ∷ []
    )

-- The names by the numbers of `enum litrs_error`.
abbrev pub error_names : List (List ℕ)
error_names = unknown_name ∷ map error_name (
    Empty ∷ UnexpectedChar ∷ InvalidLiteral ∷ DoesNotStartWithDigit ∷ InvalidDigit ∷ NoDigits ∷
    NoExponentDigits ∷ UnknownEscape ∷ UnterminatedEscape ∷ InvalidXEscape ∷ NonAsciiXEscape ∷
    UnicodeEscapeInByteLiteral ∷ InvalidStartOfUnicodeEscape ∷ UnicodeEscapeWithoutBrace ∷
    NonHexDigitInUnicodeEscape ∷ TooManyDigitInUnicodeEscape ∷ InvalidUnicodeEscapeChar ∷
    UnterminatedUnicodeEscape ∷ UnterminatedCharLiteral ∷ OverlongCharLiteral ∷
    EmptyCharLiteral ∷ UnterminatedByteLiteral ∷ OverlongByteLiteral ∷ EmptyByteLiteral ∷
    NonAsciiInByteLiteral ∷ UnescapedSingleQuote ∷ UnescapedSpecialWhitespace ∷
    DoesNotStartWithQuote ∷ UnterminatedRawString ∷ UnterminatedString ∷
    InvalidStringLiteralStart ∷ InvalidByteLiteralStart ∷ InvalidByteStringLiteralStart ∷
    InvalidCStringLiteralStart ∷ DisallowedNulEscape ∷ NulByte ∷ CarriageReturn ∷ TooManyHashes ∷
    InvalidSuffix ∷ UnexpectedIntegerLit ∷ IntegerSuffixStartingWithE ∷ []
    )

-- The names by the numbers of `enum litrs_token_kind`.
abbrev pub token_names : List (List ℕ)
token_names = unknown_name ∷ map token_name (
    Whitespace ∷ LineComment ∷ BlockComment ∷ UnterminatedBlockComment ∷ Ident ∷ RawIdent ∷
    UnknownPrefix ∷ Lifetime ∷ RawLifetime ∷ UnknownPrefixLifetime ∷ Literal ∷
    MalformedLiteral ∷ Punctuation ∷ Unknown ∷ []
    )

-- The name at a number.
abbrev pub name_at : List (List ℕ) → ℕ → List ℕ
name_at names number = get_or names number unknown_name
