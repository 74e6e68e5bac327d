-- The kinds of refusals by computation: the description of each, whether it is final, and whether it is open; and what is
-- printed.
use Prim.Native.String.{String}
use Rattle.std.specs.Prelude.{◌≡◌, ◌++◌, Bool, true, false, Some, None, codes, refl}
use Rattle.std.specs.Fmt.{decimal}
use Rattle.litrs_base.specs.declared.err.ParseErrorKind.{ParseErrorKind}
use Rattle.litrs_base.specs.declared.err.ParseErrorKind.TheVariants as kind
use Rattle.litrs_base.specs.Kind.{kind_text}
use Rattle.litrs_base.specs.Refusal.{without_span, spanning, at_byte, shifted, refusal_text}
use Rattle.litrs_base.specs.Finality.{is_final, is_open}
use Rattle.litrs_grammar.proofs.Computing.{computing}

-- the description of a kind, and whether it is final and open
abbrev IsKind : ParseErrorKind → String → (final opened : Bool) → Type 0
IsKind kind text final opened = (kind_text kind ≡ codes text) × (is_final kind ≡ final) × (is_open kind ≡ opened)

-- Final kinds

final_kinds :
    IsKind kind.UnexpectedChar "unexpected character" true false
    × IsKind kind.DoesNotStartWithDigit "number literal does not start with decimal digit" true false
    × IsKind kind.InvalidDigit "integer literal contains a digit invalid for its base" true false
    × IsKind kind.UnknownEscape "unknown escape" true false
    × IsKind kind.InvalidXEscape "invalid `\\x` escape: not followed by two hex digits" true false
    × IsKind kind.NonAsciiXEscape "`\\x` escape in char/string literal exceed ASCII range" true false
    × IsKind kind.UnicodeEscapeInByteLiteral "`\\u{...}` escape in byte (string) literal not allowed" true false
    × IsKind kind.InvalidStartOfUnicodeEscape "invalid start of `\\u{...}` escape" true false
    × IsKind kind.NonHexDigitInUnicodeEscape "non-hex digit found in `\\u{...}` escape" true false
    × IsKind kind.TooManyDigitInUnicodeEscape "more than six digits in `\\u{...}` escape" true false
    × IsKind kind.InvalidUnicodeEscapeChar "value specified in `\\u{...}` escape is not a valid char" true false
    × IsKind kind.OverlongCharLiteral "character literal contains more than one character" true false
    × IsKind kind.EmptyCharLiteral "empty character literal" true false
    × IsKind kind.OverlongByteLiteral "byte literal contains more than one byte" true false
    × IsKind kind.EmptyByteLiteral "empty byte literal" true false
    × IsKind kind.NonAsciiInByteLiteral "non ASCII character in byte (string) literal" true false
    × IsKind kind.UnescapedSingleQuote "character literal contains unescaped ' character" true false
    × IsKind kind.UnescapedSpecialWhitespace "unescaped newline (\\n), tab (\\t) or cr (\\r) character" true false
    × IsKind kind.DoesNotStartWithQuote "invalid start for char/byte/string literal" true false
    × IsKind kind.InvalidStringLiteralStart "invalid start for string literal" true false
    × IsKind kind.DisallowedNulEscape "`\\0` escape not allowed inside C string literal" true false
    × IsKind kind.NulByte "nul byte not allowed inside C string literal" true false
    × IsKind kind.CarriageReturn "`\\r` not allowed in string literals" true false
    × IsKind kind.TooManyHashes "raw string literal has too many # symbols (max 255)" true false
    × IsKind kind.IntegerSuffixStartingWithE "integer literal suffix must not start with 'e' or 'E'" true false
unfolding computing
final_kinds = (
  (refl, refl, refl),
  (refl, refl, refl),
  (refl, refl, refl),
  (refl, refl, refl),
  (refl, refl, refl),
  (refl, refl, refl),
  (refl, refl, refl),
  (refl, refl, refl),
  (refl, refl, refl),
  (refl, refl, refl),
  (refl, refl, refl),
  (refl, refl, refl),
  (refl, refl, refl),
  (refl, refl, refl),
  (refl, refl, refl),
  (refl, refl, refl),
  (refl, refl, refl),
  (refl, refl, refl),
  (refl, refl, refl),
  (refl, refl, refl),
  (refl, refl, refl),
  (refl, refl, refl),
  (refl, refl, refl),
  (refl, refl, refl),
  (refl, refl, refl),
)

-- Open kinds

open_kinds :
    IsKind kind.UnterminatedRawString "unterminated raw (byte) string literal" false true
    × IsKind kind.UnterminatedString "unterminated (byte) string literal" false true
unfolding computing
open_kinds = (
  (refl, refl, refl),
  (refl, refl, refl),
)

-- Kinds that are neither

other_kinds :
    IsKind kind.Empty "input is empty" false false
    × IsKind kind.InvalidLiteral "invalid literal" false false
    × IsKind kind.NoDigits "integer literal does not contain any digits" false false
    × IsKind kind.NoExponentDigits "exponent of floating point literal does not contain any digits" false false
    × IsKind kind.UnterminatedEscape "unterminated escape: input ended too soon" false false
    × IsKind kind.UnicodeEscapeWithoutBrace "`Unicode \\u{...}` escape without opening brace" false false
    × IsKind kind.UnterminatedUnicodeEscape "unterminated `\\u{...}` escape" false false
    × IsKind kind.UnterminatedCharLiteral "character literal is not terminated" false false
    × IsKind kind.UnterminatedByteLiteral "byte literal is not terminated" false false
    × IsKind kind.InvalidByteLiteralStart "invalid start for byte literal" false false
    × IsKind kind.InvalidByteStringLiteralStart "invalid start for byte string literal" false false
    × IsKind kind.InvalidCStringLiteralStart "invalid start for C string literal" false false
    × IsKind kind.InvalidSuffix "literal suffix is not a valid identifier" false false
    × IsKind kind.UnexpectedIntegerLit "expected float literal, but found integer" false false
    × IsKind kind.OutOfMemory "out of memory" false false
unfolding computing
other_kinds = (
  (refl, refl, refl),
  (refl, refl, refl),
  (refl, refl, refl),
  (refl, refl, refl),
  (refl, refl, refl),
  (refl, refl, refl),
  (refl, refl, refl),
  (refl, refl, refl),
  (refl, refl, refl),
  (refl, refl, refl),
  (refl, refl, refl),
  (refl, refl, refl),
  (refl, refl, refl),
  (refl, refl, refl),
  (refl, refl, refl),
)

-- Spans

spans :
    ((spanning 1 2 kind.Empty).span ≡ Some (record { start = 1; end = 2 }))
    × ((without_span kind.Empty).span ≡ None)
    × ((at_byte 3 kind.Empty).span ≡ Some (record { start = 3; end = 4 }))
    × (shifted 5 (spanning 1 3 kind.Empty) ≡ spanning 6 8 kind.Empty)
    × (shifted 5 (without_span kind.InvalidDigit) ≡ without_span kind.InvalidDigit)
unfolding computing
spans = (refl, refl, refl, refl, refl)

-- Printed errors

printed :
    (refusal_text (spanning 1 11 kind.InvalidUnicodeEscapeChar) ≡ codes "value specified in `\\u{...}` escape is not a valid char (at " ++ decimal 1 ++ codes ".." ++ decimal 11 ++ codes ")")
    × (refusal_text (without_span kind.Empty) ≡ codes "input is empty")
unfolding computing
printed = (refl, refl)
