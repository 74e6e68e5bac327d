-- Of each kind that is not final a text that is refused with it and begins a literal.
use Rattle.std.proofs.Common.{[], Some, None, true, refl, arith}
use Rattle.std.specs.Prelude.{codes}
use Rattle.std.proofs.lemmas.Bool.{false≢true}
use Rattle.litrs_base.specs.declared.err.ParseErrorKind.TheVariants.{Empty, UnexpectedChar, InvalidLiteral, DoesNotStartWithDigit, InvalidDigit, NoDigits, NoExponentDigits, UnknownEscape, UnterminatedEscape, InvalidXEscape, NonAsciiXEscape, UnicodeEscapeInByteLiteral, InvalidStartOfUnicodeEscape, UnicodeEscapeWithoutBrace, NonHexDigitInUnicodeEscape, TooManyDigitInUnicodeEscape, InvalidUnicodeEscapeChar, UnterminatedUnicodeEscape, UnterminatedCharLiteral, OverlongCharLiteral, EmptyCharLiteral, UnterminatedByteLiteral, OverlongByteLiteral, EmptyByteLiteral, NonAsciiInByteLiteral, UnescapedSingleQuote, UnescapedSpecialWhitespace, DoesNotStartWithQuote, UnterminatedRawString, UnterminatedString, InvalidStringLiteralStart, InvalidByteLiteralStart, InvalidByteStringLiteralStart, InvalidCStringLiteralStart, DisallowedNulEscape, NulByte, CarriageReturn, TooManyHashes, InvalidSuffix, UnexpectedIntegerLit, IntegerSuffixStartingWithE, OutOfMemory}
use Rattle.litrs_base.specs.declared.integer.IntegerBase.TheVariants.{Hexadecimal}
use Rattle.litrs_base.specs.Refusal.{without_span, at_byte, spanning}
use Rattle.litrs_grammar.specs.Escape.{simple_escape, unicode_escape}
use Rattle.litrs_grammar.specs.CharByte.{plain_char, escaped_char}
use Rattle.litrs_grammar.specs.Literal.{quoted_parts, raw_parts, a_bool, an_integer, a_float, a_char, a_byte, a_string, a_byte_string, a_c_string, float_literal, byte_literal, byte_string_literal, literal_parse, kind_parse}
use Rattle.litrs_grammar.specs.Laws.LongerTexts.{OtherKindsMayGoOn}
use Rattle.litrs_grammar.proofs.Computing.{computing}

pub other_kinds_may_go_on : OtherKindsMayGoOn
unfolding computing
other_kinds_may_go_on Empty other memory = (literal_parse, codes "", without_span Empty, refl, refl, (codes "true", a_bool true, refl, refl))
other_kinds_may_go_on UnexpectedChar other memory = cc
other_kinds_may_go_on InvalidLiteral other memory = (literal_parse, codes "tru", without_span InvalidLiteral, refl, refl, (codes "e", a_bool true, refl, refl))
other_kinds_may_go_on DoesNotStartWithDigit other memory = cc
other_kinds_may_go_on InvalidDigit other memory = cc
other_kinds_may_go_on NoDigits other memory = (literal_parse, codes "0x", spanning 2 2 NoDigits, refl, refl, (codes "1", an_integer (record { base = Hexadecimal; main = codes "1"; suffix = [] }), refl, record { spells = refl; grammar = record { digits = refl; some_digit = refl; ends = refl; suffix = refl; no_exponent = refl; decimal_digit = λ e. cc; decimal_prefix = λ e. cc } }))
other_kinds_may_go_on NoExponentDigits other memory = (literal_parse, codes "1e", spanning 1 2 NoExponentDigits, refl, refl, (codes "3", a_float (record { integer = codes "1"; fraction = None; exponent = codes "e3"; suffix = [] }), refl, record { spells = refl; grammar = record { integer = refl; form = refl; suffix = refl; no_underscore = refl; no_letter = λ e. absurd (false≢true e) } }))
other_kinds_may_go_on UnknownEscape other memory = cc
other_kinds_may_go_on UnterminatedEscape other memory = (literal_parse, codes "'\\", spanning 1 2 UnterminatedEscape, refl, refl, (codes "n'", a_char (record { item = escaped_char (simple_escape 110); suffix = [] }), refl, record { spells = refl; item = refl; suffix = refl }))
other_kinds_may_go_on InvalidXEscape other memory = cc
other_kinds_may_go_on NonAsciiXEscape other memory = cc
other_kinds_may_go_on UnicodeEscapeInByteLiteral other memory = cc
other_kinds_may_go_on InvalidStartOfUnicodeEscape other memory = cc
other_kinds_may_go_on UnicodeEscapeWithoutBrace other memory = (literal_parse, codes "'\\u", spanning 1 3 UnicodeEscapeWithoutBrace, refl, refl, (codes "{41}'", a_char (record { item = escaped_char (unicode_escape (codes "41")); suffix = [] }), refl, record { spells = refl; item = refl; suffix = refl }))
other_kinds_may_go_on NonHexDigitInUnicodeEscape other memory = cc
other_kinds_may_go_on TooManyDigitInUnicodeEscape other memory = cc
other_kinds_may_go_on InvalidUnicodeEscapeChar other memory = cc
other_kinds_may_go_on UnterminatedUnicodeEscape other memory = (literal_parse, codes "'\\u{1", spanning 1 5 UnterminatedUnicodeEscape, refl, refl, (codes "}'", a_char (record { item = escaped_char (unicode_escape (codes "1")); suffix = [] }), refl, record { spells = refl; item = refl; suffix = refl }))
other_kinds_may_go_on UnterminatedCharLiteral other memory = (literal_parse, codes "'a", without_span UnterminatedCharLiteral, refl, refl, (codes "'", a_char (record { item = plain_char 97; suffix = [] }), refl, record { spells = refl; item = refl; suffix = refl }))
other_kinds_may_go_on OverlongCharLiteral other memory = cc
other_kinds_may_go_on EmptyCharLiteral other memory = cc
other_kinds_may_go_on UnterminatedByteLiteral other memory = (literal_parse, codes "b'a", without_span UnterminatedByteLiteral, refl, refl, (codes "'", a_byte (record { item = plain_char 97; suffix = [] }), refl, record { spells = refl; item = refl; suffix = refl }))
other_kinds_may_go_on OverlongByteLiteral other memory = cc
other_kinds_may_go_on EmptyByteLiteral other memory = cc
other_kinds_may_go_on NonAsciiInByteLiteral other memory = cc
other_kinds_may_go_on UnescapedSingleQuote other memory = cc
other_kinds_may_go_on UnescapedSpecialWhitespace other memory = cc
other_kinds_may_go_on DoesNotStartWithQuote other memory = cc
other_kinds_may_go_on UnterminatedRawString other memory = (literal_parse, codes "r\"", without_span UnterminatedRawString, refl, refl, (codes "\"", a_string (raw_parts (record { hash_count = 0; body = []; suffix = [] })), refl, record { spells = refl; grammar = record { hash_count = omega arith; body = record { allowed = refl; unclosed = refl }; suffix = refl } }))
other_kinds_may_go_on UnterminatedString other memory = (literal_parse, codes "\"", without_span UnterminatedString, record { items = []; rest = []; cause = without_span UnterminatedString; spells = refl; taken = refl; decided = refl; placed = refl }, refl, (codes "\"", a_string (quoted_parts (record { items = []; suffix = [] })), refl, record { spells = refl; body = refl; suffix = refl }))
other_kinds_may_go_on InvalidStringLiteralStart other memory = cc
other_kinds_may_go_on InvalidByteLiteralStart other memory = (kind_parse byte_literal, codes "b", without_span InvalidByteLiteralStart, refl, refl, (codes "'a'", a_byte (record { item = plain_char 97; suffix = [] }), refl, (refl, record { spells = refl; item = refl; suffix = refl })))
other_kinds_may_go_on InvalidByteStringLiteralStart other memory = (kind_parse byte_string_literal, codes "b", without_span InvalidByteStringLiteralStart, refl, refl, (codes "\"\"", a_byte_string (quoted_parts (record { items = []; suffix = [] })), refl, (refl, record { spells = refl; body = refl; suffix = refl })))
other_kinds_may_go_on InvalidCStringLiteralStart other memory = (literal_parse, codes "c", without_span InvalidCStringLiteralStart, refl, refl, (codes "\"\"", a_c_string (quoted_parts (record { items = []; suffix = [] })), refl, record { spells = refl; body = refl; suffix = refl }))
other_kinds_may_go_on DisallowedNulEscape other memory = cc
other_kinds_may_go_on NulByte other memory = cc
other_kinds_may_go_on CarriageReturn other memory = cc
other_kinds_may_go_on TooManyHashes other memory = cc
other_kinds_may_go_on InvalidSuffix other memory = (literal_parse, codes "\"\"_", at_byte 2 InvalidSuffix, record { items = []; rest = codes "\"_"; cause = at_byte 1 InvalidSuffix; spells = refl; taken = refl; decided = refl; placed = refl }, refl, (codes "x", a_string (quoted_parts (record { items = []; suffix = codes "_x" })), refl, record { spells = refl; body = refl; suffix = refl }))
other_kinds_may_go_on UnexpectedIntegerLit other memory = (kind_parse float_literal, codes "3", without_span UnexpectedIntegerLit, refl, refl, (codes ".", a_float (record { integer = codes "3"; fraction = Some []; exponent = []; suffix = [] }), refl, (refl, record { spells = refl; grammar = record { integer = refl; form = refl; suffix = refl; no_underscore = refl; no_letter = λ e. refl } })))
other_kinds_may_go_on IntegerSuffixStartingWithE other memory = cc
other_kinds_may_go_on OutOfMemory other memory = absurd (memory refl)
