-- The refusals of the nine parses. The Rust Reference defines which texts are literals, but not the
-- errors for other texts: the tables here and in the files of the kinds do.
use Rattle.std.specs.Prelude.{◌≡◌, ℕ, ◌==◌, ◌||◌, Bool, List, drop, Some, codes, if◌then◌else◌}
use Rattle.std.specs.Char.{is_ascii_digit}
use Rattle.std.specs.List.{prefix_len}
use Rattle.litrs_base.specs.declared.err.ParseErrorKind.TheVariants.{Empty, InvalidLiteral, InvalidStringLiteralStart, InvalidByteStringLiteralStart, InvalidCStringLiteralStart}
use Rattle.litrs_base.specs.Refusal.{Refusal, without_span, at_byte}
use Rattle.litrs_base.specs.declared.integer.IntegerBase.TheVariants.{Decimal}
use Rattle.litrs_base.specs.Characters.{period}
use Rattle.litrs_base.specs.Text.{is_empty, first_passes, begins_with}
use Rattle.litrs_base.specs.declared.quotes.StringKind.{StringKind}
use Rattle.litrs_base.specs.declared.quotes.StringKind.TheVariants.{String as string_kind, ByteString as byte_string_kind, CString as c_string_kind}
use Rattle.litrs_base.specs.Quotes.{quoted_front, raw_front}
use Rattle.litrs_grammar.specs.Bool.{is_bool, bool_refusal}
use Rattle.litrs_base.specs.Base.{is_digit_or_underscore}
use Rattle.litrs_grammar.specs.Integer.{is_e, integer_refusal}
use Rattle.litrs_grammar.specs.Float.{float_refusal}
use Rattle.litrs_grammar.specs.CharByte.{char_refusal, byte_refusal}
use Rattle.litrs_grammar.specs.Quoted.{IsQuotedLiteralRefusal}
use Rattle.litrs_grammar.specs.Raw.{raw_literal_refusal}
use Rattle.litrs_grammar.specs.Literal.{LiteralKind, bool_literal, integer_literal, float_literal, char_literal, byte_literal, string_literal, byte_string_literal, c_string_literal, Parse, literal_parse, kind_parse}

-- Strings of each kind.

-- The refusal of a text that starts with neither front of the kind.
abbrev pub string_start_refusal : StringKind → Refusal
string_start_refusal string_kind = at_byte 0 InvalidStringLiteralStart
string_start_refusal byte_string_kind = without_span InvalidByteStringLiteralStart
string_start_refusal c_string_kind = without_span InvalidCStringLiteralStart

-- The start of a text: it decides the refusal alone, or selects the table of quoted or of raw
-- literals.
pub data StringStart : Type 0 where
  refused_start : Refusal → StringStart
  quoted_start : StringStart
  raw_start : StringStart

-- The start of a text as a string of the kind. The first row that fits decides.
abbrev pub string_start : StringKind → List ℕ → StringStart
string_start kind t =
    if is_empty t then refused_start (without_span Empty)
    else if begins_with (quoted_front kind) t then quoted_start
    else if begins_with (raw_front kind) t then raw_start
    else refused_start (string_start_refusal kind)

-- The refusals of a text with this start.
abbrev pub IsRefusalOfStart : StringKind → StringStart → List ℕ → Refusal → Type 0
IsRefusalOfStart kind (refused_start refusal) t e = refusal ≡ e
IsRefusalOfStart kind quoted_start t e = IsQuotedLiteralRefusal kind t e
IsRefusalOfStart kind raw_start t e = raw_literal_refusal kind t ≡ Some e

-- The refusals of a text as a string of the kind.
abbrev pub IsStringRefusal : StringKind → List ℕ → Refusal → Type 0
IsStringRefusal kind t = IsRefusalOfStart kind (string_start kind t) t

-- `e` is the refusal of `t` as a literal of the kind iff the table of the kind gives it.
abbrev pub IsKindRefusal : LiteralKind → List ℕ → Refusal → Type 0
IsKindRefusal bool_literal t e = bool_refusal t ≡ Some e
IsKindRefusal integer_literal t e = integer_refusal t ≡ Some e
IsKindRefusal float_literal t e = float_refusal t ≡ Some e
IsKindRefusal char_literal t e = char_refusal t ≡ Some e
IsKindRefusal byte_literal t e = byte_refusal t ≡ Some e
IsKindRefusal string_literal t e = IsStringRefusal string_kind t e
IsKindRefusal byte_string_literal t e = IsStringRefusal byte_string_kind t e
IsKindRefusal c_string_literal t e = IsStringRefusal c_string_kind t e

-- Literals of any kind.

-- A period, `e` or `E`, one of which follows the integer part of a float.
abbrev pub is_float_mark : ℕ → Bool
is_float_mark c = (c == period) || is_e c

-- `true` iff such a mark follows the leading run of decimal digits and underscores.
abbrev pub begins_with_float : List ℕ → Bool
begins_with_float t =
    first_passes is_float_mark (drop (prefix_len (is_digit_or_underscore Decimal) t) t)

-- The start of a text decides as which kind it is parsed, and the table of that kind gives its
-- refusal. If it starts like no kind, the start alone decides the refusal.
pub data Dispatch : Type 0 where
  refused_as : Refusal → Dispatch
  parsed_as : LiteralKind → Dispatch

-- The dispatch of a text. The first row that fits decides.
unfoldable pub dispatch : List ℕ → Dispatch
dispatch t =
    if is_empty t then refused_as (without_span Empty)
    else if is_bool t then parsed_as bool_literal
    else if first_passes is_ascii_digit t
    then (if begins_with_float t then parsed_as float_literal else parsed_as integer_literal)
    else if begins_with (codes "'") t then parsed_as char_literal
    else if begins_with (codes "\"") t || begins_with (codes "r") t then parsed_as string_literal
    else if begins_with (codes "b'") t then parsed_as byte_literal
    else if begins_with (codes "b\"") t || begins_with (codes "br") t
    then parsed_as byte_string_literal
    else if begins_with (codes "c") t then parsed_as c_string_literal
    else refused_as (without_span InvalidLiteral)

-- The refusals of a text with this dispatch. A text that is parsed as a bool is a bool.
abbrev pub IsRefusalOfDispatch : Dispatch → List ℕ → Refusal → Type 0
IsRefusalOfDispatch (refused_as refusal) t e = refusal ≡ e
IsRefusalOfDispatch (parsed_as kind) t e = IsKindRefusal kind t e

-- `e` is the refusal of `t` by the parse iff its kind gives it, or, if the parse is of any kind,
-- the dispatch of `t`.
abbrev pub IsRefusal : Parse → List ℕ → Refusal → Type 0
IsRefusal literal_parse t e = IsRefusalOfDispatch (dispatch t) t e
IsRefusal (kind_parse kind) t e = IsKindRefusal kind t e
