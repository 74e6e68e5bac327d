-- The refused texts that begin a literal, for the nine parses. The Rust Reference, Tokens,
-- Literals, defines the literals, but not the refusals.
pub mod Escape
pub mod Quoted
pub mod Raw
pub mod String
pub mod CharByte
pub mod Integer
pub mod Float
pub mod Bool
pub mod Undispatched
use Rattle.std.specs.Prelude.{ℕ, List, IsTrue, length, drop}
use Rattle.litrs_base.specs.declared.quotes.StringKind.{StringKind}
use Rattle.litrs_base.specs.declared.quotes.StringKind.TheVariants.{String as string_kind, ByteString as byte_string_kind, CString as c_string_kind}
use Rattle.litrs_base.specs.Quotes.{switches_of, quoted_front, raw_front}
use Rattle.litrs_base.specs.declared.quotes.CharKind.TheVariants.{Char as char_kind, Byte as byte_kind}
use Rattle.litrs_grammar.specs.Float.{float_cut}
use Rattle.litrs_grammar.specs.Raw.{has_unicode, allows_nul}
use Rattle.litrs_grammar.specs.Literal.{LiteralKind, bool_literal, integer_literal, float_literal, char_literal, byte_literal, string_literal, byte_string_literal, c_string_literal, Parse, literal_parse, kind_parse}
use Rattle.litrs_grammar.specs.LiteralRefusals.{StringStart, refused_start, quoted_start, raw_start, string_start, Dispatch, refused_as, parsed_as, dispatch}
use Rattle.litrs_grammar.specs.GoesOn.Bool.{bool_goes_on}
use Rattle.litrs_grammar.specs.GoesOn.Integer.{IntegerGoesOn}
use Rattle.litrs_grammar.specs.GoesOn.Float.{FloatGoesOn}
use Rattle.litrs_grammar.specs.GoesOn.CharByte.{CharGoesOn}
use Rattle.litrs_grammar.specs.GoesOn.Quoted.{QuotedGoesOn}
use Rattle.litrs_grammar.specs.GoesOn.Raw.{RawGoesOn}
use Rattle.litrs_grammar.specs.GoesOn.String.{start_goes_on}
use Rattle.litrs_grammar.specs.GoesOn.Undispatched.{undispatched_goes_on}

-- A text that starts like this begins a string of the kind.
abbrev pub StartGoesOn : StringKind → StringStart → List ℕ → Type 0
StartGoesOn kind (refused_start refusal) t = IsTrue (start_goes_on kind t)
StartGoesOn kind quoted_start t = QuotedGoesOn (quoted_front kind) (switches_of kind) t
StartGoesOn kind raw_start t =
    RawGoesOn (has_unicode kind) (allows_nul kind) (drop (length (raw_front kind)) t)

-- The text begins a string of the kind.
abbrev pub StringGoesOn : StringKind → List ℕ → Type 0
StringGoesOn kind t = StartGoesOn kind (string_start kind t) t

-- The text begins a literal of the kind.
abbrev pub KindGoesOn : LiteralKind → List ℕ → Type 0
KindGoesOn bool_literal t = IsTrue (bool_goes_on t)
KindGoesOn integer_literal t = IntegerGoesOn t
KindGoesOn float_literal t = FloatGoesOn (float_cut t)
KindGoesOn char_literal t = CharGoesOn char_kind t
KindGoesOn byte_literal t = CharGoesOn byte_kind t
KindGoesOn string_literal t = StringGoesOn string_kind t
KindGoesOn byte_string_literal t = StringGoesOn byte_string_kind t
KindGoesOn c_string_literal t = StringGoesOn c_string_kind t

-- A text that is dispatched like this begins a literal of any kind.
abbrev pub DispatchedGoesOn : Dispatch → List ℕ → Type 0
DispatchedGoesOn (refused_as refusal) t = IsTrue (undispatched_goes_on t)
DispatchedGoesOn (parsed_as kind) t = KindGoesOn kind t

-- A text that the parse refuses begins a literal of the parse.
abbrev pub GoesOn : Parse → List ℕ → Type 0
GoesOn literal_parse t = DispatchedGoesOn (dispatch t) t
GoesOn (kind_parse kind) t = KindGoesOn kind t
