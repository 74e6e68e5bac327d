-- Literals of all eight kinds. The Rust Reference, Tokens, Literals.
use Rattle.std.specs.Prelude.{◌≡◌, ℕ, List, [], Bool}
use Rattle.litrs_base.specs.declared.quotes.StringKind.{StringKind}
use Rattle.litrs_base.specs.declared.quotes.StringKind.TheVariants.{String as string_kind, ByteString as byte_string_kind, CString as c_string_kind}
use Rattle.litrs_base.specs.declared.quotes.CharKind.TheVariants.{Char as char_kind, Byte as byte_kind}
use Rattle.litrs_grammar.specs.LongerTexts.{BeginsBy}
use Rattle.litrs_grammar.specs.Bool.{IsBool}
use Rattle.litrs_grammar.specs.Integer.{IntegerParts, IsIntegerOf}
use Rattle.litrs_grammar.specs.Float.{FloatParts, IsFloatOf}
use Rattle.litrs_grammar.specs.CharByte.{CharParts, IsCharLiteral}
use Rattle.litrs_grammar.specs.Quoted.{QuotedParts, body_value, IsQuotedLiteral}
use Rattle.litrs_grammar.specs.Raw.{RawParts, raw_value, IsRawLiteral}

-- The parts of a string literal, which is quoted or raw.
pub data StringParts : Type 0 where
  quoted_parts : QuotedParts → StringParts
  raw_parts : RawParts → StringParts

-- The text is a string of the kind with these parts iff it is a quoted or a raw literal of the kind
-- with them.
abbrev pub IsString : StringKind → List ℕ → StringParts → Type 0
IsString kind t (quoted_parts d) = IsQuotedLiteral kind t d
IsString kind t (raw_parts d) = IsRawLiteral kind t d

-- The suffix of a string literal.
abbrev pub string_suffix : StringParts → List ℕ
string_suffix (quoted_parts d) = d.suffix
string_suffix (raw_parts d) = d.suffix

-- The value of a string literal, in bytes.
abbrev pub string_value : StringParts → List ℕ
string_value (quoted_parts d) = body_value d.items
string_value (raw_parts d) = raw_value d.body

-- A derivation: the kind of a literal and its parts.
pub data Derivation : Type 0 where
  a_bool : Bool → Derivation
  an_integer : IntegerParts → Derivation
  a_float : FloatParts → Derivation
  a_char : CharParts → Derivation
  a_byte : CharParts → Derivation
  a_string : StringParts → Derivation
  a_byte_string : StringParts → Derivation
  a_c_string : StringParts → Derivation

-- `d` is a derivation of `t` iff the text is a literal of the kind of `d` with its parts.
abbrev pub IsLiteral : List ℕ → Derivation → Type 0
IsLiteral t (a_bool b) = IsBool t b
IsLiteral t (an_integer d) = IsIntegerOf t d
IsLiteral t (a_float d) = IsFloatOf t d
IsLiteral t (a_char d) = IsCharLiteral char_kind t d
IsLiteral t (a_byte d) = IsCharLiteral byte_kind t d
IsLiteral t (a_string d) = IsString string_kind t d
IsLiteral t (a_byte_string d) = IsString byte_string_kind t d
IsLiteral t (a_c_string d) = IsString c_string_kind t d

-- The suffix of a literal, which is empty for a bool.
abbrev pub suffix_of : Derivation → List ℕ
suffix_of (a_bool b) = []
suffix_of (an_integer d) = d.suffix
suffix_of (a_float d) = d.suffix
suffix_of (a_char d) = d.suffix
suffix_of (a_byte d) = d.suffix
suffix_of (a_string d) = string_suffix d
suffix_of (a_byte_string d) = string_suffix d
suffix_of (a_c_string d) = string_suffix d

-- The kinds of literals.
pub data LiteralKind : Type 0 where
  bool_literal : LiteralKind
  integer_literal : LiteralKind
  float_literal : LiteralKind
  char_literal : LiteralKind
  byte_literal : LiteralKind
  string_literal : LiteralKind
  byte_string_literal : LiteralKind
  c_string_literal : LiteralKind

-- The kind of a literal.
abbrev pub literal_kind : Derivation → LiteralKind
literal_kind (a_bool b) = bool_literal
literal_kind (an_integer d) = integer_literal
literal_kind (a_float d) = float_literal
literal_kind (a_char d) = char_literal
literal_kind (a_byte d) = byte_literal
literal_kind (a_string d) = string_literal
literal_kind (a_byte_string d) = byte_string_literal
literal_kind (a_c_string d) = c_string_literal

-- The kind of literal that a string of the kind is.
abbrev pub string_literal_of : StringKind → LiteralKind
string_literal_of string_kind = string_literal
string_literal_of byte_string_kind = byte_string_literal
string_literal_of c_string_kind = c_string_literal

-- The nine parses: one for literals of any kind, and one for each kind alone.
pub data Parse : Type 0 where
  literal_parse : Parse
  kind_parse : LiteralKind → Parse

-- `d` is a derivation of `t` that the parse accepts iff it is a derivation of `t`, and of the kind
-- of the parse if that is for one kind.
abbrev pub IsLiteralOf : Parse → List ℕ → Derivation → Type 0
IsLiteralOf literal_parse t d = IsLiteral t d
IsLiteralOf (kind_parse kind) t d = (literal_kind d ≡ kind) × IsLiteral t d

-- `t` begins a literal of the parse iff `t` followed by some text, which may be empty, is one.
abbrev pub Begins : Parse → List ℕ → Type 0
Begins parse t = BeginsBy (IsLiteralOf parse) t
