-- The text of a literal from its parts. The Rust Reference, Tokens, Literals.
use Rattle.std.specs.Prelude.{ℕ, List, ◌++◌, IsTrue}
use Rattle.litrs_base.specs.declared.quotes.StringKind.{StringKind}
use Rattle.litrs_base.specs.declared.quotes.StringKind.TheVariants.{String as string_kind, ByteString as byte_string_kind, CString as c_string_kind}
use Rattle.litrs_base.specs.Quotes.{switches_of, quoted_front, raw_front}
use Rattle.litrs_base.specs.declared.quotes.CharKind.{CharKind}
use Rattle.litrs_base.specs.declared.quotes.CharKind.TheVariants.{Char as char_kind, Byte as byte_kind}
use Rattle.litrs_grammar.specs.Suffix.{is_suffix}
use Rattle.litrs_grammar.specs.Bool.{bool_text}
use Rattle.litrs_grammar.specs.Integer.{integer_text, IsInteger}
use Rattle.litrs_grammar.specs.Float.{float_text, IsFloat}
use Rattle.litrs_grammar.specs.CharByte.{CharParts, is_char_item, char_text}
use Rattle.litrs_grammar.specs.Quoted.{quoted_text, is_body}
use Rattle.litrs_grammar.specs.Raw.{raw_text, IsRaw, has_unicode, allows_nul}
use Rattle.litrs_grammar.specs.Literal.{StringParts, quoted_parts, raw_parts, Derivation, a_bool, an_integer, a_float, a_char, a_byte, a_string, a_byte_string, a_c_string}

-- The text of a string of the kind with these parts.
abbrev pub string_text : StringKind → StringParts → List ℕ
string_text kind (quoted_parts d) = quoted_text (quoted_front kind) d
string_text kind (raw_parts d) = raw_front kind ++ raw_text d

-- The text of a literal with this derivation.
abbrev pub literal_text : Derivation → List ℕ
literal_text (a_bool b) = bool_text b
literal_text (an_integer d) = integer_text d
literal_text (a_float d) = float_text d
literal_text (a_char d) = char_text char_kind d
literal_text (a_byte d) = char_text byte_kind d
literal_text (a_string d) = string_text string_kind d
literal_text (a_byte_string d) = string_text byte_string_kind d
literal_text (a_c_string d) = string_text c_string_kind d

-- The parts are those of a char or a byte iff the item is one of the kind and the suffix is a
-- suffix.
abbrev pub AreCharParts : CharKind → CharParts → Type 0
AreCharParts kind d = IsTrue (is_char_item kind d.item) × IsTrue (is_suffix d.suffix)

-- The parts are those of a string of the kind iff the body is one of the kind and the suffix is a
-- suffix.
abbrev pub AreStringParts : StringKind → StringParts → Type 0
AreStringParts kind (quoted_parts d) =
    IsTrue (is_body (switches_of kind) d.items) × IsTrue (is_suffix d.suffix)
AreStringParts kind (raw_parts d) = IsRaw (has_unicode kind) (allows_nul kind) d

-- The parts are those of a literal of their kind iff the grammar of the kind has them.
abbrev pub AreParts : Derivation → Type 0
AreParts (a_bool b) = Unit {0}
AreParts (an_integer d) = IsInteger d
AreParts (a_float d) = IsFloat d
AreParts (a_char d) = AreCharParts char_kind d
AreParts (a_byte d) = AreCharParts byte_kind d
AreParts (a_string d) = AreStringParts string_kind d
AreParts (a_byte_string d) = AreStringParts byte_string_kind d
AreParts (a_c_string d) = AreStringParts c_string_kind d
