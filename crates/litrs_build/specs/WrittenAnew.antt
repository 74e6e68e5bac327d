-- A literal built from the value of another: it has only the escapes that are needed.
use Rattle.std.specs.Prelude.{◌≡◌, ℕ, List, map, filter, option_map}
use Rattle.std.specs.Char.{to_ascii_lowercase}
use Rattle.std.specs.Str.{chars}
use Rattle.litrs_base.specs.Numeral.{is_no_underscore}
use Rattle.litrs_base.specs.declared.quotes.StringKind.{StringKind}
use Rattle.litrs_base.specs.declared.quotes.StringKind.TheVariants.{String as string_kind, ByteString as byte_string_kind, CString as c_string_kind}
use Rattle.litrs_grammar.specs.CharByte.{CharParts, char_value}
use Rattle.litrs_grammar.specs.Float.{FloatParts}
use Rattle.litrs_grammar.specs.Integer.{integer_value}
use Rattle.litrs_grammar.specs.Literal.{StringParts, quoted_parts, raw_parts, string_value, Derivation, a_bool, an_integer, a_float, a_char, a_byte, a_string, a_byte_string, a_c_string}
use Rattle.litrs_grammar.specs.Quoted.{body_value}
use Rattle.litrs_build.specs.CStrings.{written_c_string}
use Rattle.litrs_build.specs.Raw.{written_raw}
use Rattle.litrs_build.specs.Written.{written_char, written_byte, written_string, written_byte_string}

-- The quoted string of the kind of some bytes.
abbrev pub written_quoted : StringKind → (value suffix : List ℕ) → StringParts
written_quoted string_kind value suffix = written_string (chars value) suffix
written_quoted byte_string_kind value suffix = written_byte_string value suffix
written_quoted c_string_kind value suffix = written_c_string value suffix

-- A quoted string is built from its value. A raw one stays raw, with the least number of hashes.
abbrev pub unescaped_string : StringKind → StringParts → StringParts
unescaped_string kind (quoted_parts d) = written_quoted kind (body_value d.items) d.suffix
unescaped_string kind (raw_parts d) = written_raw d.body d.suffix

-- A char or a byte is built from its value.
abbrev pub unescaped_char : CharParts → CharParts
unescaped_char d = written_char (char_value d.item) d.suffix

abbrev pub unescaped_byte : CharParts → CharParts
unescaped_byte d = written_byte (char_value d.item) d.suffix

-- Bools, integers and floats have no escapes, and are unchanged.
abbrev pub unescaped : Derivation → Derivation
unescaped (a_bool b) = a_bool b
unescaped (an_integer d) = an_integer d
unescaped (a_float d) = a_float d
unescaped (a_char d) = a_char (unescaped_char d)
unescaped (a_byte d) = a_byte (unescaped_byte d)
unescaped (a_string d) = a_string (unescaped_string string_kind d)
unescaped (a_byte_string d) = a_byte_string (unescaped_string byte_string_kind d)
unescaped (a_c_string d) = a_c_string (unescaped_string c_string_kind d)

-- Without `_`, the parts of the floats are the same, but for the case of the letter of the
-- exponent.
pub record HaveSameNumber (d e : FloatParts) : Type 0 where
  pub integer : filter is_no_underscore d.integer ≡ filter is_no_underscore e.integer
  pub fraction : option_map (filter is_no_underscore) d.fraction
      ≡ option_map (filter is_no_underscore) e.fraction
  pub exponent : map to_ascii_lowercase (filter is_no_underscore d.exponent)
      ≡ map to_ascii_lowercase (filter is_no_underscore e.exponent)

-- The literals have the same kind and the same value. Integers also have the same base, and floats
-- the same digits in each part.
abbrev pub HaveSameValue : Derivation → Derivation → Type 0
HaveSameValue (a_bool b) (a_bool c) = b ≡ c
HaveSameValue (an_integer d) (an_integer e) =
    (d.base ≡ e.base) × (integer_value d ≡ integer_value e)
HaveSameValue (a_float d) (a_float e) = HaveSameNumber d e
HaveSameValue (a_char d) (a_char e) = char_value d.item ≡ char_value e.item
HaveSameValue (a_byte d) (a_byte e) = char_value d.item ≡ char_value e.item
HaveSameValue (a_string d) (a_string e) = string_value d ≡ string_value e
HaveSameValue (a_byte_string d) (a_byte_string e) = string_value d ≡ string_value e
HaveSameValue (a_c_string d) (a_c_string e) = string_value d ≡ string_value e
HaveSameValue _ _ = ⊥
