-- Literals of any kind.
use Rattle.std.specs.Prelude.{◌≡◌, ℕ, Bool, true, false, List, ⊤}
use Rattle.litrs.specs.declared.Literal.{Literal}
use Rattle.litrs.specs.declared.Literal.TheVariants.{Bool as bool_literal, Integer, Float, Char, String, Byte, ByteString, CString}
use Rattle.litrs_grammar.specs.Bool.{bool_text}
use Rattle.litrs.specs.BoolLiteral.{bool_value}
use Rattle.litrs.specs.IntegerLiteral.{integer_parts}
use Rattle.litrs.specs.FloatLiteral.{float_parts}
use Rattle.litrs.specs.CharLiteral.{char_parts, byte_parts}
use Rattle.litrs_grammar.specs.Literal.{Derivation, a_bool, an_integer, a_float, a_char, a_byte, a_string, a_byte_string, a_c_string}

-- The bytes of the text of a literal.
abbrev pub literal_raw : {B : Type 0} → Literal B → List ℕ
literal_raw (bool_literal b) = bool_text (bool_value b)
literal_raw (Integer lit) = lit.raw
literal_raw (Float lit) = lit.raw
literal_raw (Char lit) = lit.raw
literal_raw (String lit) = lit.raw
literal_raw (Byte lit) = lit.raw
literal_raw (ByteString lit) = lit.raw
literal_raw (CString lit) = lit.raw

-- The derivation of a literal.
abbrev pub derivation : {B : Type 0} → Literal B → Derivation
derivation (bool_literal b) = a_bool (bool_value b)
derivation (Integer lit) = an_integer (integer_parts lit)
derivation (Float lit) = a_float (float_parts lit)
derivation (Char lit) = a_char (char_parts lit)
derivation (String lit) = a_string lit.parts
derivation (Byte lit) = a_byte (byte_parts lit)
derivation (ByteString lit) = a_byte_string lit.parts
derivation (CString lit) = a_c_string lit.parts

-- The buffer of the literal, unless it is a bool.
abbrev pub HasBuffer : {B : Type 0} → B → Literal B → Type 0
HasBuffer buffer (bool_literal b) = ⊤
HasBuffer buffer (Integer lit) = lit.buffer ≡ buffer
HasBuffer buffer (Float lit) = lit.buffer ≡ buffer
HasBuffer buffer (Char lit) = lit.buffer ≡ buffer
HasBuffer buffer (String lit) = lit.buffer ≡ buffer
HasBuffer buffer (Byte lit) = lit.buffer ≡ buffer
HasBuffer buffer (ByteString lit) = lit.buffer ≡ buffer
HasBuffer buffer (CString lit) = lit.buffer ≡ buffer

-- `true` for a bool.
abbrev pub is_bool_literal : {B : Type 0} → Literal B → Bool
is_bool_literal (bool_literal b) = true
is_bool_literal lit = false
