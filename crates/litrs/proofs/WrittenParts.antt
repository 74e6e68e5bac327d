-- From parts to text: digits that are grouped anew keep their number, and parts that are put
-- together are a literal with these parts and no others.
use Rattle.std.proofs.Common.{◌≡◌, ℕ, ◌+◌, ◌≤◌, ◌<◌, Bool, true, false, cond, ltb, List, [], ◌∷◌, map, refl, sym, ap, ◌∙◌, arith}
use Rattle.std.specs.Prelude.{filter}
use Rattle.std.specs.Char.{digit_value, to_ascii_lowercase}
use Rattle.std.proofs.lemmas.Bool.{ltb-true, ltb-false, lt-ltb, le-ltb}
use Rattle.std.proofs.lemmas.List.{length-map}
use Rattle.litrs_base.specs.Derivations.{IsOnlyDerivation}
use Rattle.litrs_base.specs.Numeral.{place_sum, is_no_underscore, numeral}
use Rattle.litrs_base.specs.declared.quotes.StringKind.TheVariants.{String as string_kind, ByteString as byte_string_kind, CString as c_string_kind}
use Rattle.litrs_base.specs.declared.quotes.CharKind.TheVariants.{Char as char_kind, Byte as byte_kind}
use Rattle.litrs_grammar.specs.Integer.{IntegerParts, integer_text, IsInteger}
use Rattle.litrs_grammar.specs.Float.{FloatParts, float_text, IsFloat}
use Rattle.litrs_grammar.specs.CharByte.{CharParts, char_text}
use Rattle.litrs_grammar.specs.Literal.{StringParts, IsLiteral, an_integer, a_float, a_char, a_byte, a_string, a_byte_string, a_c_string}
use Rattle.litrs_grammar.specs.LiteralText.{string_text, AreCharParts, AreStringParts}
use Rattle.litrs_grammar.proofs.LiteralTexts.{literals_parse_back}
use Rattle.litrs.specs.Digits.{HaveSameDigits}

upper_value : (c : ℕ) → 65 ≤ c → c < 91 → digit_value (c + 32) ≡ digit_value c
upper_value c above below =
    rw (le-ltb (c + 32) 48 (omega arith)) (rw (le-ltb (c + 32) 58 (omega arith)) (rw (le-ltb (c + 32) 65 (omega arith))
    (rw (le-ltb (c + 32) 91 (omega arith)) (rw (le-ltb (c + 32) 97 (omega arith)) (rw (lt-ltb (c + 32) 123 (omega arith))
    (rw (le-ltb c 48 (omega arith)) (rw (le-ltb c 58 (omega arith)) (rw (le-ltb c 65 above) (rw (lt-ltb c 91 below) (omega arith))))))))))

value_by : (low mid : Bool) (c : ℕ) → ltb c 65 ≡ low → ltb c 91 ≡ mid → digit_value (cond low c (cond mid (c + 32) c)) ≡ digit_value c
value_by true mid c low_is mid_is = refl
value_by false false c low_is mid_is = refl
value_by false true c low_is mid_is = upper_value c (ltb-false c 65 low_is) (ltb-true c 91 mid_is)

-- a digit has the value of the same letter in lower case
lower_value : (c : ℕ) → digit_value (to_ascii_lowercase c) ≡ digit_value c
lower_value c = value_by (ltb c 65) (ltb c 91) c refl refl

lower_sum : (base : ℕ) (t : List ℕ) → place_sum base (map to_ascii_lowercase t) ≡ place_sum base t
unfolding place_sum
lower_sum base [] = refl
lower_sum base (c ∷ t) = rw (lower_value c) (rw (length-map t to_ascii_lowercase) (rw (lower_sum base t) refl))

-- digits that are grouped anew by `_`, or in the other case, keep their number
pub numeral_stays : (base : ℕ) (s t : List ℕ) → HaveSameDigits s t → numeral base s ≡ numeral base t
numeral_stays base s t same =
    sym (lower_sum base (filter is_no_underscore s)) ∙ (ap (place_sum base) same ∙ lower_sum base (filter is_no_underscore t))

-- prefix, digits and suffix: if they are those of an integer, the suffix among them
pub integer_of_parts : (d : IntegerParts) → IsInteger d → IsOnlyDerivation (IsLiteral (integer_text d)) (an_integer d)
integer_of_parts d parts = literals_parse_back (an_integer d) parts

-- the number part and the suffix
pub float_of_parts : (d : FloatParts) → IsFloat d → IsOnlyDerivation (IsLiteral (float_text d)) (a_float d)
float_of_parts d parts = literals_parse_back (a_float d) parts

-- front, item, closing quote and suffix
pub char_of_parts : (d : CharParts) → AreCharParts char_kind d → IsOnlyDerivation (IsLiteral (char_text char_kind d)) (a_char d)
char_of_parts d parts = literals_parse_back (a_char d) parts

pub byte_of_parts : (d : CharParts) → AreCharParts byte_kind d → IsOnlyDerivation (IsLiteral (char_text byte_kind d)) (a_byte d)
byte_of_parts d parts = literals_parse_back (a_byte d) parts

-- front, body, closing and suffix, quoted or raw
pub string_of_parts : (d : StringParts) → AreStringParts string_kind d → IsOnlyDerivation (IsLiteral (string_text string_kind d)) (a_string d)
string_of_parts d parts = literals_parse_back (a_string d) parts

pub byte_string_of_parts : (d : StringParts) → AreStringParts byte_string_kind d → IsOnlyDerivation (IsLiteral (string_text byte_string_kind d)) (a_byte_string d)
byte_string_of_parts d parts = literals_parse_back (a_byte_string d) parts

pub c_string_of_parts : (d : StringParts) → AreStringParts c_string_kind d → IsOnlyDerivation (IsLiteral (string_text c_string_kind d)) (a_c_string d)
c_string_of_parts d parts = literals_parse_back (a_c_string d) parts
