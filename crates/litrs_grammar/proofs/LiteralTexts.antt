-- Literals are written as their parts are, and parts parse back.
use Rattle.std.proofs.Common.{◌≡◌, ℕ, List, ◌++◌, ◌∷◌, refl, ap}
use Rattle.std.specs.Prelude.{◌↔◌}
use Rattle.litrs_base.specs.declared.quotes.StringKind.{StringKind}
use Rattle.litrs_base.specs.declared.quotes.StringKind.TheVariants.{String as string_kind, ByteString as byte_string_kind, CString as c_string_kind}
use Rattle.litrs_base.specs.declared.quotes.CharKind.{CharKind}
use Rattle.litrs_base.specs.declared.quotes.CharKind.TheVariants.{Char as char_kind, Byte as byte_kind}
use Rattle.litrs_grammar.specs.CharByte.{CharParts, char_text, IsCharLiteral}
use Rattle.litrs_grammar.specs.Literal.{StringParts, quoted_parts, raw_parts, IsString, a_bool, an_integer, a_float, a_char, a_byte, a_string, a_byte_string, a_c_string, IsLiteral}
use Rattle.litrs_grammar.specs.LiteralText.{string_text, literal_text, AreCharParts, AreStringParts}
use Rattle.litrs_grammar.specs.Laws.LongerTexts.{LiteralsAreWritten, LiteralsParseBack, JoinedBodiesAreQuoted}
use Rattle.litrs_grammar.proofs.Laws.Literal.{literals_are_unique}
use Rattle.litrs_grammar.proofs.Laws.Quoted.{quoted_bodies_join}

char_written : (kind : CharKind) (t : List ℕ) (d : CharParts) → IsCharLiteral kind t d ↔ ((char_text kind d ≡ t) × AreCharParts kind d)
char_written kind t d = (λ r. (r.spells, (r.item, r.suffix)), λ h. record { spells = h.0; item = h.1.0; suffix = h.1.1 })

string_written : (kind : StringKind) (t : List ℕ) (d : StringParts) → IsString kind t d ↔ ((string_text kind d ≡ t) × AreStringParts kind d)
string_written kind t (quoted_parts d) = (λ r. (r.spells, (r.body, r.suffix)), λ h. record { spells = h.0; body = h.1.0; suffix = h.1.1 })
string_written kind t (raw_parts d) = (λ r. (r.spells, r.grammar), λ h. record { spells = h.0; grammar = h.1 })

pub literals_are_written : LiteralsAreWritten
literals_are_written t (a_bool b) = (λ r. (r, tt), λ h. h.0)
literals_are_written t (an_integer d) = (λ r. (r.spells, r.grammar), λ h. record { spells = h.0; grammar = h.1 })
literals_are_written t (a_float d) = (λ r. (r.spells, r.grammar), λ h. record { spells = h.0; grammar = h.1 })
literals_are_written t (a_char d) = char_written char_kind t d
literals_are_written t (a_byte d) = char_written byte_kind t d
literals_are_written t (a_string d) = string_written string_kind t d
literals_are_written t (a_byte_string d) = string_written byte_string_kind t d
literals_are_written t (a_c_string d) = string_written c_string_kind t d

pub literals_parse_back : LiteralsParseBack
literals_parse_back d parts =
    let is : IsLiteral (literal_text d) d = (literals_are_written (literal_text d) d).1 (refl, parts) in
    (is, λ e other. literals_are_unique (literal_text d) e d other is)

pub joined_bodies_are_quoted : JoinedBodiesAreQuoted
joined_bodies_are_quoted front w a b suffix items others first second apart is_suffix =
    let both = (quoted_bodies_join w a b items others first second apart).0 in
    record { spells = ap (λ l. front ++ (l ++ 34 ∷ suffix)) both.spells; body = both.body; suffix = is_suffix }
