-- The sizes of a literal and its parts in bytes.
use Rattle.std.proofs.Common.{◌≡◌, ℕ, ◌+◌, List, [], ◌∷◌, ◌++◌, length, sym, ap, ◌∙◌, append_assoc, append-nil, arith}
use Rattle.std.specs.Str.{chars, IsUtf8}
use Rattle.std.proofs.lemmas.Str.{encodes-chars}
use Rattle.litrs_base.specs.Base.{prefix}
use Rattle.litrs_base.specs.Text.{byte_len}
use Rattle.litrs_base.proofs.Spans.{byte_len-append}
use Rattle.litrs_base.specs.declared.quotes.CharKind.TheVariants.{Char as char_kind, Byte as byte_kind}
use Rattle.litrs_base.specs.Quotes.{char_front, quoted_front, raw_front}
use Rattle.litrs_base.specs.declared.quotes.StringKind.{StringKind}
use Rattle.litrs_base.specs.declared.quotes.StringKind.TheVariants.{String as string_kind, ByteString as byte_string_kind, CString as c_string_kind}
use Rattle.litrs_grammar.specs.CharByte.{char_item_text}
use Rattle.litrs_grammar.specs.Float.{fraction_text}
use Rattle.litrs_grammar.specs.Literal.{StringParts, quoted_parts, raw_parts, IsString, string_suffix, Derivation, a_bool, an_integer, a_float, a_char, a_byte, a_string, a_byte_string, a_c_string, IsLiteral, suffix_of}
use Rattle.litrs_grammar.specs.Quoted.{body_text}
use Rattle.litrs_grammar.specs.Raw.{hashes, raw_closing}

-- the bytes of a text are as many as its characters take
pub length-chars : (bytes t : List ℕ) → IsUtf8 bytes → chars bytes ≡ t → length bytes ≡ byte_len t
length-chars bytes t utf8 is = ap length (sym (encodes-chars bytes utf8)) ∙ ap byte_len is

-- some text is before the end
abbrev Ends : List ℕ → List ℕ → Type 0
Ends t end = (front : List ℕ) × (front ++ end ≡ t)

ends_after : (a b end t : List ℕ) → a ++ (b ++ end) ≡ t → Ends t end
ends_after a b end t spells = (a ++ b, append_assoc a b end ∙ spells)

ends_after_three : (a b c end t : List ℕ) → a ++ (b ++ (c ++ end)) ≡ t → Ends t end
ends_after_three a b c end t spells = (a ++ (b ++ c), simp append_assoc spells)

ends_after_quote : (a b : List ℕ) (quote : ℕ) (end t : List ℕ) → a ++ (b ++ quote ∷ end) ≡ t → Ends t end
ends_after_quote a b quote end t spells = ends_after_three a b (quote ∷ []) end t spells

ends_after_raw : (a b : List ℕ) (quote : ℕ) (body closing end t : List ℕ) → a ++ (b ++ (quote ∷ (body ++ (closing ++ end)))) ≡ t → Ends t end
ends_after_raw a b quote body closing end t spells = (a ++ (b ++ (quote ∷ (body ++ closing))), simp append_assoc spells)

string_ends : (kind : StringKind) (t : List ℕ) (d : StringParts) → IsString kind t d → Ends t (string_suffix d)
string_ends kind t (quoted_parts d) is = ends_after_quote (quoted_front kind) (body_text d.items) 34 d.suffix t is.spells
string_ends kind t (raw_parts d) is = ends_after_raw (raw_front kind) (hashes d.hash_count) 34 d.body (raw_closing d.hash_count) d.suffix t is.spells

-- a literal ends with its suffix
literal_ends : (t : List ℕ) (d : Derivation) → IsLiteral t d → Ends t (suffix_of d)
literal_ends t (a_bool b) is = (t, append-nil t)
literal_ends t (an_integer d) is = ends_after (prefix d.base) d.main d.suffix t is.spells
literal_ends t (a_float d) is = ends_after_three d.integer (fraction_text d.fraction) d.exponent d.suffix t is.spells
literal_ends t (a_char d) is = ends_after_quote (char_front char_kind) (char_item_text d.item) 39 d.suffix t is.spells
literal_ends t (a_byte d) is = ends_after_quote (char_front byte_kind) (char_item_text d.item) 39 d.suffix t is.spells
literal_ends t (a_string d) is = string_ends string_kind t d is
literal_ends t (a_byte_string d) is = string_ends byte_string_kind t d is
literal_ends t (a_c_string d) is = string_ends c_string_kind t d is

-- The size of the text before the suffix of a literal, in bytes.
pub suffix_fits : (bytes suffix : List ℕ) (d : Derivation) → IsUtf8 bytes → IsUtf8 suffix →
    chars suffix ≡ suffix_of d → IsLiteral (chars bytes) d → (front : ℕ) × (front + length suffix ≡ length bytes) × (length suffix ≡ byte_len (suffix_of d))
suffix_fits bytes suffix d utf8 suffix_utf8 is literal =
    let ends = literal_ends (chars bytes) d literal in
    let size : length suffix ≡ byte_len (suffix_of d) = length-chars suffix (suffix_of d) suffix_utf8 is in
    let whole : length bytes ≡ byte_len ends.0 + byte_len (suffix_of d) =
    length-chars bytes (ends.0 ++ suffix_of d) utf8 (sym ends.1) ∙ byte_len-append ends.0 (suffix_of d) in
    (byte_len ends.0, omega arith, size)

-- the sizes of a front and of a part after it
pub byte_len-after : (a b c : List ℕ) → byte_len (a ++ (b ++ c)) ≡ byte_len (a ++ b) + byte_len c
byte_len-after a b c = ap byte_len (sym (append_assoc a b c)) ∙ byte_len-append (a ++ b) c
