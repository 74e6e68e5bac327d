-- The values of strings, byte strings and C strings.
use Rattle.std.proofs.Common.{◌≡◌, ℕ, ◌<◌, true, false, ◌||◌, List, [], ◌∷◌, ◌++◌, refl, sym, ap, subst, ◌∙◌, arith, append_assoc}
use Rattle.std.specs.Prelude.{◌==◌}
use Rattle.std.specs.List.{list_all}
use Rattle.std.specs.Str.{IsUtf8, encode_utf8_all}
use Rattle.std.proofs.Math.Utf8.{low_scalar}
use Rattle.std.proofs.lemmas.Bool.{and_parts, or_parts, true≢false, ltb-true}
use Rattle.std.proofs.lemmas.List.Folds.{list_all-append}
use Rattle.std.proofs.lemmas.Str.{IsUtf8-encode, IsUtf8-append, IsUtf8-nil, encode_ascii}
use Rattle.litrs_base.specs.Characters.{is_scalar, is_ascii}
use Rattle.litrs_base.specs.declared.quotes.Switches.{Switches}
use Rattle.litrs_base.specs.declared.quotes.StringKind.TheVariants.{String as string_kind, CString as c_string_kind}
use Rattle.litrs_base.specs.Quotes.{switches_of, quoted_front}
use Rattle.litrs_grammar.specs.Escape.{Escape, simple_escape, hex_escape, unicode_escape, escape_text, escape_value, value_bytes, is_escape, is_simple, simple_value, pair_value, hex_value, allows_byte, allows_value}
use Rattle.litrs_grammar.specs.Quoted.{Item, plain_item, escape_item, continuation, item_text, item_value, is_item, body_text, body_value, is_body}
use Rattle.litrs_grammar.specs.Raw.{hashes, raw_closing}
use Rattle.litrs_grammar.specs.Literal.{quoted_parts, raw_parts}
use Rattle.litrs_grammar.specs.Allocation.{has_backslash}
use Rattle.litrs_grammar.specs.Laws.Value.{PlainBodiesAreTheirValues, ValuesWithoutByteEscapesAreUtf8, StringValuesAreUtf8, NoNulInCStrings}
use Rattle.litrs_grammar.proofs.Laws.Escape.{by_simple, inner_of}
use Rattle.litrs_grammar.proofs.Laws.Quoted.{no_nul_in_quoted_c_strings}
use Rattle.litrs_grammar.proofs.RawKinds.{c_string_no_nul}

-- A body without a backslash

escape_has_backslash : (e : Escape) (t : List ℕ) → has_backslash (escape_text e ++ t) ≡ true
escape_has_backslash (simple_escape c) t = refl
escape_has_backslash (hex_escape c d) t = refl
escape_has_backslash (unicode_escape inner) t = refl

plain_value : (items : List Item) → has_backslash (body_text items) ≡ false → body_value items ≡ encode_utf8_all (body_text items)
plain_value [] none = refl
plain_value (plain_item c ∷ items) none =
    ap (λ bs. item_value (plain_item c) ++ bs) (plain_value items (or_parts (c == 92) (has_backslash (body_text items)) none).1)
plain_value (escape_item e ∷ items) none = absurd (true≢false (sym (escape_has_backslash e (body_text items)) ∙ none))
plain_value (continuation blanks ∷ items) none = cc

pub plain_bodies_are_their_values : PlainBodiesAreTheirValues
plain_bodies_are_their_values w t items is none =
    plain_value items (ap has_backslash is.spells ∙ none) ∙ ap encode_utf8_all is.spells

-- UTF-8

utf8_byte : (b : ℕ) → b < 128 → IsUtf8 (b ∷ [])
utf8_byte b low = subst IsUtf8 (encode_ascii b low) (IsUtf8-encode b (low_scalar b (omega arith)))

utf8_escape : (w : Switches) (e : Escape) → w.byte_escapes ≡ false → is_escape w e ≡ true → IsUtf8 (value_bytes (escape_value e))
utf8_escape w (simple_escape c) off h =
    by_simple (λ c. IsUtf8 (simple_value c ∷ [])) c (and_parts (is_simple c) _ h).0
    (utf8_byte 39 (omega arith)) (utf8_byte 34 (omega arith)) (utf8_byte 10 (omega arith)) (utf8_byte 13 (omega arith))
    (utf8_byte 9 (omega arith)) (utf8_byte 92 (omega arith)) (utf8_byte 0 (omega arith))
utf8_escape w (hex_escape c d) off h =
    let p = and_parts _ (allows_value w (pair_value c d)) h in
    let q = and_parts _ (allows_byte w (pair_value c d)) p.0 in
    utf8_byte (pair_value c d) (ltb-true (pair_value c d) 128 (ap (λ b. b || is_ascii (pair_value c d)) (sym off) ∙ q.1))
utf8_escape w (unicode_escape inner) off h = IsUtf8-encode (hex_value inner) (inner_of w inner h).scalar

utf8_body : (w : Switches) (items : List Item) → w.byte_escapes ≡ false → list_all is_scalar (body_text items) ≡ true → is_body w items ≡ true → IsUtf8 (body_value items)
utf8_body w [] off scalars h = IsUtf8-nil
utf8_body w (a ∷ items) off scalars h =
    let p = and_parts _ (is_body w items) h in
    let q = and_parts (is_item w a) _ p.0 in
    let both = and_parts (list_all is_scalar (item_text a)) _ (sym (list_all-append is_scalar (item_text a) (body_text items)) ∙ scalars) in
    IsUtf8-append (item_value a) (body_value items) (of_item a q.0 both.0) (utf8_body w items off both.1 p.1)
  where
    of_item : (a : Item) → is_item w a ≡ true → list_all is_scalar (item_text a) ≡ true → IsUtf8 (item_value a)
    of_item (plain_item c) h scalar = IsUtf8-encode c (and_parts (is_scalar c) true scalar).0
    of_item (escape_item e) h scalar = utf8_escape w e off h
    of_item (continuation blanks) h scalar = IsUtf8-nil

pub values_without_byte_escapes_are_utf8 : ValuesWithoutByteEscapesAreUtf8
values_without_byte_escapes_are_utf8 w t items text off is =
    utf8_body w items off (ap (list_all is_scalar) is.spells ∙ text) is.body

utf8_text : (t : List ℕ) → list_all is_scalar t ≡ true → IsUtf8 (encode_utf8_all t)
utf8_text [] h = IsUtf8-nil
utf8_text (c ∷ t) h =
    let p = and_parts (is_scalar c) (list_all is_scalar t) h in
    IsUtf8-append _ (encode_utf8_all t) (IsUtf8-encode c p.0) (utf8_text t p.1)

-- a part of a text is a text
pub part_is_text : (a b c t : List ℕ) → a ++ (b ++ c) ≡ t → list_all is_scalar t ≡ true → list_all is_scalar b ≡ true
part_is_text a b c t cut h =
    let p = and_parts (list_all is_scalar a) (list_all is_scalar (b ++ c)) (sym (list_all-append is_scalar a (b ++ c)) ∙ ap (list_all is_scalar) cut ∙ h) in
    (and_parts (list_all is_scalar b) (list_all is_scalar c) (sym (list_all-append is_scalar b c) ∙ p.1)).0

pub string_values_are_utf8 : StringValuesAreUtf8
string_values_are_utf8 t (quoted_parts d) text is =
    utf8_body (switches_of string_kind) d.items refl (part_is_text (quoted_front string_kind) (body_text d.items) (34 ∷ d.suffix) t is.spells text) is.body
string_values_are_utf8 t (raw_parts d) text is =
    utf8_text d.body (part_is_text (114 ∷ (hashes d.hash_count ++ 34 ∷ [])) d.body (raw_closing d.hash_count ++ d.suffix) t (ap (λ l. 114 ∷ l) (append_assoc (hashes d.hash_count) (34 ∷ []) (d.body ++ (raw_closing d.hash_count ++ d.suffix))) ∙ is.spells) text)

pub no_nul_in_c_strings : NoNulInCStrings
no_nul_in_c_strings t (quoted_parts d) is =
    no_nul_in_quoted_c_strings (switches_of c_string_kind) (body_text d.items) d.items refl (record { spells = refl; body = is.body })
no_nul_in_c_strings t (raw_parts d) is = c_string_no_nul t d is
