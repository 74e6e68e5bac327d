-- The text of a literal: what it begins with, the body, the closing quote and the suffix.
use Rattle.std.proofs.Common.{◌≡◌, ℕ, ◌<◌, Bool, true, List, [], ◌∷◌, ◌++◌, get_or, length, refl, sym, ap, ◌∙◌, arith, suc}
use Rattle.std.specs.Prelude.{IsTrue}
use Rattle.std.specs.Char.{encode_utf8}
use Rattle.std.specs.Str.{chars, IsUtf8, encode_utf8_all}
use Rattle.std.proofs.lemmas.Bool.{and_from, and_parts}
use Rattle.std.proofs.lemmas.List.{append_assoc, append-nil, nil_from_length}
use Rattle.std.proofs.lemmas.Str.{encodes-append, encodes-chars, chars-encodes, scalars-chars, encode_ascii, chars-nil, chars_past_char}
use lib.Utf8.{scalar, scalars, low_scalar}
use Rattle.litrs_grammar.specs.Suffix.{is_suffix}
use Rattle.litrs_base.specs.Quotes.{string_switches, byte_string_switches, char_front}
use Rattle.litrs_base.specs.declared.quotes.StringKind.TheVariants.{String as string_kind, ByteString as byte_string_kind}
use Rattle.litrs_base.specs.declared.quotes.CharKind.{CharKind}
use Rattle.litrs_base.specs.declared.quotes.CharKind.TheVariants.{Char as char_kind, Byte as byte_kind}
use Rattle.litrs_grammar.specs.CharByte.{char_text, IsCharLiteral}
use Rattle.litrs_grammar.specs.Quoted.{item_text, body_text, body_value, is_body}
use Rattle.litrs_grammar.specs.Literal.{IsString, string_value}
use Rattle.litrs_build.specs.declared.spelling.Spelling.{Spelling}
use Rattle.litrs_build.specs.Spelling.{char_spelling, byte_spelling, is_escaped, spelled_item, spelled_char}
use Rattle.litrs_build.specs.Written.{written_char, written_byte, char_items, byte_items, written_string, written_byte_string}
use Rattle.litrs_build.proofs.Spellings.{scalars_append, char_text_scalars, byte_text_scalars, spelled_free, string_item, string_item_value, byte_string_item, byte_string_item_value, char_item, byte_item, same_text}

regroup : (f t s : List ℕ) (q : ℕ) → ((f ++ t) ++ q ∷ []) ++ s ≡ f ++ (t ++ q ∷ s)
regroup f t s q = simp append_assoc

-- the characters of the bytes
pub closed_chars : (q : ℕ) (front f t suffix bytes : List ℕ) → q < 128 → encode_utf8_all front ≡ f →
    scalars front ≡ true → scalars t ≡ true →
    IsUtf8 suffix → bytes ≡ ((f ++ encode_utf8_all t) ++ q ∷ []) ++ suffix →
    chars bytes ≡ front ++ (t ++ q ∷ chars suffix)
closed_chars q front f t suffix bytes low front_is front_scalars t_scalars u is =
    let all = front ++ (t ++ q ∷ chars suffix) in
    let last : encode_utf8_all (q ∷ chars suffix) ≡ q ∷ suffix =
    ap (λ (x : List ℕ). x ++ encode_utf8_all (chars suffix)) (encode_ascii q low)
    ∙ ap (λ (x : List ℕ). q ∷ x) (encodes-chars suffix u) in
    let coded : encode_utf8_all all ≡ f ++ (encode_utf8_all t ++ q ∷ suffix) =
    encodes-append front (t ++ q ∷ chars suffix)
    ∙ (ap (λ (x : List ℕ). x ++ encode_utf8_all (t ++ q ∷ chars suffix)) front_is
    ∙ ap (λ (x : List ℕ). f ++ x) (encodes-append t (q ∷ chars suffix)
    ∙ ap (λ (x : List ℕ). encode_utf8_all t ++ x) last)) in
    let end : scalars (q ∷ chars suffix)
    ≡ true = and_from _ _ (low_scalar q (omega arith)) (scalars-chars suffix u) in
    ap chars (is ∙ (regroup f (encode_utf8_all t) suffix q ∙ sym coded))
    ∙ chars-encodes all (scalars_append front (t ++ q ∷ chars suffix) front_scalars
    (scalars_append t (q ∷ chars suffix) t_scalars end))

-- Chars and bytes

-- a text that is written with this spelling
abbrev pub spelled_bytes : List ℕ → Spelling → List ℕ → List ℕ
spelled_bytes front s suffix = ((front ++ encode_utf8_all (item_text (spelled_item s))) ++ 39 ∷ [])
    ++ suffix

char_spells : (kind : CharKind) (s : Spelling) (suffix bytes : List ℕ) →
    encode_utf8_all (char_front kind) ≡ char_front kind →
    scalars (char_front kind) ≡ true → scalars (item_text (spelled_item s)) ≡ true → IsUtf8 suffix →
    bytes ≡ spelled_bytes (char_front kind) s suffix →
    char_text kind (record { item = spelled_char s; suffix = chars suffix }) ≡ chars bytes
char_spells kind s suffix bytes front_is front_scalars all u is =
    ap (λ (x : List ℕ). char_front kind ++ (x ++ 39 ∷ chars suffix)) (same_text s)
    ∙ sym (closed_chars 39 (char_front kind) (char_front kind)
    (item_text (spelled_item s)) suffix bytes (omega arith) front_is front_scalars all u is)

pub char_derives : (c : ℕ) (s : Spelling) (suffix bytes : List ℕ) → scalar c ≡ true →
    s ≡ char_spelling 39 true c → IsUtf8 suffix →
    IsTrue (is_suffix (chars suffix)) → bytes ≡ spelled_bytes (39 ∷ []) s suffix →
    IsCharLiteral char_kind (chars bytes) (written_char c (chars suffix))
unfolding encode_utf8
char_derives c s suffix bytes e spelling u is_suffix is = record {
  spells = char_spells char_kind (char_spelling 39 true c) suffix bytes refl refl
      (char_text_scalars true c 39 e) u
      (is ∙ ap (λ (v : Spelling). spelled_bytes (39 ∷ []) v suffix) spelling);
  item = char_item c e;
  suffix = is_suffix;
}

pub byte_derives : (b : ℕ) (s : Spelling) (suffix bytes : List ℕ) → b < 256 →
    s ≡ byte_spelling 39 b → IsUtf8 suffix →
    IsTrue (is_suffix (chars suffix)) → bytes ≡ spelled_bytes (98 ∷ 39 ∷ []) s suffix →
    IsCharLiteral byte_kind (chars bytes) (written_byte b (chars suffix))
unfolding encode_utf8
byte_derives b s suffix bytes small spelling u is_suffix is = record {
  spells = char_spells byte_kind (byte_spelling 39 b) suffix bytes refl refl
      (byte_text_scalars b 39 small) u
      (is ∙ ap (λ (v : Spelling). spelled_bytes (98 ∷ 39 ∷ []) v suffix) spelling);
  item = byte_item b small;
  suffix = is_suffix;
}

-- Strings

chars_scalars : (m : Bool) (cs : List ℕ) → scalars cs ≡ true →
    scalars (body_text (char_items m cs)) ≡ true
chars_scalars m [] e = refl
chars_scalars m (c ∷ cs) e =
    let both = and_parts (scalar c) (scalars cs) e in
    let s = char_spelling 34 m c in
    scalars_append (item_text (spelled_item s)) (body_text (char_items (is_escaped s) cs))
    (char_text_scalars m c 34 both.0) (chars_scalars (is_escaped s) cs both.1)

chars_body : (m : Bool) (cs : List ℕ) → scalars cs ≡ true →
    is_body string_switches (char_items m cs) ≡ true
chars_body m [] e = refl
chars_body m (c ∷ cs) e =
    let both = and_parts (scalar c) (scalars cs) e in
    let s = char_spelling 34 m c in
    and_from _ _ (and_from _ _ (string_item m c both.0)
    (spelled_free s (body_text (char_items (is_escaped s) cs))))
    (chars_body (is_escaped s) cs both.1)

pub chars_value : (m : Bool) (cs : List ℕ) → scalars cs ≡ true →
    body_value (char_items m cs) ≡ encode_utf8_all cs
chars_value m [] e = refl
chars_value m (c ∷ cs) e =
    let both = and_parts (scalar c) (scalars cs) e in
    let s = char_spelling 34 m c in
    ap (λ (x : List ℕ). x ++ body_value (char_items (is_escaped s) cs))
    (string_item_value m c both.0)
    ∙ ap (λ (x : List ℕ). encode_utf8 c ++ x) (chars_value (is_escaped s) cs both.1)

pub string_derives : (value suffix bytes : List ℕ) → IsUtf8 value → IsUtf8 suffix →
    IsTrue (is_suffix (chars suffix)) →
    bytes ≡ ((34 ∷ [] ++ encode_utf8_all (body_text (char_items true (chars value)))) ++ 34 ∷ [])
    ++ suffix →
    IsString string_kind (chars bytes) (written_string (chars value) (chars suffix))
unfolding encode_utf8
string_derives value suffix bytes v u is_suffix is =
    let e = scalars-chars value v in record {
      spells = sym (closed_chars 34 (34 ∷ []) (34 ∷ [])
          (body_text (char_items true (chars value))) suffix bytes (omega arith) refl refl
          (chars_scalars true (chars value) e) u is);
      body = chars_body true (chars value) e;
      suffix = is_suffix;
    }

pub written_string-value : (value suffix : List ℕ) → IsUtf8 value →
    string_value (written_string (chars value) (chars suffix)) ≡ value
written_string-value value suffix v = chars_value true (chars value) (scalars-chars value v)
    ∙ encodes-chars value v

-- Byte strings

bytes_scalars : (bs : List ℕ) → ((i : ℕ) → get_or bs i 0 < 256) →
    scalars (body_text (byte_items bs)) ≡ true
bytes_scalars [] small = refl
bytes_scalars (b ∷ bs) small =
    scalars_append (item_text (spelled_item (byte_spelling 34 b))) (body_text (byte_items bs))
    (byte_text_scalars b 34 (small 0)) (bytes_scalars bs (λ i. small (suc i)))

bytes_body : (bs : List ℕ) → ((i : ℕ) → get_or bs i 0 < 256) →
    is_body byte_string_switches (byte_items bs) ≡ true
bytes_body [] small = refl
bytes_body (b ∷ bs) small =
    and_from _ _ (and_from _ _ (byte_string_item b (small 0))
    (spelled_free (byte_spelling 34 b) (body_text (byte_items bs))))
    (bytes_body bs (λ i. small (suc i)))

bytes_value : (bs : List ℕ) → ((i : ℕ) → get_or bs i 0 < 256) → body_value (byte_items bs) ≡ bs
bytes_value [] small = refl
bytes_value (b ∷ bs) small =
    ap (λ (x : List ℕ). x ++ body_value (byte_items bs)) (byte_string_item_value b (small 0))
    ∙ ap (λ (x : List ℕ). b ∷ x) (bytes_value bs (λ i. small (suc i)))

pub byte_string_derives : (value suffix bytes : List ℕ) → ((i : ℕ) → get_or value i 0 < 256) →
    IsUtf8 suffix → IsTrue (is_suffix (chars suffix)) →
    bytes ≡ ((98 ∷ 34 ∷ [] ++ encode_utf8_all (body_text (byte_items value))) ++ 34 ∷ [])
    ++ suffix →
    IsString byte_string_kind (chars bytes) (written_byte_string value (chars suffix))
unfolding encode_utf8
byte_string_derives value suffix bytes small u is_suffix is = record {
  spells = sym (closed_chars 34 (98 ∷ 34 ∷ []) (98 ∷ 34 ∷ [])
      (body_text (byte_items value)) suffix bytes (omega arith) refl refl
      (bytes_scalars value small) u is);
  body = bytes_body value small;
  suffix = is_suffix;
}

pub written_byte_string-value : (value suffix : List ℕ) → ((i : ℕ) → get_or value i 0 < 256) →
    string_value (written_byte_string value suffix) ≡ value
written_byte_string-value value suffix small = bytes_value value small

-- Characters one by one

pub chars_step : (total text new rest later : List ℕ) (m after : Bool) (c : ℕ) (s : Spelling) →
    IsUtf8 rest → rest ≡ encode_utf8 c ++ later →
    s ≡ char_spelling 34 m c → after ≡ is_escaped s →
    new ≡ text ++ encode_utf8_all (item_text (spelled_item s)) →
    text ++ encode_utf8_all (body_text (char_items m (chars rest))) ≡ total →
    new ++ encode_utf8_all (body_text (char_items after (chars later))) ≡ total
chars_step total text new rest later m after c s u step spelling escaped is whole =
    let spelled = char_spelling 34 m c in
    let item = item_text (spelled_item spelled) in
    let others = body_text (char_items (is_escaped spelled) (chars later)) in
    ap (λ (x : List ℕ). x ++ encode_utf8_all (body_text (char_items after (chars later))))
    (is ∙ ap (λ (v : Spelling). text ++ encode_utf8_all (item_text (spelled_item v))) spelling)
    ∙ (ap (λ (b : Bool). (text ++ encode_utf8_all item)
    ++ encode_utf8_all (body_text (char_items b (chars later)))) (escaped ∙ ap is_escaped spelling)
    ∙ (append_assoc text (encode_utf8_all item) (encode_utf8_all others)
    ∙ (ap (λ (x : List ℕ). text ++ x) (sym (encodes-append item others))
    ∙ (ap (λ (t : List ℕ). text ++ encode_utf8_all (body_text (char_items m t)))
    (sym (chars_past_char rest later c u step)) ∙ whole))))

pub chars_end : (total text rest : List ℕ) (m : Bool) → length rest ≡ 0 →
    text ++ encode_utf8_all (body_text (char_items m (chars rest))) ≡ total → text ≡ total
chars_end total text rest m none whole =
    sym (append-nil text)
    ∙ (ap (λ (t : List ℕ). text ++ encode_utf8_all (body_text (char_items m t)))
    (sym (ap chars (nil_from_length rest none) ∙ chars-nil)) ∙ whole)

-- Bytes, at the end

pub bytes_end : (total text rest : List ℕ) → length rest ≡ 0 →
    text ++ encode_utf8_all (body_text (byte_items rest)) ≡ total → text ≡ total
bytes_end total text rest none whole =
    sym (append-nil text)
    ∙ (ap (λ (t : List ℕ). text ++ encode_utf8_all (body_text (byte_items t)))
    (sym (nil_from_length rest none)) ∙ whole)
