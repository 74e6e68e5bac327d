-- C strings: the items of bytes are a body, whose value is the bytes.
use Rattle.std.proofs.Common.{◌≡◌, ℕ, zero, suc, ◌+◌, ◌-◌, ◌≤◌, ◌<◌, Bool, true, false, not, ◌||◌, cond, eqb, ltb, List, [], ◌∷◌, ◌++◌, length, take, drop, get_or, refl, sym, ap, subst, ◌∙◌, arith, length-append}
use Rattle.std.specs.Prelude.{Option, Some, None, slice_get, position, if◌then◌else◌}
use Rattle.std.specs.Char.{encode_utf8, len_utf8}
use Rattle.std.specs.List.{list_any, prefix_len, position_or_len}
use Rattle.std.specs.Str.{chars, IsUtf8, is_utf8, encode_utf8_all, continuation_len}
use Rattle.std.proofs.lemmas.Bool.{and_from, and_parts, cond-true, cond-false, false_from_ne_true, eqb-false, ne_eqb, ltb-false}
use Rattle.std.proofs.lemmas.List.{append_assoc, append-nil, take-append-drop, nil_from_length}
use Rattle.std.proofs.lemmas.Str.{encodes-append, encodes-chars, scalars-chars, is_utf8-from_IsUtf8, IsUtf8-from_is_utf8, drop_past_char, length-encode, len_utf8_bounds}
use lib.Utf8.{scalar, scalars}
use Rattle.litrs_base.specs.Quotes.{c_string_switches}
use Rattle.litrs_base.specs.declared.quotes.StringKind.TheVariants.{CString as c_string_kind}
use Rattle.litrs_grammar.specs.Suffix.{is_suffix}
use Rattle.litrs_grammar.specs.Raw.{is_nul}
use Rattle.litrs_grammar.specs.Quoted.{Item, item_text, item_value, is_item, body_text, body_value, is_body}
use Rattle.litrs_grammar.specs.Literal.{IsString, string_value}
use Rattle.litrs_build.specs.declared.error.BuildError.TheVariants.{NotASuffix}
use Rattle.litrs_build.specs.declared.spelling.Spelling.{Spelling}
use Rattle.litrs_build.specs.Spelling.{is_escaped, spelled_item}
use Rattle.litrs_build.specs.CStrings.{first_char, spelling_or_byte, len_or_byte, c_items, written_c_string, nul_error, c_string_error}
use Rattle.litrs_build.proofs.Spellings.{or_false, pair_is, hex_text, char_text_scalars, scalars_append, spelled_free, string_item_value, c_string_item, c_byte_item}
use Rattle.litrs_build.proofs.Texts.{closed_chars}

-- The first character

first_of : (c : ℕ) (t : List ℕ) → slice_get t 0 ≡ Some c → (rest : List ℕ) × (t ≡ c ∷ rest)
first_of c [] e = absurd cc
first_of c (d ∷ t) e = let same : d ≡ c = cc in (t, ap (λ (x : ℕ). x ∷ t) same)

-- the bytes begin with the UTF-8 of a character
record Begins (bytes : List ℕ) (c : ℕ) : Type 0 where
  rest : List ℕ
  spells : bytes ≡ encode_utf8 c ++ rest
  is_scalar : scalar c ≡ true

front_begins : (front more : List ℕ) (c : ℕ) (t : Bool) → is_utf8 front ≡ t →
    cond t (slice_get (chars front) 0) None ≡ Some c → Begins (front ++ more) c
front_begins front more c false u e = absurd cc
front_begins front more c true u e =
    let utf8 = IsUtf8-from_is_utf8 front u in
    let first = first_of c (chars front) e in
    let coded : encode_utf8 c ++ encode_utf8_all first.0 ≡ front = ap encode_utf8_all (sym first.1)
    ∙ encodes-chars front utf8 in
    let all : scalars (c ∷ first.0) ≡ true = ap scalars (sym first.1)
    ∙ scalars-chars front utf8 in record {
      rest = encode_utf8_all first.0 ++ more;
      spells = ap (λ (x : List ℕ). x ++ more) (sym coded)
          ∙ append_assoc (encode_utf8 c) (encode_utf8_all first.0) more;
      is_scalar = (and_parts (scalar c) (scalars first.0) all).0;
    }

first_begins : (b c : ℕ) (bs : List ℕ) → first_char (b ∷ bs) ≡ Some c → Begins (b ∷ bs) c
unfolding first_char
first_begins b c bs e =
    let n = 1 + continuation_len b in
    subst (λ (l : List ℕ). Begins l c) (take-append-drop n (b ∷ bs))
    (front_begins (take n (b ∷ bs)) (drop n (b ∷ bs)) c (is_utf8 (take n (b ∷ bs))) refl e)

len_positive : (o : Option ℕ) → 1 ≤ len_or_byte o
len_positive (Some c) = (len_utf8_bounds c).0
len_positive None = omega arith

drop_before : (n b : ℕ) (bs : List ℕ) → 1 ≤ n → drop (n - 1) bs ≡ drop n (b ∷ bs)
drop_before zero b bs some = absurd (omega arith)
drop_before (suc n) b bs some = let less : suc n - 1
    ≡ n = omega arith in ap (λ (k : ℕ). drop k bs) less

drop_first : (b c : ℕ) (bs : List ℕ) (begins : Begins (b ∷ bs) c) →
    drop (len_utf8 c - 1) bs ≡ begins.rest
drop_first b c bs begins =
    let n = len_utf8 c in
    let same : n ≡ 0 + n = omega arith in
    drop_before n b bs (len_utf8_bounds c).0
    ∙ (ap (λ (k : ℕ). drop k (b ∷ bs)) same ∙ drop_past_char (b ∷ bs) begins.rest 0 c begins.spells)

first_len : (o : Option ℕ) (b : ℕ) (bs : List ℕ) → first_char (b ∷ bs) ≡ o →
    len_or_byte o ≤ length (b ∷ bs)
first_len None b bs e = omega arith
first_len (Some c) b bs e =
    let begins = first_begins b c bs e in
    let size = length-encode c in
    let parts : length (b ∷ bs)
    ≡ length (encode_utf8 c) + length begins.rest = ap length begins.spells
    ∙ length-append (encode_utf8 c) begins.rest in
    omega (arith, size, parts)

pub len_within : (bytes : List ℕ) (c : ℕ) → 0 < length bytes → first_char bytes ≡ Some c →
    len_utf8 c ≤ length bytes
len_within [] c some e = absurd (omega arith)
len_within (b ∷ bs) c some e = first_len (Some c) b bs e

-- the code finds the first character

pub first_read : (bytes front : List ℕ) (len : ℕ) → 0 < length bytes → front ≡ take len bytes →
    len ≡ 1 + continuation_len (get_or bytes 0 0) →
    IsUtf8 front → slice_get (chars front) 0 ≡ first_char bytes
unfolding first_char
first_read [] front len some cut size u = absurd (omega arith)
first_read (b ∷ bs) front len some cut size u =
    let n = 1 + continuation_len b in
    let same : front ≡ take n (b ∷ bs) = cut ∙ ap (λ (k : ℕ). take k (b ∷ bs)) size in
    let passes : is_utf8 (take n (b ∷ bs)) ≡ true = ap is_utf8 (sym same)
    ∙ is_utf8-from_IsUtf8 front u in
    ap (λ (t : List ℕ). slice_get (chars t) 0) same
    ∙ sym (cond-true (is_utf8 (take n (b ∷ bs)))
    (slice_get (chars (take n (b ∷ bs))) 0) None passes)

pub first_none : (bytes front : List ℕ) (len : ℕ) → 0 < length bytes → front ≡ take len bytes →
    len ≡ 1 + continuation_len (get_or bytes 0 0) →
    (IsUtf8 front → ⊥) → None ≡ first_char bytes
unfolding first_char
first_none [] front len some cut size none = absurd (omega arith)
first_none (b ∷ bs) front len some cut size none =
    let n = 1 + continuation_len b in
    let same : front ≡ take n (b ∷ bs) = cut ∙ ap (λ (k : ℕ). take k (b ∷ bs)) size in
    let fails : is_utf8 (take n (b ∷ bs)) ≡ false = false_from_ne_true (is_utf8 (take n (b ∷ bs)))
    (λ passes. none (IsUtf8-from_is_utf8 front (ap is_utf8 same ∙ passes))) in
    sym (cond-false (is_utf8 (take n (b ∷ bs))) (slice_get (chars (take n (b ∷ bs))) 0) None fails)

-- The value

first_value : (m : Bool) (b : ℕ) (bs : List ℕ) (o : Option ℕ) → b < 256 → first_char (b ∷ bs) ≡ o →
    ((k : ℕ) (after : Bool) → body_value (c_items k after bs) ≡ drop k bs) →
    item_value (spelled_item (spelling_or_byte m b o))
    ++ body_value (c_items (len_or_byte o - 1) (is_escaped (spelling_or_byte m b o)) bs) ≡ b ∷ bs
first_value m b bs None small e more =
    ap (λ (v : ℕ). v ∷ body_value (c_items 0 true bs)) (pair_is b small)
    ∙ ap (λ (l : List ℕ). b ∷ l) (more 0 true)
first_value m b bs (Some c) small e more =
    let begins = first_begins b c bs e in
    let after = is_escaped (spelling_or_byte m b (Some c)) in
    ap (λ (l : List ℕ). l ++ body_value (c_items (len_utf8 c - 1) after bs))
    (string_item_value m c begins.is_scalar)
    ∙ (ap (λ (l : List ℕ). encode_utf8 c ++ l) (more (len_utf8 c - 1) after
    ∙ drop_first b c bs begins) ∙ sym begins.spells)

c_value : (k : ℕ) (m : Bool) (bs : List ℕ) → ((i : ℕ) → get_or bs i 0 < 256) →
    body_value (c_items k m bs) ≡ drop k bs
c_value zero m [] small = refl
c_value (suc k) m [] small = refl
c_value (suc k) m (b ∷ bs) small = c_value k m bs (λ i. small (suc i))
c_value zero m (b ∷ bs) small =
    first_value m b bs (first_char (b ∷ bs)) (small 0) refl
    (λ k after. c_value k after bs (λ i. small (suc i)))

-- The items

first_nul : (b c : ℕ) (bs : List ℕ) → Begins (b ∷ bs) c → eqb b 0 ≡ false → eqb c 0 ≡ false
unfolding encode_utf8
first_nul b c bs begins nul =
    ne_eqb c 0 (λ zero_char.
    let spells : b ∷ bs ≡ 0 ∷ begins.rest = begins.spells
    ∙ ap (λ (v : ℕ). encode_utf8 v ++ begins.rest) zero_char in
    let same : b ≡ 0 = cc in
    eqb-false b 0 nul same)

first_item : (m : Bool) (b : ℕ) (bs : List ℕ) (o : Option ℕ) → b < 256 → first_char (b ∷ bs) ≡ o →
    eqb b 0 ≡ false →
    is_item c_string_switches (spelled_item (spelling_or_byte m b o)) ≡ true
first_item m b bs None small e nul = c_byte_item b small nul
first_item m b bs (Some c) small e nul =
    let begins = first_begins b c bs e in c_string_item m c begins.is_scalar
    (first_nul b c bs begins nul)

first_scalars : (m : Bool) (b : ℕ) (bs : List ℕ) (o : Option ℕ) → b < 256 →
    first_char (b ∷ bs) ≡ o →
    scalars (item_text (spelled_item (spelling_or_byte m b o))) ≡ true
first_scalars m b bs None small e = hex_text b small
first_scalars m b bs (Some c) small e = char_text_scalars m c 34 (first_begins b c bs e).is_scalar

c_body : (k : ℕ) (m : Bool) (bs : List ℕ) → ((i : ℕ) → get_or bs i 0 < 256) →
    list_any is_nul bs ≡ false → is_body c_string_switches (c_items k m bs) ≡ true
c_body zero m [] small nul = refl
c_body (suc k) m [] small nul = refl
c_body (suc k) m (b ∷ bs) small nul =
    c_body k m bs (λ i. small (suc i)) (or_false (is_nul b) (list_any is_nul bs) nul).1
c_body zero m (b ∷ bs) small nul =
    let none = or_false (is_nul b) (list_any is_nul bs) nul in
    let o = first_char (b ∷ bs) in
    let s = spelling_or_byte m b o in
    and_from _ _ (and_from _ _ (first_item m b bs o (small 0) refl none.0)
    (spelled_free s (body_text (c_items (len_or_byte o - 1) (is_escaped s) bs))))
    (c_body (len_or_byte o - 1) (is_escaped s) bs (λ i. small (suc i)) none.1)

c_scalars : (k : ℕ) (m : Bool) (bs : List ℕ) → ((i : ℕ) → get_or bs i 0 < 256) →
    scalars (body_text (c_items k m bs)) ≡ true
c_scalars zero m [] small = refl
c_scalars (suc k) m [] small = refl
c_scalars (suc k) m (b ∷ bs) small = c_scalars k m bs (λ i. small (suc i))
c_scalars zero m (b ∷ bs) small =
    let o = first_char (b ∷ bs) in
    let s = spelling_or_byte m b o in
    scalars_append (item_text (spelled_item s))
    (body_text (c_items (len_or_byte o - 1) (is_escaped s) bs))
    (first_scalars m b bs o (small 0) refl)
    (c_scalars (len_or_byte o - 1) (is_escaped s) bs (λ i. small (suc i)))

-- If no error is expected

none_here : (p : ℕ → Bool) (xs : List ℕ) (b : Bool) →
    suc (length xs) ≤ cond (not b) (1 + prefix_len (λ y. not (p y)) xs) 0 →
    (length xs ≤ prefix_len (λ y. not (p y)) xs → list_any p xs ≡ false) →
    (b || list_any p xs) ≡ false
none_here p xs true h more = absurd (omega arith)
none_here p xs false h more = more (omega arith)

none_passes : (p : ℕ → Bool) (xs : List ℕ) → length xs ≤ prefix_len (λ x. not (p x)) xs →
    list_any p xs ≡ false
none_passes p [] all = refl
none_passes p (x ∷ xs) all = none_here p xs (p x) all (λ less. none_passes p xs less)

no_place : (p : ℕ → Bool) (xs : List ℕ) (t : Bool) → ltb (position_or_len p xs) (length xs) ≡ t →
    cond t (Some (position_or_len p xs)) None ≡ None →
    list_any p xs ≡ false
no_place p xs true inside e = absurd cc
no_place p xs false past e = none_passes p xs (ltb-false (position_or_len p xs) (length xs) past)

no_error : (o : Option ℕ) → nul_error o ≡ None → o ≡ None
no_error (Some at) e = absurd cc
no_error None e = refl

pub possible_by : (t : Bool) (o : Option ℕ) →
    (if not t then Some NotASuffix else nul_error o) ≡ None → (t ≡ true) × (o ≡ None)
possible_by true o e = (refl, no_error o e)
possible_by false o e = absurd cc

no_nul : (bs : List ℕ) → position is_nul bs ≡ None → list_any is_nul bs ≡ false
no_nul bs e = no_place is_nul bs (ltb (position_or_len is_nul bs) (length bs)) refl e

-- The literal

pub c_string_derives : (value suffix bytes : List ℕ) → ((i : ℕ) → get_or value i 0 < 256) →
    IsUtf8 suffix → c_string_error value (chars suffix) ≡ None →
    bytes ≡ ((99 ∷ 34 ∷ [] ++ encode_utf8_all (body_text (c_items 0 true value))) ++ 34 ∷ [])
    ++ suffix →
    IsString c_string_kind (chars bytes) (written_c_string value (chars suffix))
unfolding encode_utf8
c_string_derives value suffix bytes small u possible is =
    let both = possible_by (is_suffix (chars suffix)) (position is_nul value) possible in record {
      spells = sym (closed_chars 34 (99 ∷ 34 ∷ []) (99 ∷ 34 ∷ [])
          (body_text (c_items 0 true value)) suffix bytes (omega arith) refl refl
          (c_scalars 0 true value small) u is);
      body = c_body 0 true value small (no_nul value both.1);
      suffix = both.0;
    }

pub written_c_string-value : (value suffix : List ℕ) → ((i : ℕ) → get_or value i 0 < 256) →
    string_value (written_c_string value suffix) ≡ value
written_c_string-value value suffix small = c_value 0 true value small

-- In the loop over the bytes

left_over : (k : ℕ) (m : Bool) (bs : List ℕ) → c_items k m bs ≡ c_items 0 m (drop k bs)
left_over zero m bs = refl
left_over (suc k) m [] = refl
left_over (suc k) m (b ∷ bs) = left_over k m bs

pub c_step : (total text new rest later : List ℕ) (m after : Bool) (byte n : ℕ) (o : Option ℕ)
    (s : Spelling) → 0 < length rest →
    o ≡ first_char rest → byte ≡ get_or rest 0 0 → s ≡ spelling_or_byte m byte o →
    n ≡ len_or_byte o → after ≡ is_escaped s →
    new ≡ text ++ encode_utf8_all (item_text (spelled_item s)) → later ≡ drop n rest →
    text ++ encode_utf8_all (body_text (c_items 0 m rest)) ≡ total →
    new ++ encode_utf8_all (body_text (c_items 0 after later)) ≡ total
c_step total text new [] later m after byte n o s some first at spelling len escaped is past whole =
    absurd (omega arith)
c_step total text new (b ∷ bs) later m after byte n o s some first at spelling len escaped is past
    whole =
    let f = first_char (b ∷ bs) in
    let spelled = spelling_or_byte m b f in
    let item = item_text (spelled_item spelled) in
    let items = c_items (len_or_byte f - 1) (is_escaped spelled) bs in
    let s_is : s ≡ spelled = spelling
    ∙ (ap (λ (v : ℕ). spelling_or_byte m v o) at ∙ ap (spelling_or_byte m b) first) in
    let later_is : later ≡ drop (len_or_byte f - 1) bs =
    past ∙ (ap (λ (k : ℕ). drop k (b ∷ bs)) (len ∙ ap len_or_byte first)
    ∙ sym (drop_before (len_or_byte f) b bs (len_positive f))) in
    let items_is : c_items 0 after later ≡ items =
    ap (λ (a : Bool). c_items 0 a later) (escaped ∙ ap is_escaped s_is)
    ∙ (ap (λ (l : List ℕ). c_items 0 (is_escaped spelled) l) later_is
    ∙ sym (left_over (len_or_byte f - 1) (is_escaped spelled) bs)) in
    ap (λ (x : List ℕ). x ++ encode_utf8_all (body_text (c_items 0 after later)))
    (is ∙ ap (λ (v : Spelling). text ++ encode_utf8_all (item_text (spelled_item v))) s_is)
    ∙ (ap (λ (l : List Item). (text ++ encode_utf8_all item)
    ++ encode_utf8_all (body_text l)) items_is
    ∙ (append_assoc text (encode_utf8_all item) (encode_utf8_all (body_text items))
    ∙ (ap (λ (x : List ℕ). text ++ x) (sym (encodes-append item (body_text items))) ∙ whole)))

pub c_end : (total text rest : List ℕ) (m : Bool) → length rest ≡ 0 →
    text ++ encode_utf8_all (body_text (c_items 0 m rest)) ≡ total → text ≡ total
c_end total text rest m none whole =
    sym (append-nil text)
    ∙ (ap (λ (l : List ℕ). text ++ encode_utf8_all (body_text (c_items 0 m l)))
    (sym (nil_from_length rest none)) ∙ whole)
