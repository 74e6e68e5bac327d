-- Plain ASCII between double quotes is written as it is.
use Rattle.std.proofs.Common.{◌≡◌, ℕ, suc, ◌+◌, ◌-◌, ◌≤◌, ◌<◌, Bool, true, false, not, ◌&&◌, ◌||◌, eqb, List, [], ◌∷◌, ◌++◌, length, take, drop, get_or, refl, sym, ap, subst, ◌∙◌, arith}
use Rattle.std.specs.Prelude.{Some, cond, encode_utf8_all, slice_get}
use Rattle.std.specs.Char.{len_utf8}
use Rattle.std.specs.List.{list_all, prefix_len}
use Rattle.std.specs.Str.{chars, IsUtf8, IsAscii, IsCharBoundary, continuation_len}
use Rattle.std.proofs.lemmas.Bool.{and_from, and_parts, and_right, cond-true, cond-false, ne_eqb, agree_below, agree_below_at}
use Rattle.std.proofs.lemmas.Bool.Decides.{nat_tests}
use Rattle.std.proofs.lemmas.List.{take-append-drop, append_assoc}
use Rattle.std.proofs.lemmas.List.Folds.{length-prefix_len}
use Rattle.std.proofs.lemmas.Str.{encodes-append, len_utf8_ascii, IsUtf8-from_ascii, IsCharBoundary-from_drop}
use Rattle.std.proofs.lemmas.Str.Ascii.{IsAscii-nil, IsAscii-cons}
use Rattle.ucd_derived.specs.Binary.{is_grapheme_extend}
use Rattle.ucd_derived.specs.GraphemeExtendRanges.{grapheme_extend_ranges}
use Rattle.ucd_table.specs.Rows.{in_ranges}
use Rattle.litrs_base.specs.Characters.{is_ascii}
use Rattle.litrs_base.specs.Text.{first_passes}
use Rattle.litrs_base.proofs.Chars.{OnlyAscii, ascii_from_test, chars_ascii, passing_front}
use Rattle.litrs_base.proofs.Runs.{list_all-weaken, list_all-take_while}
use Rattle.litrs_grammar.specs.Quoted.{item_text, body_text}
use Rattle.litrs_build.specs.declared.spelling.Spelling.{Spelling}
use Rattle.litrs_build.specs.declared.spelling.Spelling.TheVariants.{Plain}
use Rattle.litrs_build.specs.CStrings.{first_char, spelling_or_byte, len_or_byte, c_items}
use Rattle.litrs_build.specs.Pieces.{is_plain_ascii}
use Rattle.litrs_build.specs.Spelling.{char_spelling, byte_spelling, is_combining, is_escaped, is_shown, spelled_item}
use Rattle.litrs_build.specs.Written.{char_items, byte_items}
use Rattle.litrs_build.proofs.PrintableAscii.{plain_printable}
use Rattle.litrs_build.proofs.Spellings.{encodes_ascii}
use Rattle.litrs_build.proofs.CTexts.{first_read}

-- Its spelling

pub plain_is_ascii : OnlyAscii is_plain_ascii
plain_is_ascii c high = grind (arith, nat_tests)

none_combines : agree_below is_combining (λ c. false) 128 ≡ true
unfolding is_grapheme_extend grapheme_extend_ranges in_ranges
none_combines = refl

shown : (m : Bool) (c : ℕ) → is_plain_ascii c ≡ true → is_shown m c ≡ true
shown m c plain =
    let low : c < 128 = ascii_from_test is_plain_ascii c plain_is_ascii plain in
    let combines : is_combining c ≡ false =
    agree_below_at is_combining (λ d. false) 128 c none_combines low in
    and_from _ _ (plain_printable c (grind (arith, nat_tests)))
    (ap (λ v. not (m && v)) combines ∙ ap not (and_right m false refl))

pub plain_spelling : (m : Bool) (c : ℕ) → is_plain_ascii c ≡ true → char_spelling 34 m c ≡ Plain c
unfolding char_spelling
plain_spelling m c plain =
    let low : 32 ≤ c = grind (arith, nat_tests) in
    let marks : (eqb c 34 || eqb c 92) ≡ false = grind (arith, nat_tests) in
    cond-false _ _ _ (ne_eqb c 0 (λ e. omega arith))
    ∙ (cond-false _ _ _ (ne_eqb c 9 (λ e. omega arith))
    ∙ (cond-false _ _ _ (ne_eqb c 10 (λ e. omega arith))
    ∙ (cond-false _ _ _ (ne_eqb c 13 (λ e. omega arith))
    ∙ (cond-false _ _ _ marks ∙ cond-true _ _ _ (shown m c plain)))))

plain_byte : (b : ℕ) → is_plain_ascii b ≡ true → byte_spelling 34 b ≡ Plain b
unfolding byte_spelling
plain_byte b plain =
    cond-true (is_ascii b) _ _ (grind (arith, nat_tests)) ∙ plain_spelling false b plain

-- The front of a list that passes a test

pub none_passes : (p : ℕ → Bool) (bs : List ℕ) → first_passes p bs ≡ false → prefix_len p bs ≡ 0
none_passes p [] stops = refl
none_passes p (b ∷ bs) stops = cond-false (p b) (1 + prefix_len p bs) 0 stops

plain_stays : (t : List ℕ) → list_all is_plain_ascii t ≡ true → encode_utf8_all t ≡ t
plain_stays t all = encodes_ascii t (list_all-weaken is_plain_ascii is_ascii
    (λ c plain. grind (arith, nat_tests)) t all)

pub all_ascii : (t : List ℕ) → list_all is_plain_ascii t ≡ true → IsAscii t
all_ascii [] all = IsAscii-nil
all_ascii (c ∷ t) all =
    let both = and_parts (is_plain_ascii c) (list_all is_plain_ascii t) all in
    IsAscii-cons c t (ascii_from_test is_plain_ascii c plain_is_ascii both.0) (all_ascii t both.1)

-- the text of plain ASCII and of what follows
pub coded : (t rest : List ℕ) → list_all is_plain_ascii t ≡ true →
    encode_utf8_all (t ++ rest) ≡ t ++ encode_utf8_all rest
coded t rest all = encodes-append t rest
    ∙ ap (λ (x : List ℕ). x ++ encode_utf8_all rest) (plain_stays t all)

-- In strings

plain_items : (t cs : List ℕ) → list_all is_plain_ascii t ≡ true →
    body_text (char_items false (t ++ cs)) ≡ t ++ body_text (char_items false cs)
plain_items [] cs all = refl
plain_items (c ∷ t) cs all =
    let both = and_parts (is_plain_ascii c) (list_all is_plain_ascii t) all in
    ap (λ (s : Spelling). item_text (spelled_item s)
    ++ body_text (char_items (is_escaped s) (t ++ cs)))
    (plain_spelling false c both.0)
    ∙ ap (λ (x : List ℕ). c ∷ x) (plain_items t cs both.1)

plain_chars : (m : Bool) (t cs : List ℕ) → 0 < length t → list_all is_plain_ascii t ≡ true →
    body_text (char_items m (t ++ cs)) ≡ t ++ body_text (char_items false cs)
plain_chars m [] cs some all = absurd (omega arith)
plain_chars m (c ∷ t) cs some all =
    let both = and_parts (is_plain_ascii c) (list_all is_plain_ascii t) all in
    ap (λ (s : Spelling). item_text (spelled_item s)
    ++ body_text (char_items (is_escaped s) (t ++ cs)))
    (plain_spelling m c both.0)
    ∙ ap (λ (x : List ℕ). c ∷ x) (plain_items t cs both.1)

-- a text may be cut after its plain ASCII
pub plain_cut : (text : List ℕ) (n : ℕ) → IsUtf8 text → n ≡ prefix_len is_plain_ascii text →
    IsCharBoundary text n
plain_cut text n u is =
    let f = passing_front is_plain_ascii text plain_is_ascii u in
    subst (λ (k : ℕ). IsCharBoundary text k) (sym is)
    (IsCharBoundary-from_drop text (prefix_len is_plain_ascii text) f.within f.utf8)

pub chars_plain : (m : Bool) (text plain rest : List ℕ) (n : ℕ) → IsUtf8 text →
    n ≡ prefix_len is_plain_ascii text → plain ≡ take n text → rest ≡ drop n text →
    0 < length plain →
    encode_utf8_all (body_text (char_items m (chars text)))
    ≡ plain ++ encode_utf8_all (body_text (char_items false (chars rest)))
chars_plain m text plain rest n u is front back some =
    let k = prefix_len is_plain_ascii text in
    let f = passing_front is_plain_ascii text plain_is_ascii u in
    let plain_is : plain ≡ take k text = front ∙ ap (λ (j : ℕ). take j text) is in
    let rest_is : chars (drop k text) ≡ chars rest =
    ap (λ (j : ℕ). chars (drop j text)) (sym is) ∙ ap chars (sym back) in
    let all : list_all is_plain_ascii plain ≡ true =
    ap (list_all is_plain_ascii) plain_is ∙ list_all-take_while is_plain_ascii text in
    let split : chars text ≡ plain ++ chars rest =
    sym (take-append-drop k (chars text))
    ∙ (ap (λ (x : List ℕ). x ++ drop k (chars text)) (f.taken ∙ sym plain_is)
    ∙ ap (λ (x : List ℕ). plain ++ x) (f.rest ∙ rest_is)) in
    ap (λ (x : List ℕ). encode_utf8_all (body_text (char_items m x))) split
    ∙ (ap encode_utf8_all (plain_chars m plain (chars rest) some all)
    ∙ coded plain (body_text (char_items false (chars rest))) all)

-- In byte strings

plain_bytes : (t bs : List ℕ) → list_all is_plain_ascii t ≡ true →
    body_text (byte_items (t ++ bs)) ≡ t ++ body_text (byte_items bs)
plain_bytes [] bs all = refl
plain_bytes (b ∷ t) bs all =
    let both = and_parts (is_plain_ascii b) (list_all is_plain_ascii t) all in
    ap (λ (s : Spelling). item_text (spelled_item s) ++ body_text (byte_items (t ++ bs)))
    (plain_byte b both.0)
    ∙ ap (λ (x : List ℕ). b ∷ x) (plain_bytes t bs both.1)

-- plain ASCII and what follows it
whole : (bytes plain rest : List ℕ) → plain ≡ take (prefix_len is_plain_ascii bytes) bytes →
    rest ≡ drop (length plain) bytes → bytes ≡ plain ++ rest
whole bytes plain rest front back =
    let k = prefix_len is_plain_ascii bytes in
    let len : length plain ≡ k = ap length front ∙ length-prefix_len is_plain_ascii bytes in
    sym (take-append-drop k bytes)
    ∙ (ap (λ (x : List ℕ). x ++ drop k bytes) (sym front)
    ∙ ap (λ (x : List ℕ). plain ++ x) (ap (λ (n : ℕ). drop n bytes) (sym len) ∙ sym back))

pub bytes_plain : (bytes plain rest : List ℕ) →
    plain ≡ take (prefix_len is_plain_ascii bytes) bytes →
    rest ≡ drop (length plain) bytes →
    encode_utf8_all (body_text (byte_items bytes))
    ≡ plain ++ encode_utf8_all (body_text (byte_items rest))
bytes_plain bytes plain rest front back =
    let all : list_all is_plain_ascii plain ≡ true =
    ap (list_all is_plain_ascii) front ∙ list_all-take_while is_plain_ascii bytes in
    ap (λ (x : List ℕ). encode_utf8_all (body_text (byte_items x)))
    (whole bytes plain rest front back)
    ∙ (ap encode_utf8_all (plain_bytes plain rest all)
    ∙ coded plain (body_text (byte_items rest)) all)

pub bytes_spelled : (bytes later : List ℕ) (b : ℕ) (s : Spelling) → 0 < length bytes →
    b ≡ get_or bytes 0 0 → s ≡ byte_spelling 34 b → later ≡ drop 1 bytes →
    encode_utf8_all (body_text (byte_items bytes))
    ≡ encode_utf8_all (item_text (spelled_item s)) ++ encode_utf8_all (body_text (byte_items later))
bytes_spelled [] later b s some at spelling back = absurd (omega arith)
bytes_spelled (x ∷ xs) later b s some at spelling back =
    encodes-append (item_text (spelled_item (byte_spelling 34 x))) (body_text (byte_items xs))
    ∙ (λ i. encode_utf8_all (item_text (spelled_item (sym (spelling ∙ ap (byte_spelling 34) at) i)))
    ++ encode_utf8_all (body_text (byte_items (sym back i))))

-- In C strings

ascii_first : (b : ℕ) (bs : List ℕ) → b < 128 → first_char (b ∷ bs) ≡ Some b
ascii_first b bs low =
    let one : IsAscii (b ∷ []) = IsAscii-cons b [] low IsAscii-nil in
    sym (first_read (b ∷ bs) (b ∷ []) 1 (omega arith) refl (continues b low)
    (IsUtf8-from_ascii (b ∷ []) one))
    ∙ ap (λ (t : List ℕ). slice_get t 0) (chars_ascii b [] low)
  where
    continues : (b : ℕ) → b < 128 → 1 ≡ 1 + continuation_len b
    continues b low = grind (arith, nat_tests)

c_first : (m : Bool) (b : ℕ) (bs : List ℕ) → is_plain_ascii b ≡ true →
    body_text (c_items 0 m (b ∷ bs)) ≡ b ∷ body_text (c_items 0 false bs)
c_first m b bs plain =
    let low : b < 128 = ascii_from_test is_plain_ascii b plain_is_ascii plain in
    let none : len_utf8 b - 1 ≡ 0 = ap (λ n. n - 1) (len_utf8_ascii b low) in
    ap (λ o. item_text (spelled_item (spelling_or_byte m b o))
    ++ body_text (c_items (len_or_byte o - 1) (is_escaped (spelling_or_byte m b o)) bs))
    (ascii_first b bs low)
    ∙ (ap (λ (s : Spelling). item_text (spelled_item s)
    ++ body_text (c_items (len_utf8 b - 1) (is_escaped s) bs)) (plain_spelling m b plain)
    ∙ ap (λ (n : ℕ). b ∷ body_text (c_items n false bs)) none)

c_plain_items : (t bs : List ℕ) → list_all is_plain_ascii t ≡ true →
    body_text (c_items 0 false (t ++ bs)) ≡ t ++ body_text (c_items 0 false bs)
c_plain_items [] bs all = refl
c_plain_items (b ∷ t) bs all =
    let both = and_parts (is_plain_ascii b) (list_all is_plain_ascii t) all in
    c_first false b (t ++ bs) both.0 ∙ ap (λ (x : List ℕ). b ∷ x) (c_plain_items t bs both.1)

c_plain_chars : (m : Bool) (t bs : List ℕ) → 0 < length t → list_all is_plain_ascii t ≡ true →
    body_text (c_items 0 m (t ++ bs)) ≡ t ++ body_text (c_items 0 false bs)
c_plain_chars m [] bs some all = absurd (omega arith)
c_plain_chars m (b ∷ t) bs some all =
    let both = and_parts (is_plain_ascii b) (list_all is_plain_ascii t) all in
    c_first m b (t ++ bs) both.0 ∙ ap (λ (x : List ℕ). b ∷ x) (c_plain_items t bs both.1)

pub c_plain : (m : Bool) (bytes plain rest : List ℕ) →
    plain ≡ take (prefix_len is_plain_ascii bytes) bytes → rest ≡ drop (length plain) bytes →
    0 < length plain →
    encode_utf8_all (body_text (c_items 0 m bytes))
    ≡ plain ++ encode_utf8_all (body_text (c_items 0 false rest))
c_plain m bytes plain rest front back some =
    let all : list_all is_plain_ascii plain ≡ true =
    ap (list_all is_plain_ascii) front ∙ list_all-take_while is_plain_ascii bytes in
    ap (λ (x : List ℕ). encode_utf8_all (body_text (c_items 0 m x)))
    (whole bytes plain rest front back)
    ∙ (ap encode_utf8_all (c_plain_chars m plain rest some all)
    ∙ coded plain (body_text (c_items 0 false rest)) all)

-- A piece is appended

pub piece_step : (total text new piece body later : List ℕ) → new ≡ text ++ piece →
    body ≡ piece ++ later → text ++ body ≡ total → new ++ later ≡ total
piece_step total text new piece body later is splits whole =
    ap (λ (x : List ℕ). x ++ later) is
    ∙ (append_assoc text piece later ∙ (ap (λ (x : List ℕ). text ++ x) (sym splits) ∙ whole))
