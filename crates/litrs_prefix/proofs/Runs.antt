-- Names at the front of a text: their ASCII characters are passed by their bytes.
use Rattle.litrs_prefix.proofs.Words.{◌≡◌, ℕ, Bool, true, false, List, [], ◌∷◌, ◌++◌, length, drop, refl, ◌∙◌, arith, if◌then◌else◌, nat_le, list_all, prefix_len, chars, IsUtf8, IsCharBoundary, is_xid_continue, begins_with, first_passes, bool_text, is_bool, after_run, after_name, first_name, ltb, false_from_ne_true, nat_tests, IsCharBoundary-from_drop, chars-nil, is_xid_continue-ascii, begins_with-split, begins_with-append, OnlyAscii, chars_ascii, begins_with-chars, begins_front, prefix_len-chars, first_passes-rest, some_bool, is_word, words_are_ascii}
use Rattle.litrs_base.proofs.Chars.{ascii_from_test, passing_front}
use Rattle.litrs_prefix.proofs.Names.{name_and_rest}

pub drop_passed : (p : ℕ → Bool) (c : ℕ) (t : List ℕ) → drop (prefix_len p (c ∷ t)) (c ∷ t) ≡ (if p c then drop (prefix_len p t) t else (c ∷ t))
drop_passed p c t = grind arith

pub run_past : (p : ℕ → Bool) → ((c : ℕ) → p c ≡ true → is_xid_continue c ≡ true) → (t : List ℕ) → after_run t ≡ after_run (drop (prefix_len p t) t)
run_past p goes [] = refl
run_past p goes (c ∷ t) = grind (arith, drop_passed, goes c, run_past p goes t)

-- the characters at the front of a text that pass a test of ASCII characters, in bytes
pub ascii_front : (p : ℕ → Bool) → OnlyAscii p → (bs : List ℕ) → IsUtf8 bs → IsCharBoundary bs (prefix_len p bs) × (chars (drop (prefix_len p bs) bs) ≡ drop (prefix_len p (chars bs)) (chars bs))
ascii_front p only bs u =
    grind (arith, passing_front p bs only u, prefix_len-chars p bs only u, IsCharBoundary-from_drop)

-- the place at which the text is cut after the ASCII characters
pub name_cut : (bs : List ℕ) (n : ℕ) → IsUtf8 bs → n ≡ prefix_len is_word bs → IsCharBoundary bs n × (after_run (chars (drop n bs)) ≡ after_run (chars bs))
name_cut bs n u is =
    let goes = λ (c : ℕ) (h : is_word c ≡ true). is_xid_continue-ascii c (ascii_from_test is_word c words_are_ascii h) ∙ h in
    grind (arith, ascii_front is_word words_are_ascii bs u, run_past is_word goes (chars bs))

-- no more characters pass before an ASCII character that does not
ends_at : (bs : List ℕ) → first_passes is_word bs ≡ false → first_passes (nat_le 128) bs ≡ false → after_run (chars bs) ≡ chars bs
ends_at bs a b = grind (arith, nat_tests, chars_ascii, is_xid_continue-ascii, chars-nil)

pub name_ends : (bs rest : List ℕ) (n : ℕ) → IsUtf8 bs → n ≡ prefix_len is_word bs → rest ≡ drop n bs → first_passes (nat_le 128) rest ≡ false → chars rest ≡ after_run (chars bs)
name_ends bs rest n u is back narrow = grind (arith, ends_at rest, first_passes-rest is_word bs, name_cut bs n u is)

-- bools, by their first bytes

bool_low : (b : Bool) → list_all (λ c. ltb c 128) (bool_text b) ≡ true
bool_low b = grind arith

-- a text after an ASCII word at its front
pub front_cut : (word bs : List ℕ) (n : ℕ) → list_all (λ c. ltb c 128) word ≡ true → IsUtf8 bs → begins_with word bs ≡ true → n ≡ length word → IsCharBoundary bs n × (word ++ chars (drop n bs) ≡ chars bs)
front_cut word bs n low u begins is =
    grind (arith, begins_front word bs low begins u, begins_with-split word (chars bs), begins_with-chars word bs low u, IsCharBoundary-from_drop bs (length word))

pub bool_front : (bs : List ℕ) (b : Bool) (n : ℕ) → IsUtf8 bs → begins_with (bool_text b) bs ≡ true → n ≡ length (bool_text b) → IsCharBoundary bs n × (bool_text b ++ chars (drop n bs) ≡ chars bs)
bool_front bs b n = front_cut (bool_text b) bs n (bool_low b)

-- no bool is at the front
pub no_bool_name : (bs : List ℕ) → IsUtf8 bs → ((b : Bool) → begins_with (bool_text b) bs ≡ false) → is_bool (first_name (chars bs)) ≡ false
no_bool_name bs u none = false_from_ne_true (is_bool (first_name (chars bs))) (λ is.
    let b = some_bool (first_name (chars bs)) is in
    let begins = begins_with-append (bool_text b.0) (after_name (chars bs)) in
    grind (arith, name_and_rest (chars bs), begins_with-chars (bool_text b.0) bs (bool_low b.0) u, none b.0))
