-- Ends of numbers: before a period that does not belong to one, after the digits of a base, and
-- before a letter.
use Rattle.litrs_prefix.proofs.Words.{◌≡◌, ℕ, Bool, true, false, ◌&&◌, List, [], ◌++◌, take, drop, Option, Some, sym, ap, subst, ◌∙◌, inl, inr, arith, and_parts, not-true, true≢false, nat_tests, drop_at, list_all-append, list_all-weaken, prefix_len_front, first_passes-append, starts_with_digit, only_integer, is_word, words_are_ascii, front_is}
use Rattle.litrs_prefix.specs.Words.{is_ascii_digit, prefix_len, list_all, chars, IsUtf8, IsCharBoundary, first_passes, is_decimal_char, IntegerParts, IsIntegerOf, Derivation, an_integer, after_digits, IsOnlyRest, IsJudgedBy, after_opened, ends_suffix, ends_integer, HasPrefix}
use Rattle.litrs_prefix.proofs.Numbers.{no_start}
use Rattle.litrs_prefix.proofs.Opened.{only_rest}
use Rattle.litrs_prefix.proofs.Runs.{ascii_front}

pub digits_front : (bs : List ℕ) → IsUtf8 bs → IsCharBoundary bs (prefix_len is_decimal_char bs) × (chars (drop (prefix_len is_decimal_char bs) bs) ≡ after_digits (chars bs))
digits_front bs u = ascii_front is_decimal_char (λ c high. grind (arith, nat_tests)) bs u

-- no other rest, if no integer without a suffix is at the front
pub only_unless : (t : List ℕ) → ((r : List ℕ) (x : IntegerParts) → HasPrefix t (an_integer x) r → x.suffix ≡ [] → ⊥) → IsOnlyRest t (after_opened t)
only_unless t none = λ d r at. elim (only_rest t d r at) [
  | inl is ↦ sym is
  | inr (x, is, bare) ↦ absurd (none r x (subst (λ (e : Derivation). HasPrefix t e r) is at) bare)
]

pub only_unless_digit : (t : List ℕ) → first_passes is_ascii_digit t ≡ false → IsOnlyRest t (after_opened t)
only_unless_digit t none = only_unless t (λ r x lit bare.
    true≢false (sym (ap (first_passes is_ascii_digit) (sym lit.spells) ∙ first_passes-append is_ascii_digit lit.front r (starts_with_digit lit.front x lit.literal)) ∙ none))

-- an integer without a suffix has only characters of names

words : (l : List ℕ) (x : IntegerParts) → IsIntegerOf l x → x.suffix ≡ [] → list_all is_word l ≡ true
words l x h bare = grind (arith, nat_tests, list_all-append, list_all-weaken)

word_ends : (r : List ℕ) → ends_suffix [] r ≡ true → first_passes is_ascii_digit r ≡ false → first_passes is_word r ≡ false
word_ends r e d = grind (arith, nat_tests, no_start)

judged_so : (D : Type 0) (Derives : D → Type 0) (ends : D → Bool) (x : D) (o : Option Bool) → ((y : D) → Derives y → y ≡ x) → Derives x → ends x ≡ true → IsJudgedBy Derives ends o → o ≡ Some true
judged_so D Derives ends x o only h e j = grind (arith, only)

-- an integer without a suffix would be what the characters of a name at the front are
pub only_without_integer : (bs f rest : List ℕ) (n : ℕ) (o : Option Bool) → IsUtf8 bs → n ≡ prefix_len is_word bs → f ≡ take n bs → rest ≡ drop n bs →
    IsJudgedBy (IsIntegerOf (chars f)) (λ d. ends_suffix d.suffix (chars rest) && ends_integer d (chars rest)) o → (o ≡ Some true → ⊥) → IsOnlyRest (chars bs) (after_opened (chars bs))
only_without_integer bs f rest n o u count before after judged fails = only_unless (chars bs) (λ r x lit bare.
    let p = and_parts (ends_suffix x.suffix r) _ lit.follows in
    let stop = word_ends r (subst (λ (s : List ℕ). ends_suffix s r ≡ true) bare p.0) (not-true _ (and_parts _ _ p.1).0) in
    let cut = ascii_front is_word words_are_ascii bs u in
    let left : chars (drop n bs) ≡ r =
    ap (λ (k : ℕ). chars (drop k bs)) count ∙ (cut.1 ∙ (ap (λ (t : List ℕ). drop (prefix_len is_word t) t) (sym lit.spells)
    ∙ drop_at lit.front r (prefix_len is_word (lit.front ++ r)) (sym (prefix_len_front is_word lit.front r (words lit.front x lit.literal bare) stop)))) in
    let bound : IsCharBoundary bs n = subst (λ (k : ℕ). IsCharBoundary bs k) (sym count) cut.0 in
    let front : chars f ≡ lit.front = ap chars before ∙ front_is bs n lit.front r u bound left lit.spells in
    let whole : IsIntegerOf (chars f) x = subst (λ (t : List ℕ). IsIntegerOf t x) (sym front) lit.literal in
    let ends : (ends_suffix x.suffix (chars rest) && ends_integer x (chars rest)) ≡ true = ap (λ (t : List ℕ). ends_suffix x.suffix t && ends_integer x t) (ap chars after ∙ left) ∙ lit.follows in
    fails (judged_so IntegerParts (IsIntegerOf (chars f)) _ x o (λ y h. only_integer (chars f) x y whole h) whole ends judged))
