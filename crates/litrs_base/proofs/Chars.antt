-- The characters of a text and its bytes: what tests and cuts on bytes say of the characters.
use Rattle.std.proofs.Common.{◌≡◌, ℕ, suc, ◌+◌, ◌<◌, ◌≤◌, Bool, true, false, cond, eqb, ltb, ◌&&◌, List, [], ◌∷◌, ◌++◌, length, take, drop, refl, sym, ap, subst, ◌∙◌, inl, inr, arith}
use Rattle.std.specs.Str.{chars, IsUtf8, IsAscii}
use Rattle.std.specs.List.{prefix_len, list_all}
use Rattle.std.proofs.lemmas.Str.Ascii.{IsAscii-nil, IsAscii-cons}
use Rattle.std.proofs.lemmas.Str.{chars-nil, chars_from_encodes, IsUtf8-past_char, encode_ascii, IsAscii-append}
use Rattle.std.proofs.lemmas.Bool.{lt-ltb, ltb-true, and_parts, cases_lt, ne_eqb, eqb-true, true≢false, false≢true}
use Rattle.std.specs.Prelude.{encode_utf8_all}
use Rattle.std.proofs.lemmas.List.{drop-drop, length-drop}
use Rattle.std.proofs.Math.Seq.{take-add}
use Rattle.litrs_base.specs.Text.{is_text, is_empty, first_passes, begins_with}

-- a text that is not empty has a first character
abbrev Splits : List ℕ → Type 0
Splits bs = (c : ℕ) × (cs : List ℕ) × (chars bs ≡ c ∷ cs) × (encode_utf8_all (c ∷ cs) ≡ bs)

first_char_of : (b : ℕ) (bs cs : List ℕ) → IsUtf8 (b ∷ bs) → encode_utf8_all cs ≡ b ∷ bs → Splits (b ∷ bs)
first_char_of b bs [] u spelled = absurd (let none : [] ≡ b ∷ bs = spelled in cc)
first_char_of b bs (c ∷ cs) u spelled = (c, cs, sym (chars_from_encodes (c ∷ cs) (b ∷ bs) u spelled), spelled)

first_char : (b : ℕ) (bs : List ℕ) → IsUtf8 (b ∷ bs) → Splits (b ∷ bs)
first_char b bs u = first_char_of b bs u.0 u u.1.1

-- a text is ASCII if a test says so, which computes on a text that is written out
pub ascii_by_test : (xs : List ℕ) → list_all (λ c. ltb c 128) xs ≡ true → IsAscii xs
ascii_by_test [] h = IsAscii-nil
ascii_by_test (c ∷ xs) h = let parts = and_parts (ltb c 128) (list_all (λ d. ltb d 128) xs) h in
    IsAscii-cons c xs (ltb-true c 128 parts.0) (ascii_by_test xs parts.1)

-- a text without characters has no bytes
pub chars_empty : (bs : List ℕ) → IsUtf8 bs → is_empty (chars bs) ≡ eqb (length bs) 0
chars_empty [] u = ap is_empty chars-nil
chars_empty (b ∷ bs) u = ap is_empty (first_char b bs u).2 ∙ sym (ne_eqb (suc (length bs)) 0 (λ e. omega arith))

-- an ASCII byte is a character
pub chars_ascii : (b : ℕ) (bs : List ℕ) → b < 128 → chars (b ∷ bs) ≡ b ∷ chars bs
unfolding chars
chars_ascii b [] low = rw (lt-ltb b 128 low) refl
chars_ascii b (c ∷ bs) low = rw (lt-ltb b 128 low) refl

pub utf8_after_ascii : (b : ℕ) (bs : List ℕ) → b < 128 → IsUtf8 (b ∷ bs) → IsUtf8 bs
utf8_after_ascii b bs low u = IsUtf8-past_char (b ∷ bs) bs b u (ap (λ front. front ++ bs) (sym (encode_ascii b low)))

-- A text that begins with a byte from 128 on begins with a character from 128 on.
pub record IsWide (bs : List ℕ) : Type 0 where
  pub first : ℕ
  pub rest : List ℕ
  pub is : chars bs ≡ first ∷ rest
  pub wide : 128 ≤ first

wide_first : (b c : ℕ) (bs cs : List ℕ) → 128 ≤ b → encode_utf8_all (c ∷ cs) ≡ b ∷ bs → 128 ≤ c
wide_first b c bs cs high spelled = elim (cases_lt c 128) [
  | inl low ↦ (let same : c ∷ encode_utf8_all cs ≡ b ∷ bs = ap (λ front. front ++ encode_utf8_all cs) (sym (encode_ascii c low)) ∙ spelled in
      let e : c ≡ b = cc in omega arith)
  | inr high_c ↦ high_c
]

pub chars_wide : (b : ℕ) (bs : List ℕ) → 128 ≤ b → IsUtf8 (b ∷ bs) → IsWide (b ∷ bs)
chars_wide b bs high u = let s = first_char b bs u in
    record { first = s.0; rest = s.1; is = s.2; wide = wide_first b s.0 bs s.1 high s.3 }

-- a test that only ASCII characters pass
abbrev pub OnlyAscii : (ℕ → Bool) → Type 0
OnlyAscii p = (c : ℕ) → 128 ≤ c → p c ≡ false

-- The first n bytes are characters, so that a text may be cut after them.
pub record IsAsciiFront (bs : List ℕ) (n : ℕ) : Type 0 where
  pub taken : take n (chars bs) ≡ take n bs
  pub rest : drop n (chars bs) ≡ chars (drop n bs)
  pub utf8 : IsUtf8 (drop n bs)
  pub ascii : IsAscii (take n bs)
  pub within : n ≤ length bs

pub front_zero : (bs : List ℕ) → IsUtf8 bs → IsAsciiFront bs 0
front_zero bs u = record { taken = refl; rest = refl; utf8 = u; ascii = IsAscii-nil; within = omega arith }

pub front_suc : (b : ℕ) (bs : List ℕ) (n : ℕ) → b < 128 → IsAsciiFront bs n → IsAsciiFront (b ∷ bs) (suc n)
front_suc b bs n low f = record {
  taken = rw (chars_ascii b bs low) (ap (λ t. b ∷ t) f.taken);
  rest = rw (chars_ascii b bs low) f.rest;
  utf8 = f.utf8;
  ascii = IsAscii-cons b (take n bs) low f.ascii;
  within = let within = f.within in omega arith;
}

-- a character that passes such a test is ASCII
pub ascii_from_test : (p : ℕ → Bool) (c : ℕ) → OnlyAscii p → p c ≡ true → c < 128
ascii_from_test p c only passes = elim (cases_lt c 128) [ inl low ↦ low | inr high ↦ absurd (true≢false (sym passes ∙ only c high)) ]

-- as many characters pass from the front on as bytes
pub prefix_len-chars : (p : ℕ → Bool) (bs : List ℕ) → OnlyAscii p → IsUtf8 bs → prefix_len p (chars bs) ≡ prefix_len p bs
prefix_len-chars p [] only u = ap (prefix_len p) chars-nil
prefix_len-chars p (b ∷ bs) only u = elim (cases_lt b 128) [
  | inl low ↦ ap (prefix_len p) (chars_ascii b bs low) ∙ ap (λ n. cond (p b) (1 + n) 0) (prefix_len-chars p bs only (utf8_after_ascii b bs low u))
  | inr high ↦ (let w = chars_wide b bs high u in
      ap (prefix_len p) w.is ∙ (ap (λ v. cond v (1 + prefix_len p w.rest) 0) (only w.first w.wide) ∙ sym (ap (λ v. cond v (1 + prefix_len p bs) 0) (only b high))))
]

front_step : (p : ℕ → Bool) (b : ℕ) (bs : List ℕ) (v : Bool) → OnlyAscii p → p b ≡ v → IsUtf8 (b ∷ bs) →
    (IsUtf8 bs → IsAsciiFront bs (prefix_len p bs)) → IsAsciiFront (b ∷ bs) (cond v (1 + prefix_len p bs) 0)
front_step p b bs true only passes u more =
    let low : b < 128 = ascii_from_test p b only passes in
    subst (λ (n : ℕ). IsAsciiFront (b ∷ bs) n) (omega arith) (front_suc b bs (prefix_len p bs) low (more (utf8_after_ascii b bs low u)))
front_step p b bs false only passes u more = front_zero (b ∷ bs) u

-- a text may be cut after the first bytes that pass
pub passing_front : (p : ℕ → Bool) (bs : List ℕ) → OnlyAscii p → IsUtf8 bs → IsAsciiFront bs (prefix_len p bs)
passing_front p [] only u = front_zero [] u
passing_front p (b ∷ bs) only u = front_step p b bs (p b) only refl u (λ v. passing_front p bs only v)

-- a test of the first character is the test of the first byte
pub first_passes-chars : (p : ℕ → Bool) (bs : List ℕ) → OnlyAscii p → IsUtf8 bs → first_passes p (chars bs) ≡ first_passes p bs
first_passes-chars p [] only u = ap (first_passes p) chars-nil
first_passes-chars p (b ∷ bs) only u = elim (cases_lt b 128) [
  | inl low ↦ ap (first_passes p) (chars_ascii b bs low)
  | inr high ↦ (let w = chars_wide b bs high u in ap (first_passes p) w.is ∙ (only w.first w.wide ∙ sym (only b high)))
]

-- one front after another
pub front_front : (bs : List ℕ) (n m : ℕ) → IsAsciiFront bs n → IsAsciiFront (drop n bs) m → IsAsciiFront bs (n + m)
front_front bs n m f g = record {
  taken = take-add n m (chars bs) ∙ (ap (λ t. t ++ take m (drop n (chars bs))) f.taken
      ∙ (ap (λ t. take n bs ++ take m t) f.rest ∙ (ap (λ t. take n bs ++ t) g.taken ∙ sym (take-add n m bs))));
  rest = sym (drop-drop m n (chars bs)) ∙ (ap (drop m) f.rest ∙ (g.rest ∙ ap chars (drop-drop m n bs)));
  utf8 = subst (λ (t : List ℕ). IsUtf8 t) (drop-drop m n bs) g.utf8;
  ascii = subst (λ (t : List ℕ). IsAscii t) (sym (take-add n m bs)) (IsAscii-append (take n bs) (take m (drop n bs)) f.ascii g.ascii);
  within = let a = f.within in let b = g.within in omega (arith, length-drop n bs);
}

-- a text that begins with ASCII characters begins with those bytes
pub begins_with-chars : (front bs : List ℕ) → list_all (λ c. ltb c 128) front ≡ true → IsUtf8 bs → begins_with front (chars bs) ≡ begins_with front bs
begins_with-chars [] bs low u = refl
begins_with-chars (c ∷ front) [] low u = ap (begins_with (c ∷ front)) chars-nil
begins_with-chars (c ∷ front) (b ∷ bs) low u =
    let parts = and_parts (ltb c 128) (list_all (λ d. ltb d 128) front) low in
    let low_c = ltb-true c 128 parts.0 in
    elim (cases_lt b 128) [
      | inl low_b ↦ ap (begins_with (c ∷ front)) (chars_ascii b bs low_b) ∙ ap (λ v. eqb c b && v) (begins_with-chars front bs parts.1 (utf8_after_ascii b bs low_b u))
      | inr high ↦ (let w = chars_wide b bs high u in
          let wide = w.wide in
          ap (begins_with (c ∷ front)) w.is
          ∙ (ap (λ v. v && begins_with front w.rest) (ne_eqb c w.first (λ e. omega arith)) ∙ sym (ap (λ v. v && begins_with front bs) (ne_eqb c b (λ e. omega arith)))))
    ]

-- a text may be cut after the ASCII characters that it begins with
pub begins_front : (front bs : List ℕ) → list_all (λ c. ltb c 128) front ≡ true → begins_with front bs ≡ true → IsUtf8 bs → IsAsciiFront bs (length front)
begins_front [] bs low e u = front_zero bs u
begins_front (c ∷ front) [] low e u = absurd (false≢true e)
begins_front (c ∷ front) (b ∷ bs) low e u =
    let parts = and_parts (ltb c 128) (list_all (λ d. ltb d 128) front) low in
    let same = and_parts (eqb c b) (begins_with front bs) e in
    let low_b : b < 128 = let low_c = ltb-true c 128 parts.0 in let is = eqb-true c b same.0 in omega arith in
    front_suc b bs (length front) low_b (begins_front front bs parts.1 same.1 (utf8_after_ascii b bs low_b u))

-- a text of ASCII characters is the same as bytes
pub is_text-chars : (word bs : List ℕ) → list_all (λ c. ltb c 128) word ≡ true → IsUtf8 bs → is_text word (chars bs) ≡ is_text word bs
is_text-chars [] [] low u = ap (is_text []) chars-nil
is_text-chars [] (b ∷ bs) low u = elim (cases_lt b 128) [
  | inl low_b ↦ ap (is_text []) (chars_ascii b bs low_b)
  | inr high ↦ ap (is_text []) (chars_wide b bs high u).is
]
is_text-chars (c ∷ word) [] low u = ap (is_text (c ∷ word)) chars-nil
is_text-chars (c ∷ word) (b ∷ bs) low u =
    let parts = and_parts (ltb c 128) (list_all (λ d. ltb d 128) word) low in
    let low_c = ltb-true c 128 parts.0 in
    elim (cases_lt b 128) [
      | inl low_b ↦ ap (is_text (c ∷ word)) (chars_ascii b bs low_b) ∙ ap (λ v. eqb c b && v) (is_text-chars word bs parts.1 (utf8_after_ascii b bs low_b u))
      | inr high ↦ (let w = chars_wide b bs high u in
          let wide = w.wide in
          ap (is_text (c ∷ word)) w.is
          ∙ (ap (λ v. v && is_text word w.rest) (ne_eqb c w.first (λ e. omega arith)) ∙ sym (ap (λ v. v && is_text word bs) (ne_eqb c b (λ e. omega arith)))))
    ]
