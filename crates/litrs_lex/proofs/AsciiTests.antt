-- Tests that only ASCII characters pass: of bytes and of characters they answer the same.
use Rattle.std.proofs.Common.{◌≡◌, ℕ, zero, suc, ◌<◌, ◌≤◌, Bool, true, false, ◌||◌, List, [], ◌∷◌, length, take, get_or, refl, sym, ap, ◌∙◌, arith, inl, inr}
use Rattle.std.specs.Prelude.{◌==◌, encode_utf8, encode_utf8_all}
use Rattle.std.specs.List.{list_all, list_any}
use Rattle.std.specs.Str.{chars, IsUtf8}
use Rattle.std.proofs.lemmas.Bool.{and_parts, ne_eqb, cases_lt}
use Rattle.std.proofs.lemmas.List.{append-nil}
use Rattle.std.proofs.lemmas.List.Folds.{list_any-append}
use Rattle.std.proofs.lemmas.List.Recursion.{or_from_places}
use Rattle.std.proofs.lemmas.Str.{inside_one, encodes-chars, encode_ascii}
use Rattle.litrs_base.specs.Text.{first_passes}
use Rattle.litrs_base.proofs.Chars.{OnlyAscii, IsAsciiFront, front_zero, front_suc, utf8_after_ascii, ascii_from_test, first_passes-chars}

pub only_char : (k : ℕ) → k < 128 → OnlyAscii (λ c. c == k)
only_char k low c high = ne_eqb c k (λ e. omega arith)

-- a text contains an ASCII character if and only if its bytes contain it
list_any-encode : (p : ℕ → Bool) (c : ℕ) → OnlyAscii p → list_any p (encode_utf8 c) ≡ p c
list_any-encode p c only = elim (cases_lt c 128) [
  | inl low ↦ ap (list_any p) (encode_ascii c low) ∙ or_nothing (p c)
  | inr high ↦ or_from_places (list_any p) p refl (λ _ _. refl) (encode_utf8 c) 0
      (λ i inside. elim (cases_lt (get_or (encode_utf8 c) i 0) 128) [
        | inl small ↦ absurd (let same : c ≡ get_or (encode_utf8 c) i 0 = inside_one c [] (encode_utf8 c) i (sym (append-nil (encode_utf8 c))) inside small in omega arith)
        | inr wide ↦ only (get_or (encode_utf8 c) i 0) wide
      ]) ∙ sym (only c high)
]
  where
    or_nothing : (b : Bool) → (b || false) ≡ b
    or_nothing true = refl
    or_nothing false = refl

list_any-encodes : (p : ℕ → Bool) → OnlyAscii p → (t : List ℕ) → list_any p (encode_utf8_all t) ≡ list_any p t
list_any-encodes p only [] = refl
list_any-encodes p only (c ∷ t) =
    list_any-append p (encode_utf8 c) (encode_utf8_all t) ∙ (ap (λ v. v || list_any p (encode_utf8_all t)) (list_any-encode p c only) ∙ ap (λ v. p c || v) (list_any-encodes p only t))

pub list_any-chars : (p : ℕ → Bool) (bs : List ℕ) → OnlyAscii p → IsUtf8 bs → list_any p (chars bs) ≡ list_any p bs
list_any-chars p bs only u = sym (list_any-encodes p only (chars bs)) ∙ ap (list_any p) (encodes-chars bs u)

-- as many bytes as pass such a test are characters
pub ascii_front : (p : ℕ → Bool) (bs : List ℕ) (n : ℕ) → OnlyAscii p → IsUtf8 bs → n ≤ length bs → list_all p (take n bs) ≡ true → IsAsciiFront bs n
ascii_front p bs zero only u within all = front_zero bs u
ascii_front p [] (suc n) only u within all = absurd (omega arith)
ascii_front p (b ∷ bs) (suc n) only u within all =
    let both = and_parts (p b) (list_all p (take n bs)) all in
    let low = ascii_from_test p b only both.0 in
    front_suc b bs n low (ascii_front p bs n only (utf8_after_ascii b bs low u) (omega arith) both.1)

pub first_next : (p : ℕ → Bool) (ys : List ℕ) (c : ℕ) (t : List ℕ) → OnlyAscii p → IsUtf8 ys → chars ys ≡ c ∷ t → p c ≡ first_passes p ys
first_next p ys c t only u is = sym (ap (first_passes p) is) ∙ first_passes-chars p ys only u
