-- Hex digits, in lower case: each passes what the sixteen pass, they have the value of the number,
-- and a character has at most six.
use Rattle.std.proofs.Common.{◌≡◌, ℕ, zero, suc, ◌+◌, ◌*◌, ◌/◌, ◌%◌, ◌^◌, ◌≤◌, ◌<◌, Bool, true, false, eqb, List, [], ◌∷◌, length, get_or, refl, sym, ap, ◌∙◌, arith}
use Rattle.std.specs.Prelude.{codes, filter, count_by, nat_le}
use Rattle.std.specs.Char.{digit_value, is_ascii_hexdigit}
use Rattle.std.specs.Fmt.{digits, digits_onto, digit_glyph}
use Rattle.std.specs.List.{list_all}
use Rattle.std.specs.Str.Parse.{digits_value_after}
use Rattle.std.proofs.lemmas.Bool.{and_from, and_parts, cond_both, cond-true, eqb-false, le-leb}
use Rattle.std.proofs.lemmas.Fmt.{digits_is_IsNumeral}
use Rattle.std.proofs.lemmas.List.Sums.{count_by-le-length}
use Rattle.std.proofs.Math.Nat.{pow-zero, pow-suc}
use Rattle.litrs_base.specs.Numeral.{place_sum, is_no_underscore, numeral}
use Rattle.litrs_base.specs.Text.{first_passes}
use Rattle.litrs_build.proofs.GroupLemmas.{first_of_all}

-- a test that all of a list pass, each of them passes
pub passes_at : (p : ℕ → Bool) (t : List ℕ) (i : ℕ) → list_all p t ≡ true → i < length t →
    p (get_or t i 0) ≡ true
passes_at p [] i all h = absurd (omega arith)
passes_at p (c ∷ t) zero all h = (and_parts (p c) (list_all p t) all).0
passes_at p (c ∷ t) (suc i) all h =
    passes_at p t i (and_parts (p c) (list_all p t) all).1 (omega arith)

-- the sixteen digits
abbrev pub hex_glyphs : List ℕ
hex_glyphs = codes "0123456789abcdef"

glyph_at : (d : ℕ) → d < 16 → digit_glyph false d ≡ get_or hex_glyphs d 0
glyph_at zero small = refl
glyph_at (suc zero) small = refl
glyph_at (suc (suc zero)) small = refl
glyph_at (suc (suc (suc zero))) small = refl
glyph_at (suc (suc (suc (suc zero)))) small = refl
glyph_at (suc (suc (suc (suc (suc zero))))) small = refl
glyph_at (suc (suc (suc (suc (suc (suc zero)))))) small = refl
glyph_at (suc (suc (suc (suc (suc (suc (suc zero))))))) small = refl
glyph_at (suc (suc (suc (suc (suc (suc (suc (suc zero)))))))) small = refl
glyph_at (suc (suc (suc (suc (suc (suc (suc (suc (suc zero))))))))) small = refl
glyph_at (suc (suc (suc (suc (suc (suc (suc (suc (suc (suc zero)))))))))) small = refl
glyph_at (suc (suc (suc (suc (suc (suc (suc (suc (suc (suc (suc zero))))))))))) small = refl
glyph_at (suc (suc (suc (suc (suc (suc (suc (suc (suc (suc (suc (suc zero)))))))))))) small = refl
glyph_at (suc (suc (suc (suc (suc (suc (suc (suc (suc (suc (suc (suc (suc zero))))))))))))) small =
    refl
glyph_at (suc (suc (suc (suc (suc (suc (suc (suc (suc (suc (suc (suc (suc (suc zero))))))))))))))
    small = refl
glyph_at (suc (suc (suc
    (suc (suc (suc (suc (suc (suc (suc (suc (suc (suc (suc (suc zero))))))))))))))) small = refl
glyph_at (suc (suc (suc
    (suc (suc (suc (suc (suc (suc (suc (suc (suc (suc (suc (suc (suc d)))))))))))))))) small =
    absurd (omega arith)

pub glyph_passes : (p : ℕ → Bool) → list_all p hex_glyphs ≡ true → (d : ℕ) → d < 16 →
    p (digit_glyph false d) ≡ true
glyph_passes p all d small = ap p (glyph_at d small) ∙ passes_at p hex_glyphs d all small

passes_onto : (p : ℕ → Bool) → list_all p hex_glyphs ≡ true → (k n : ℕ) (acc : List ℕ) →
    list_all p acc ≡ true →
    list_all p (digits_onto k 16 false n acc) ≡ true
passes_onto p all zero n acc rest = rest
passes_onto p all (suc k) n acc rest =
    let last = digit_glyph false (n % 16) in
    let more : list_all p (last ∷ acc) ≡ true =
    and_from (p last) (list_all p acc) (glyph_passes p all (n % 16) (omega arith)) rest in
    cond_both (eqb (n / 16) 0) (last ∷ acc) (digits_onto k 16 false (n / 16) (last ∷ acc))
    (λ t. list_all p t ≡ true)
    (λ is. more) (λ is. passes_onto p all k (n / 16) (last ∷ acc) more)

-- a test that the sixteen digits pass, those of a number pass
pub digits_pass : (p : ℕ → Bool) → list_all p hex_glyphs ≡ true → (n : ℕ) →
    list_all p (digits 16 false n) ≡ true
unfolding digits
digits_pass p all n = passes_onto p all 64 n [] refl

pub digits_begin : (p : ℕ → Bool) → list_all p hex_glyphs ≡ true → (n : ℕ) → n < 16 ^ 64 →
    first_passes p (digits 16 false n) ≡ true
digits_begin p all n small =
    first_of_all p (digits 16 false n)
    (digits_is_IsNumeral 16 false (omega arith) (omega arith) n small).0.0 (digits_pass p all n)

-- Their value.

pub place_after : (n : ℕ) (t : List ℕ) → digits_value_after 16 n t ≡ n * 16 ^ length t + place_sum 16 t
unfolding place_sum
place_after n [] = let one : 16 ^ 0 ≡ 1 = pow-zero 16 in sym (ap (λ power. n * power + 0) one
    ∙ omega arith)
place_after n (c ∷ t) =
    let power = 16 ^ length t in
    let rest = place_sum 16 t in
    let v = digit_value c in
    let more : 16 ^ suc (length t) ≡ power * 16 = pow-suc 16 (length t) in
    place_after (n * 16 + v) t ∙ sym (ap (λ p. n * p + (v * power + rest)) more ∙ omega arith)

pub filter_kept : (p : ℕ → Bool) (t : List ℕ) → list_all p t ≡ true → filter p t ≡ t
filter_kept p [] all = refl
filter_kept p (c ∷ t) all =
    let both = and_parts (p c) (list_all p t) all in
    cond-true (p c) (c ∷ filter p t) (filter p t) both.0 ∙ ap (λ l. c ∷ l) (filter_kept p t both.1)

pub digits-numeral : (n : ℕ) → n < 16 ^ 64 → numeral 16 (digits 16 false n) ≡ n
digits-numeral n small =
    let ds = digits 16 false n in
    let value = (digits_is_IsNumeral 16 false (omega arith) (omega arith) n small).1 in
    let after = place_after 0 ds in
    ap (place_sum 16) (filter_kept is_no_underscore ds (digits_pass is_no_underscore refl n))
    ∙ omega (arith, value, after)

-- Their number.

length_onto : (j k n : ℕ) (acc : List ℕ) → n < 16 ^ suc j →
    length (digits_onto k 16 false n acc) ≤ suc j + length acc
length_onto j zero n acc small = omega arith
length_onto zero (suc k) n acc small =
    let last = digit_glyph false (n % 16) in
    let one : 16 ^ suc zero ≡ 16 = refl in
    cond_both (eqb (n / 16) 0) (last ∷ acc) (digits_onto k 16 false (n / 16) (last ∷ acc))
    (λ t. length t ≤ suc zero + length acc)
    (λ is. omega arith) (λ is. absurd (eqb-false (n / 16) 0 is (omega arith)))
length_onto (suc j) (suc k) n acc small =
    let last = digit_glyph false (n % 16) in
    let power : 16 ^ suc (suc j) ≡ 16 ^ suc j * 16 = pow-suc 16 (suc j) in
    let less : n / 16 < 16 ^ suc j = omega arith in
    let more = length_onto j k (n / 16) (last ∷ acc) less in
    cond_both (eqb (n / 16) 0) (last ∷ acc) (digits_onto k 16 false (n / 16) (last ∷ acc))
    (λ t. length t ≤ suc (suc j) + length acc)
    (λ is. omega arith) (λ is. omega (arith, more))

pub length_digits : (n : ℕ) → n < 16 ^ 6 → length (digits 16 false n) ≤ 6
unfolding digits
length_digits n small = length_onto 5 64 n [] small

pub digits_count : (n : ℕ) → n < 16 ^ 6 →
    nat_le (count_by is_ascii_hexdigit (digits 16 false n)) 6 ≡ true
digits_count n small =
    let ds = digits 16 false n in
    let count = count_by-le-length is_ascii_hexdigit ds in
    let most = length_digits n small in
    le-leb (count_by is_ascii_hexdigit ds) 6 (omega (arith, count, most))
