-- Hex digits in either case.
use Rattle.std.proofs.Common.{◌≡◌, ℕ, zero, suc, ◌/◌, ◌%◌, ◌^◌, ◌<◌, Bool, true, false, eqb, cond, List, [], ◌∷◌, length, map, refl, ap, ◌∙◌, arith}
use Rattle.std.specs.Prelude.{count_by, nat_le}
use Rattle.std.specs.Char.{digit_value, is_ascii_hexdigit, to_ascii_uppercase}
use Rattle.std.specs.Fmt.{digits, digits_onto, digit_glyph}
use Rattle.std.specs.List.{list_all}
use Rattle.std.proofs.lemmas.Bool.{cond_both, le-leb}
use Rattle.std.proofs.lemmas.Bool.Decides.{nat_tests}
use Rattle.std.proofs.lemmas.Fmt.{digits_is_IsNumeral}
use Rattle.std.proofs.lemmas.List.{length-map}
use Rattle.std.proofs.lemmas.List.Folds.{list_all-map}
use Rattle.std.proofs.lemmas.List.Sums.{count_by-le-length}
use Rattle.std.proofs.lemmas.Str.{digit_value-digit_char}
use Rattle.litrs_base.specs.Numeral.{place_sum, is_no_underscore, numeral}
use Rattle.litrs_base.specs.Text.{first_passes}
use Rattle.litrs_build.proofs.HexDigits.{hex_glyphs, glyph_passes, digits_pass, digits_count, place_after, filter_kept, length_digits}
use Rattle.litrs_build.proofs.GroupLemmas.{first_of_all}

-- a digit in upper case is that in lower case, in upper case
glyph_upper : (d : ℕ) → d < 16 → digit_glyph true d ≡ to_ascii_uppercase (digit_glyph false d)
glyph_upper d small = grind (arith, nat_tests)

onto_upper : (k n : ℕ) (acc : List ℕ) →
    digits_onto k 16 true n (map to_ascii_uppercase acc)
    ≡ map to_ascii_uppercase (digits_onto k 16 false n acc)
onto_upper zero n acc = refl
onto_upper (suc k) n acc =
    let low = digit_glyph false (n % 16) in
    let last : digit_glyph true (n % 16) ∷ map to_ascii_uppercase acc
    ≡ map to_ascii_uppercase (low ∷ acc) =
    ap (λ (c : ℕ). c ∷ map to_ascii_uppercase acc) (glyph_upper (n % 16) (omega arith)) in
    ap (λ (l : List ℕ). cond (eqb (n / 16) 0) l (digits_onto k 16 true (n / 16) l)) last
    ∙ cond_both (eqb (n / 16) 0) (low ∷ acc) (digits_onto k 16 false (n / 16) (low ∷ acc))
    (λ l. cond (eqb (n / 16) 0) (map to_ascii_uppercase (low ∷ acc))
    (digits_onto k 16 true (n / 16) (map to_ascii_uppercase (low ∷ acc)))
    ≡ map to_ascii_uppercase l)
    (λ is. ap (λ (b : Bool). cond b (map to_ascii_uppercase (low ∷ acc))
    (digits_onto k 16 true (n / 16) (map to_ascii_uppercase (low ∷ acc)))) is)
    (λ is. ap (λ (b : Bool). cond b (map to_ascii_uppercase (low ∷ acc))
    (digits_onto k 16 true (n / 16) (map to_ascii_uppercase (low ∷ acc)))) is
    ∙ onto_upper k (n / 16) (low ∷ acc))

digits_upper : (n : ℕ) → digits 16 true n ≡ map to_ascii_uppercase (digits 16 false n)
unfolding digits
digits_upper n = onto_upper 64 n []

-- a test that the sixteen pass in both cases, each passes
pub cased_glyph_passes : (upper : Bool) (p : ℕ → Bool) → list_all p hex_glyphs ≡ true →
    list_all (λ c. p (to_ascii_uppercase c)) hex_glyphs ≡ true → (d : ℕ) → d < 16 →
    p (digit_glyph upper d) ≡ true
cased_glyph_passes false p low high d small = glyph_passes p low d small
cased_glyph_passes true p low high d small =
    ap p (glyph_upper d small) ∙ glyph_passes (λ c. p (to_ascii_uppercase c)) high d small

pub cased_digits_pass : (upper : Bool) (p : ℕ → Bool) → list_all p hex_glyphs ≡ true →
    list_all (λ c. p (to_ascii_uppercase c)) hex_glyphs ≡ true → (n : ℕ) →
    list_all p (digits 16 upper n) ≡ true
cased_digits_pass false p low high n = digits_pass p low n
cased_digits_pass true p low high n =
    ap (list_all p) (digits_upper n) ∙ (list_all-map p to_ascii_uppercase (digits 16 false n)
    ∙ digits_pass (λ c. p (to_ascii_uppercase c)) high n)

pub cased_digits_begin : (upper : Bool) (n : ℕ) → n < 16 ^ 64 →
    first_passes is_ascii_hexdigit (digits 16 upper n) ≡ true
cased_digits_begin upper n small =
    first_of_all is_ascii_hexdigit (digits 16 upper n)
    (digits_is_IsNumeral 16 upper (omega arith) (omega arith) n small).0.0
    (cased_digits_pass upper is_ascii_hexdigit refl refl n)

pub cased_numeral : (upper : Bool) (n : ℕ) → n < 16 ^ 64 → numeral 16 (digits 16 upper n) ≡ n
cased_numeral upper n small =
    let ds = digits 16 upper n in
    let value = (digits_is_IsNumeral 16 upper (omega arith) (omega arith) n small).1 in
    let after = place_after 0 ds in
    ap (place_sum 16)
    (filter_kept is_no_underscore ds (cased_digits_pass upper is_no_underscore refl refl n))
    ∙ omega (arith, value, after)

pub cased_count : (upper : Bool) (n : ℕ) → n < 16 ^ 6 →
    nat_le (count_by is_ascii_hexdigit (digits 16 upper n)) 6 ≡ true
cased_count false n small = digits_count n small
cased_count true n small =
    let ds = digits 16 true n in
    let count = count_by-le-length is_ascii_hexdigit ds in
    let same : length ds ≡ length (digits 16 false n) =
    ap length (digits_upper n) ∙ length-map (digits 16 false n) to_ascii_uppercase in
    let most = length_digits n small in
    le-leb (count_by is_ascii_hexdigit ds) 6 (omega (arith, count, most, same))

-- the value of a digit
pub cased_value : (upper : Bool) (d : ℕ) → d < 16 → digit_value (digit_glyph upper d) ≡ d
cased_value false d small = digit_value-digit_char d (omega arith)
cased_value true d small = grind (arith, nat_tests)
