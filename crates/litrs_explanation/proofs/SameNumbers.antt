-- Floats with the same digits have the same value.
use Rattle.std.proofs.Common.{◌≡◌, ℕ, ◌+◌, ◌*◌, ◌^◌, Bool, true, false, List, [], ◌∷◌, ◌++◌, map, length, drop, refl, sym, ap, ◌∙◌, arith}
use Rattle.std.specs.Prelude.{filter, Option, Some, None, option_map, if◌then◌else◌}
use Rattle.std.specs.Char.{is_ascii_digit, to_ascii_lowercase}
use Rattle.std.specs.Float.Ieee.{Format, round}
use Rattle.std.specs.List.{list_all}
use Rattle.std.proofs.lemmas.Bool.{and_parts, true≢false}
use Rattle.std.proofs.lemmas.Bool.Decides.{nat_tests}
use Rattle.std.proofs.lemmas.List.Elements.{filter-append}
use Rattle.litrs_base.specs.Numeral.{numeral, place_sum, is_no_underscore}
use Rattle.litrs_base.specs.Text.{first_passes}
use Rattle.litrs_base.specs.declared.integer.IntegerBase.TheVariants.{Decimal}
use Rattle.litrs_grammar.specs.Float.{FloatParts, IsFloat, is_decimal_char, is_sign, sign_len}
use Rattle.litrs_grammar.specs.Integer.{is_e}
use Rattle.litrs_grammar.proofs.FloatCuts.{is_exponent_front}
use Rattle.litrs_grammar.proofs.Laws.Float.{float_is_cut}
use Rattle.litrs_build.specs.WrittenAnew.{HaveSameNumber}
use Rattle.litrs_build.proofs.CasedIntegers.{digits_filtered}
use Rattle.litrs_build.proofs.GroupLemmas.{digit_is_no_line, filter_at}
use Rattle.litrs_value.specs.FloatValue.{exponent_digits, fraction_digits, is_exponent_negative, is_minus, float_value}

abbrev kept : List ℕ → List ℕ
kept = filter is_no_underscore

-- an exponent without `_`, in lower case
abbrev plain : List ℕ → List ℕ
plain t = map to_ascii_lowercase (kept t)

digit_lower : (c : ℕ) → is_ascii_digit c ≡ true → to_ascii_lowercase c ≡ c
digit_lower c digit = grind (arith, nat_tests)

digit_no_sign : (c : ℕ) → is_ascii_digit c ≡ true → is_sign c ≡ false
digit_no_sign c digit = grind (arith, nat_tests)

sign_lower : (c : ℕ) → is_sign c ≡ true → to_ascii_lowercase c ≡ c
sign_lower c sign = grind (arith, nat_tests)

sign_kept : (c : ℕ) → is_sign c ≡ true → is_no_underscore c ≡ true
sign_kept c sign = grind (arith, nat_tests)

e_kept : (c : ℕ) → is_e c ≡ true → is_no_underscore c ≡ true
e_kept c letter = grind (arith, nat_tests)

no_sign_no_minus : (c : ℕ) → is_sign c ≡ false → is_minus c ≡ false
no_sign_no_minus c none = grind (arith, nat_tests)

-- digits have no case, and no `_`
digits_lower : (ds : List ℕ) → list_all is_ascii_digit ds ≡ true → map to_ascii_lowercase ds ≡ ds
digits_lower [] all = refl
digits_lower (c ∷ ds) all =
    let parts = and_parts (is_ascii_digit c) (list_all is_ascii_digit ds) all in
    (λ i. digit_lower c parts.0 i ∷ digits_lower ds parts.1 i)

digits_kept : (ds : List ℕ) → list_all is_ascii_digit ds ≡ true → kept ds ≡ ds
digits_kept [] all = refl
digits_kept (c ∷ ds) all =
    let parts = and_parts (is_ascii_digit c) (list_all is_ascii_digit ds) all in
    filter_at c ds (digit_is_no_line Decimal c parts.0)
    ∙ ap (λ (t : List ℕ). c ∷ t) (digits_kept ds parts.1)

no_minus_first : (ds : List ℕ) → first_passes is_sign ds ≡ false → first_passes is_minus ds ≡ false
no_minus_first [] none = refl
no_minus_first (c ∷ ds) none = no_sign_no_minus c none

digit_sign_first : (ds : List ℕ) → list_all is_ascii_digit ds ≡ true → first_passes is_sign ds ≡ false
digit_sign_first [] all = refl
digit_sign_first (c ∷ ds) all = digit_no_sign c (and_parts (is_ascii_digit c) (list_all is_ascii_digit ds) all).0

plain_is : (t : List ℕ) → list_all is_decimal_char t ≡ true → plain t ≡ kept t
plain_is t all = digits_lower (kept t) (digits_filtered Decimal t all)

plain_number : (t : List ℕ) → list_all is_decimal_char t ≡ true → numeral 10 (plain t) ≡ numeral 10 t
plain_number t all =
    ap (numeral 10) (plain_is t all) ∙ ap (place_sum 10) (digits_kept (kept t) (digits_filtered Decimal t all))

-- the sign and the number of an exponent
record SameExponent (p q : List ℕ) : Type 0 where
  sign : is_exponent_negative p ≡ is_exponent_negative q
  number : numeral 10 (exponent_digits p) ≡ numeral 10 (exponent_digits q)

without_sign : (c e : ℕ) (cs : List ℕ) → first_passes is_sign cs ≡ false → list_all is_decimal_char cs ≡ true → SameExponent (e ∷ plain cs) (c ∷ cs)
without_sign c e cs none all =
    let digits = digits_filtered Decimal cs all in
    let new : first_passes is_sign (plain cs) ≡ false = ap (first_passes is_sign) (plain_is cs all) ∙ digit_sign_first (kept cs) digits in
    record {
      sign = no_minus_first (plain cs) new ∙ sym (no_minus_first cs none);
      number = ap (λ (v : Bool). numeral 10 (drop (if v then 1 else 0) (plain cs))) new
          ∙ (plain_number cs all ∙ sym (ap (λ (v : Bool). numeral 10 (drop (if v then 1 else 0) cs)) none));
    }

with_sign : (c e s : ℕ) (ds : List ℕ) → is_sign s ≡ true → list_all is_decimal_char ds ≡ true → SameExponent (e ∷ (s ∷ plain ds)) (c ∷ (s ∷ ds))
with_sign c e s ds is all = record {
  sign = refl;
  number = ap (λ (v : Bool). numeral 10 (drop (if v then 1 else 0) (s ∷ plain ds))) is
      ∙ (plain_number ds all ∙ sym (ap (λ (v : Bool). numeral 10 (drop (if v then 1 else 0) (s ∷ ds))) is));
}

signed_plain : (s : ℕ) (ds : List ℕ) → is_sign s ≡ true → plain (s ∷ ds) ≡ s ∷ plain ds
signed_plain s ds is =
    ap (map to_ascii_lowercase) (filter_at s ds (sign_kept s is)) ∙ ap (λ (x : ℕ). x ∷ plain ds) (sign_lower s is)

after_letter : (c e : ℕ) (cs : List ℕ) (v : Bool) → first_passes is_sign cs ≡ v → list_all is_decimal_char (drop (if v then 1 else 0) cs) ≡ true →
    SameExponent (e ∷ plain cs) (c ∷ cs)
after_letter c e cs false is all = without_sign c e cs is all
after_letter c e [] true is all = absurd (true≢false (sym is))
after_letter c e (s ∷ ds) true is all = rw (signed_plain s ds is) (with_sign c e s ds is all)

plain_same : (p : List ℕ) → is_exponent_front p ≡ true → SameExponent (plain p) p
plain_same [] front = record { sign = refl; number = refl }
plain_same (c ∷ cs) front =
    let parts = and_parts (is_e c) (list_all is_decimal_char (drop (sign_len cs) cs)) front in
    rw (ap (map to_ascii_lowercase) (filter_at c cs (e_kept c parts.0)))
    (after_letter c (to_ascii_lowercase c) cs (first_passes is_sign cs) refl parts.1)

same_exponent : (p q : List ℕ) → is_exponent_front p ≡ true → is_exponent_front q ≡ true → plain p ≡ plain q → SameExponent p q
same_exponent p q front back same =
    let one = plain_same p front in
    let two = plain_same q back in
    record {
      sign = sym one.sign ∙ (ap is_exponent_negative same ∙ two.sign);
      number = sym one.number ∙ (ap (λ (t : List ℕ). numeral 10 (exponent_digits t)) same ∙ two.number);
    }

fraction_kept : (f : Option (List ℕ)) → kept (fraction_digits f) ≡ fraction_digits (option_map kept f)
fraction_kept None = refl
fraction_kept (Some t) = refl

pub same_values : (d e : FloatParts) → IsFloat d → IsFloat e → HaveSameNumber d e → (format : Format) (negative : Bool) → float_value format negative d ≡ float_value format negative e
same_values d e is_d is_e same format negative =
    let exponent = same_exponent d.exponent e.exponent (float_is_cut d is_d).exponent (float_is_cut e is_e).exponent same.exponent in
    let fraction : kept (fraction_digits d.fraction) ≡ kept (fraction_digits e.fraction) =
    fraction_kept d.fraction ∙ (ap fraction_digits same.fraction ∙ sym (fraction_kept e.fraction)) in
    let digits : kept (d.integer ++ fraction_digits d.fraction) ≡ kept (e.integer ++ fraction_digits e.fraction) =
    filter-append is_no_underscore d.integer (fraction_digits d.fraction)
    ∙ ((λ i. same.integer i ++ fraction i) ∙ sym (filter-append is_no_underscore e.integer (fraction_digits e.fraction))) in
    (λ i. round format negative
    (place_sum 10 (digits i) * 10 ^ (if exponent.sign i then 0 else exponent.number i))
    (10 ^ (length (fraction i) + (if exponent.sign i then exponent.number i else 0))))
