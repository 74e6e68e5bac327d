-- The float of given parts: the tests of bytes are those of characters.
use Rattle.std.proofs.Common.{◌≡◌, inl, inr, ℕ, Bool, true, false, not, ◌&&◌, ◌||◌, List, [], ◌∷◌, ◌++◌, drop, refl, sym, ap, ◌∙◌, arith}
use Rattle.std.specs.Prelude.{Some, if◌then◌else◌}
use Rattle.std.specs.Char.{is_ascii_digit}
use Rattle.std.specs.List.{list_all, list_any}
use Rattle.std.specs.Str.{chars, IsUtf8}
use Rattle.std.proofs.lemmas.Bool.{and_parts, and_left, cases_lt, not-true, true≢false}
use Rattle.std.proofs.lemmas.Bool.Decides.{nat_tests}
use Rattle.std.proofs.lemmas.List.{append_assoc}
use Rattle.std.proofs.lemmas.Str.{chars-nil, chars-IsAscii}
use Rattle.litrs_base.specs.declared.integer.IntegerBase.TheVariants.{Decimal}
use Rattle.litrs_base.specs.Text.{first_passes, is_empty}
use Rattle.litrs_base.proofs.Chars.{OnlyAscii, ascii_from_test, first_passes-chars, chars_ascii, chars_wide, utf8_after_ascii}
use Rattle.litrs_grammar.specs.Float.{FloatParts, IsFloat, is_decimal_char, is_decimal_literal, is_exponent, is_exponent_number, is_float_form, is_sign, is_underscore, sign_len}
use Rattle.litrs_grammar.specs.Integer.{is_e}
use Rattle.litrs_grammar.specs.Suffix.{is_suffix}
use Rattle.litrs_lex.proofs.IntegerBytes.{digits_are_ascii, e_is_ascii, digit_is_ascii}
use Rattle.litrs_lex.proofs.EscapeEnds.{all-chars}
use Rattle.litrs_build.proofs.IntegerLemmas.{main_is_ascii}
use Rattle.litrs_build.specs.BuiltFloat.{is_float}

-- The test is the grammar's.

pub float_of_test : (d : FloatParts) → is_float d ≡ true → IsFloat d
float_of_test d h =
    let a = and_parts (is_decimal_literal d.integer) _ h in
    let b = and_parts (is_float_form d.fraction d.exponent d.suffix) _ a.1 in
    let s = and_parts (is_suffix d.suffix) _ b.1 in
    let e = and_parts (not (first_passes is_underscore d.suffix))
    (not (is_empty d.exponent && first_passes is_e d.suffix)) s.1 in
    record {
      integer = a.0;
      form = b.0;
      suffix = s.0;
      no_underscore = not-true (first_passes is_underscore d.suffix) e.0;
      no_letter = λ bare. sym (ap (λ v. v && first_passes is_e d.suffix) bare)
          ∙ not-true (is_empty d.exponent && first_passes is_e d.suffix) e.1;
    }

-- Bytes and characters.

pub empty-chars : (bs : List ℕ) → IsUtf8 bs → is_empty (chars bs) ≡ is_empty bs
empty-chars [] u = ap is_empty chars-nil
empty-chars (b ∷ bs) u = elim (cases_lt b 128) [
  | inl low ↦ ap is_empty (chars_ascii b bs low)
  | inr high ↦ ap is_empty (chars_wide b bs high u).is
]

pub decimal-chars : (bs : List ℕ) → IsUtf8 bs →
    is_decimal_literal (chars bs) ≡ is_decimal_literal bs
decimal-chars bs u =
    (λ i. first_passes-chars is_ascii_digit bs digit_is_ascii u i
    && all-chars is_decimal_char bs (digits_are_ascii Decimal) u i)

sign_is_ascii : OnlyAscii is_sign
sign_is_ascii c high = grind (arith, nat_tests)

pub underscore_is_ascii : OnlyAscii is_underscore
underscore_is_ascii c high = grind (arith, nat_tests)

chars_of_digits : (bs : List ℕ) → list_all is_decimal_char bs ≡ true → chars bs ≡ bs
chars_of_digits bs all = chars-IsAscii bs (main_is_ascii Decimal bs all)

-- digits are ASCII, so that they are the same characters
number-chars : (bs : List ℕ) → IsUtf8 bs → is_exponent_number (chars bs) ≡ is_exponent_number bs
number-chars bs u = by_all (list_all is_decimal_char bs) refl
  where
    by_all : (v : Bool) → list_all is_decimal_char bs ≡ v →
        is_exponent_number (chars bs) ≡ is_exponent_number bs
    by_all true all = ap is_exponent_number (chars_of_digits bs all)
    by_all false all =
        and_left _ (list_any is_ascii_digit (chars bs))
        (all-chars is_decimal_char bs (digits_are_ascii Decimal) u ∙ all)
        ∙ sym (and_left _ (list_any is_ascii_digit bs) all)

after_sign : (bs : List ℕ) (v : Bool) → first_passes is_sign bs ≡ v → IsUtf8 bs →
    is_exponent_number (drop (if v then 1 else 0) (chars bs))
    ≡ is_exponent_number (drop (if v then 1 else 0) bs)
after_sign bs false is u = number-chars bs u
after_sign [] true is u = absurd (true≢false (sym is))
after_sign (b ∷ bs) true is u =
    let low = ascii_from_test is_sign b sign_is_ascii is in
    ap (λ t. is_exponent_number (drop 1 t)) (chars_ascii b bs low)
    ∙ number-chars bs (utf8_after_ascii b bs low u)

signed-chars : (bs : List ℕ) → IsUtf8 bs →
    is_exponent_number (drop (sign_len (chars bs)) (chars bs))
    ≡ is_exponent_number (drop (sign_len bs) bs)
signed-chars bs u =
    ap (λ v. is_exponent_number (drop (if v then 1 else 0) (chars bs)))
    (first_passes-chars is_sign bs sign_is_ascii u)
    ∙ after_sign bs (first_passes is_sign bs) refl u

pub exponent-chars : (bs : List ℕ) → IsUtf8 bs → is_exponent (chars bs) ≡ is_exponent bs
unfolding is_exponent
exponent-chars [] u = ap is_exponent chars-nil
exponent-chars (b ∷ bs) u = elim (cases_lt b 128) [
  | inl low ↦ ap is_exponent (chars_ascii b bs low)
      ∙ ap (λ v. is_e b && v) (signed-chars bs (utf8_after_ascii b bs low u))
  | inr high ↦ (let wide = chars_wide b bs high u in
      ap is_exponent wide.is
      ∙ (and_left (is_e wide.first) _ (e_is_ascii wide.first wide.wide)
      ∙ sym (and_left (is_e b) _ (e_is_ascii b high))))
]

-- The forms after the integer part.

pub form_of_none : (t exponent suffix : List ℕ) → is_empty t ≡ true →
    is_float_form (Some t) exponent suffix ≡ (is_empty exponent && is_empty suffix)
form_of_none [] exponent suffix none = refl
form_of_none (c ∷ t) exponent suffix none = absurd (true≢false (sym none))

pub form_of_some : (t exponent suffix : List ℕ) → is_empty t ≡ false →
    is_float_form (Some t) exponent suffix
    ≡ (is_decimal_literal t && (is_empty exponent || is_exponent exponent))
form_of_some [] exponent suffix filled = absurd (true≢false filled)
form_of_some (c ∷ t) exponent suffix filled = refl

pub and_true : (x y : Bool) → x ≡ true → (x && y) ≡ y
and_true x y h = ap (λ v. v && y) h

-- The text.

pub period-chars : chars (46 ∷ []) ≡ 46 ∷ []
period-chars = chars_ascii 46 [] (omega arith) ∙ ap (λ t. 46 ∷ t) chars-nil

pub four_parts : (a b c d integer fraction exponent suffix : List ℕ) →
    a ≡ integer → b ≡ a ++ fraction → c ≡ b ++ exponent → d ≡ c ++ suffix →
    d ≡ integer ++ (fraction ++ (exponent ++ suffix))
four_parts a b c d integer fraction exponent suffix first second third fourth =
    fourth ∙ (ap (λ t. t ++ suffix) (third
    ∙ ap (λ t. t ++ exponent) (second ∙ ap (λ t. t ++ fraction) first))
    ∙ (append_assoc (integer ++ fraction) exponent suffix
    ∙ append_assoc integer fraction (exponent ++ suffix)))
