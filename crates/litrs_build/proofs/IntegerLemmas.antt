-- The integer of digits in groups and a suffix: that it is one, what its value is, and which
-- suffixes it may have.
use Rattle.std.proofs.Common.{◌≡◌, inl, inr, ℕ, suc, ◌<◌, Bool, true, false, not, eqb, ltb, ◌&&◌, ◌||◌, List, [], ◌∷◌, ◌++◌, map, length, refl, sym, ap, subst, ◌∙◌, arith}
use Rattle.std.specs.Prelude.{filter, codes, if◌then◌else◌}
use Rattle.std.specs.Char.{to_ascii_lowercase, is_ascii_digit}
use Rattle.std.specs.List.{list_all, list_any}
use Rattle.std.specs.Str.{chars, IsUtf8, IsAscii}
use Rattle.std.proofs.lemmas.Bool.{and_from, and_parts, and_right, or_left, or_parts, ne_eqb, eq-eqb, eqb-false, true≢false, false≢true, cases_eq, not-true}
use Rattle.std.proofs.lemmas.Bool.Decides.{nat_tests}
use Rattle.std.proofs.lemmas.List.{append-nil, append_assoc, length-map}
use Rattle.std.proofs.lemmas.List.Elements.{filter-append}
use Rattle.std.proofs.lemmas.Str.{chars-append, chars-IsAscii, IsUtf8-from_ascii, IsAscii-append}
use Rattle.std.proofs.lemmas.Str.Ascii.{IsAscii-nil, IsAscii-cons}
use Rattle.litrs_base.specs.declared.integer.IntegerBase.{IntegerBase}
use Rattle.litrs_base.specs.declared.integer.IntegerBase.TheVariants.{Binary, Octal, Decimal, Hexadecimal}
use Rattle.litrs_base.specs.Base.{base_value, prefix, is_digit, is_digit_or_underscore}
use Rattle.litrs_base.specs.Numeral.{place_sum, numeral, is_no_underscore}
use Rattle.litrs_base.specs.Text.{first_passes, is_text}
use Rattle.litrs_base.proofs.Chars.{OnlyAscii, first_passes-chars, ascii_by_test, ascii_from_test}
use Rattle.litrs_base.proofs.Runs.{list_all-append, list_all-weaken}
use Rattle.litrs_grammar.specs.Integer.{IntegerParts, IsInteger, integer_text, integer_value, is_e, has_prefix}
use Rattle.litrs_grammar.specs.Suffix.{is_suffix}
use Rattle.litrs_grammar.proofs.Laws.Integer.{first_passes-append}
use Rattle.litrs_lex.proofs.IntegerBytes.{digits_are_ascii, e_is_ascii, prefix_is_ascii}
use Rattle.litrs_lex.proofs.NumeralLemmas.{bytes_of_digits}
use Rattle.litrs.specs.Digits.{digits_of, HaveSameDigits}
use Rattle.litrs.proofs.WrittenParts.{numeral_stays}
use Rattle.litrs_build.specs.WrittenDigits.{written_digits, grouped, ends_group}
use Rattle.litrs_build.specs.BuiltInteger.{NoIntegerHasSuffix, is_integer_suffix, is_base_letter, needs_separator, main_part, built_integer}
use Rattle.litrs_build.proofs.DigitLemmas.{written-pass, written-filled, written-value, written-lower}
use Rattle.litrs_build.proofs.GroupLemmas.{first_of_all, any_of_first, filter_grouped, all_grouped, first_grouped, digits_are_no_lines, lower_all_twice, digits_of-digit, filter_all}
use Rattle.litrs_grammar.proofs.LongerTexts.Integer.{under_stays}

-- Suffixes.

pub suffix_parts : (base : IntegerBase) (suffix : List ℕ) → is_integer_suffix base suffix ≡ true →
    (is_suffix suffix ≡ true) × (first_passes is_e suffix ≡ false)
    × (first_passes (is_digit_or_underscore base) suffix ≡ false)
suffix_parts base suffix h =
    let p = and_parts (is_suffix suffix) (not (first_passes is_e suffix)
    && not (first_passes (is_digit_or_underscore base) suffix)) h in
    let q = and_parts (not (first_passes is_e suffix))
    (not (first_passes (is_digit_or_underscore base) suffix)) p.1 in (
      p.0,
      not-true (first_passes is_e suffix) q.0,
      not-true (first_passes (is_digit_or_underscore base) suffix) q.1,
    )

-- the same test of the bytes
pub suffix-chars : (base : IntegerBase) (bs : List ℕ) → IsUtf8 bs →
    is_integer_suffix base (chars bs)
    ≡ (is_suffix (chars bs)
    && (not (first_passes is_e bs) && not (first_passes (is_digit_or_underscore base) bs)))
suffix-chars base bs u =
    ap (λ v. is_suffix (chars bs)
    && (not v && not (first_passes (is_digit_or_underscore base) (chars bs))))
    (first_passes-chars is_e bs e_is_ascii u)
    ∙ ap (λ v. is_suffix (chars bs) && (not (first_passes is_e bs) && not v))
    (first_passes-chars (is_digit_or_underscore base) bs (digits_are_ascii base) u)

-- No decimal text of digits and suffix has the prefix of another base.

flat : (z : Bool) → (((z && false) || (z && false)) || (z && false)) ≡ false
flat true = refl
flat false = refl

three : (z a b x : Bool) → a ≡ false → b ≡ false → x ≡ false →
    (((z && (a && true)) || (z && (b && true))) || (z && (x && true))) ≡ false
three z true b x p q r = absurd (true≢false p)
three z false true x p q r = absurd (true≢false q)
three z false false true p q r = absurd (true≢false r)
three true false false false p q r = refl
three false false false false p q r = refl

-- the character after the first does not end a prefix
second_stops : (c y : ℕ) (t : List ℕ) → is_base_letter y ≡ false → has_prefix (c ∷ y ∷ t) ≡ false
second_stops c y t none =
    let p = or_parts (eqb y 98) (eqb y 111 || eqb y 120) none in
    let q = or_parts (eqb y 111) (eqb y 120) p.1 in
    three (eqb 48 c) (eqb 98 y) (eqb 111 y) (eqb 120 y)
    (ne_eqb 98 y (λ e. eqb-false y 98 p.0 (sym e)))
    (ne_eqb 111 y (λ e. eqb-false y 111 q.0 (sym e)))
    (ne_eqb 120 y (λ e. eqb-false y 120 q.1 (sym e)))

-- the first is not `0`
first_stops : (c : ℕ) (t : List ℕ) → (c ≡ 48 → ⊥) → has_prefix (c ∷ t) ≡ false
first_stops c t ne = rw (ne_eqb 48 c (λ e. ne (sym e))) refl

digit_stops : (y : ℕ) → is_digit_or_underscore Decimal y ≡ true → is_base_letter y ≡ false
digit_stops y is = grind (arith, nat_tests)

digit_or_line : (c : ℕ) → is_ascii_digit c ≡ true → is_digit_or_underscore Decimal c ≡ true
digit_or_line c is = or_left (is_ascii_digit c) (eqb c 95) is

lone_by : (c : ℕ) (suffix : List ℕ) (v : Bool) →
    ((eqb c 48 && true) && first_passes is_base_letter suffix) ≡ v →
    has_prefix (c ∷ ((if v then 95 ∷ [] else []) ++ suffix)) ≡ false
lone_by c suffix true is = second_stops c 95 suffix refl
lone_by c [] false is = flat (eqb 48 c)
lone_by c (x ∷ xs) false is = elim (cases_eq c 48) [
  | inr ne ↦ first_stops c (x ∷ xs) ne
  | inl zero ↦ second_stops c x xs
      (sym (ap (λ v. (v && true) && is_base_letter x) (eq-eqb c 48 zero)) ∙ is)
]

marked_stops : (c d : ℕ) (ends : Bool) (t : List ℕ) → is_ascii_digit d ≡ true →
    has_prefix (c ∷ ((if ends then 95 ∷ [] else []) ++ (d ∷ t))) ≡ false
marked_stops c d true t digit = second_stops c 95 (d ∷ t) refl
marked_stops c d false t digit = second_stops c d t (digit_stops d (digit_or_line d digit))

pub ends_at_last : (group : ℕ) → ends_group group 0 ≡ false
ends_at_last group = and_right (ltb 0 group) _ refl

no_prefix : (group : ℕ) (ds suffix : List ℕ) → 0 < length ds → list_all is_ascii_digit ds ≡ true →
    has_prefix (main_part Decimal group ds suffix ++ suffix) ≡ false
unfolding grouped
no_prefix group [] suffix filled all = absurd (omega arith)
no_prefix group (c ∷ []) suffix filled all =
    let v = (eqb c 48 && true) && first_passes is_base_letter suffix in
    ap (λ e. has_prefix (((c ∷ ((if e then 95 ∷ [] else []) ++ [])) ++ (if v then 95 ∷ [] else []))
    ++ suffix)) (ends_at_last group)
    ∙ lone_by c suffix v refl
no_prefix group (c ∷ d ∷ ds) suffix filled all =
    let p = and_parts (is_ascii_digit c) (list_all is_ascii_digit (d ∷ ds)) all in
    let q = and_parts (is_ascii_digit d) (list_all is_ascii_digit ds) p.1 in
    let v = (eqb c 48 && false) && first_passes is_base_letter suffix in
    let ends = ends_group group (suc (length ds)) in
    let t = grouped group (d ∷ ds) in
    let s = if v then 95 ∷ [] else [] in
    ap (λ x. has_prefix (c ∷ x)) (append_assoc ((if ends then 95 ∷ [] else []) ++ t) s suffix
    ∙ append_assoc (if ends then 95 ∷ [] else []) t (s ++ suffix))
    ∙ marked_stops c d ends
    ((((if ends_group group (length ds) then 95 ∷ [] else []) ++ grouped group ds))
    ++ (s ++ suffix)) q.0

-- The integer.

all_separated : (p : ℕ → Bool) (v : Bool) → p 95 ≡ true →
    list_all p (if v then 95 ∷ [] else []) ≡ true
all_separated p true line = and_from (p 95) true line refl
all_separated p false line = refl

pub main_passes : (base : IntegerBase) (group : ℕ) (ds suffix : List ℕ) →
    list_all (is_digit base) ds ≡ true →
    list_all (is_digit_or_underscore base) (main_part base group ds suffix) ≡ true
main_passes base group ds suffix all =
    let p = is_digit_or_underscore base in
    let weaker = list_all-weaken (is_digit base) p
    (λ c h. or_left (is_digit base c) (eqb c 95) h) ds all in
    let v = needs_separator base ds suffix in
    list_all-append p (grouped group ds) (if v then 95 ∷ [] else [])
    (all_grouped p group ds (under_stays base) weaker) (all_separated p v (under_stays base))

main_first : (base : IntegerBase) (group : ℕ) (ds suffix : List ℕ) → 0 < length ds →
    list_all (is_digit base) ds ≡ true →
    first_passes (is_digit base) (main_part base group ds suffix) ≡ true
main_first base group ds suffix filled all =
    first_passes-append (is_digit base) (grouped group ds) _
    (first_grouped (is_digit base) group ds (first_of_all (is_digit base) ds filled all))

apart_from : (base : IntegerBase) (group : ℕ) (ds suffix : List ℕ) → 0 < length ds →
    list_all (is_digit base) ds ≡ true →
    base ≡ Decimal → has_prefix (integer_text (built_integer base group ds suffix)) ≡ false
apart_from Binary group ds suffix filled all is = cc
apart_from Octal group ds suffix filled all is = cc
apart_from Hexadecimal group ds suffix filled all is = cc
apart_from Decimal group ds suffix filled all is = no_prefix group ds suffix filled all

pub is_built : (base : IntegerBase) (group : ℕ) (ds suffix : List ℕ) → 0 < length ds →
    list_all (is_digit base) ds ≡ true →
    is_integer_suffix base suffix ≡ true → IsInteger (built_integer base group ds suffix)
is_built base group ds suffix filled all allowed =
    let parts = suffix_parts base suffix allowed in
    let first = main_first base group ds suffix filled all in
    record {
      digits = main_passes base group ds suffix all;
      some_digit = any_of_first (is_digit base) (main_part base group ds suffix) first;
      ends = parts.2;
      suffix = parts.0;
      no_exponent = parts.1;
      decimal_digit = λ e. subst
          (λ (b : IntegerBase). first_passes (is_digit b) (main_part base group ds suffix)
          ≡ true) e first;
      decimal_prefix = apart_from base group ds suffix filled all;
    }

-- Its value.

filter_separated : (v : Bool) → filter is_no_underscore (if v then 95 ∷ [] else []) ≡ []
filter_separated true = refl
filter_separated false = refl

pub digits_left : (base : IntegerBase) (group : ℕ) (ds suffix : List ℕ) →
    list_all (is_digit base) ds ≡ true →
    filter is_no_underscore (main_part base group ds suffix) ≡ ds
digits_left base group ds suffix all =
    let s = if needs_separator base ds suffix then 95 ∷ [] else [] in
    filter-append is_no_underscore (grouped group ds) s
    ∙ (ap (λ t. filter is_no_underscore (grouped group ds) ++ t)
    (filter_separated (needs_separator base ds suffix))
    ∙ (append-nil (filter is_no_underscore (grouped group ds))
    ∙ filter_grouped group ds (digits_are_no_lines base ds all)))

pub built-value : (base : IntegerBase) (group : ℕ) (ds suffix : List ℕ) →
    list_all (is_digit base) ds ≡ true →
    integer_value (built_integer base group ds suffix) ≡ place_sum (base_value base) ds
built-value base group ds suffix all =
    ap (place_sum (base_value base)) (digits_left base group ds suffix all)

-- the digits of a main part that are grouped anew
pub regrouped-value : (base : IntegerBase) (group : ℕ) (main suffix : List ℕ) →
    list_all (is_digit base) (digits_of main) ≡ true →
    integer_value (built_integer base group (digits_of main) suffix)
    ≡ numeral (base_value base) main
regrouped-value base group main suffix all =
    let new = main_part base group (digits_of main) suffix in
    let same : HaveSameDigits new main =
    ap (map to_ascii_lowercase) (digits_left base group (digits_of main) suffix all)
    ∙ lower_all_twice (filter is_no_underscore main) in
    numeral_stays (base_value base) new main same

-- The digits of a number as a main part.

pub written-main : (base : IntegerBase) (value : ℕ) (main : List ℕ) →
    main ≡ written_digits base value →
    list_all (is_digit_or_underscore base) main ≡ true
written-main base value main is =
    ap (list_all (is_digit_or_underscore base)) is
    ∙ list_all-weaken (is_digit base) (is_digit_or_underscore base)
    (λ c h. or_left (is_digit base c) (eqb c 95) h)
    (written_digits base value) (written-pass base value)

pub written-first : (base : IntegerBase) (value : ℕ) (main : List ℕ) →
    main ≡ written_digits base value → first_passes (is_digit base) main ≡ true
written-first base value main is =
    ap (first_passes (is_digit base)) is
    ∙ first_of_all (is_digit base) (written_digits base value) (written-filled base value)
    (written-pass base value)

pub written-any : (base : IntegerBase) (value : ℕ) (main : List ℕ) →
    main ≡ written_digits base value → list_any (is_digit base) main ≡ true
written-any base value main is =
    any_of_first (is_digit base) main (written-first base value main is)

pub written-decimal : (base : IntegerBase) (value : ℕ) (main : List ℕ) →
    main ≡ written_digits base value →
    base ≡ Decimal → first_passes is_ascii_digit main ≡ true
written-decimal base value main is decimal =
    subst (λ (b : IntegerBase). first_passes (is_digit b) main ≡ true) decimal
    (written-first base value main is)

-- they are the digits of themselves
pub written-digits_of : (base : IntegerBase) (value : ℕ) (main : List ℕ) →
    main ≡ written_digits base value → digits_of main ≡ written_digits base value
written-digits_of base value main is =
    ap digits_of is
    ∙ (ap (map to_ascii_lowercase)
    (filter_all (written_digits base value)
    (digits_are_no_lines base (written_digits base value) (written-pass base value)))
    ∙ written-lower base value)

pub written-number : (base : IntegerBase) (group value : ℕ) (suffix : List ℕ) →
    integer_value (built_integer base group (written_digits base value) suffix) ≡ value
written-number base group value suffix =
    built-value base group (written_digits base value) suffix (written-pass base value)
    ∙ written-value base value

-- The main part of an integer, as bytes.

pub main_bytes : (d : IntegerParts) → IsInteger d → (main bytes : List ℕ) → IsUtf8 main →
    chars main ≡ d.main → bytes ≡ main → bytes ≡ d.main
main_bytes d h main bytes u of_main same = same
    ∙ bytes_of_digits d.base main d.main u of_main h.digits

-- The suffixes that an integer of the base may have.

pub some_integer : (base : IntegerBase) (suffix : List ℕ) → is_integer_suffix base suffix ≡ true →
    NoIntegerHasSuffix base suffix → ⊥
some_integer base suffix allowed none =
    none (built_integer base 0 (written_digits base 0) suffix)
    (is_built base 0 (written_digits base 0) suffix (written-filled base 0)
    (written-pass base 0) allowed) refl refl

-- The need of a separator, by the main part.

is_lone : (c : ℕ) (ds : List ℕ) →
    is_text (c ∷ ds) (codes "0") ≡ (eqb (suc (length ds)) 1 && eqb c 48)
is_lone c [] = lone (eqb c 48)
  where
    lone : (v : Bool) → (v && true) ≡ v
    lone true = refl
    lone false = refl
is_lone c (d ∷ ds) = many (eqb c 48)
    ∙ sym (ap (λ v. v && eqb c 48) (ne_eqb (suc (suc (length ds))) 1 (λ e. omega arith)))
  where
    many : (v : Bool) → (v && false) ≡ false
    many true = refl
    many false = refl

digit_lower : (c : ℕ) → is_ascii_digit c ≡ true → to_ascii_lowercase c ≡ c
digit_lower c is = grind (arith, nat_tests)

digit_no_line : (c : ℕ) → is_ascii_digit c ≡ true → c ≡ 95 → ⊥
digit_no_line c is e = true≢false (sym is ∙ ap is_ascii_digit e)

-- of a decimal main part
pub separated : (main suffix : List ℕ) → first_passes is_ascii_digit main ≡ true →
    needs_separator Decimal (digits_of main) suffix
    ≡ ((eqb (length (filter is_no_underscore main)) 1 && first_passes (λ c. eqb c 48) main)
    && first_passes is_base_letter suffix)
separated [] suffix digit = absurd (false≢true digit)
separated (c ∷ r) suffix digit =
    let ne = digit_no_line c digit in
    let ds : digits_of (c ∷ r) ≡ c ∷ digits_of r = digits_of-digit c r ne
    ∙ ap (λ n. n ∷ digits_of r) (digit_lower c digit) in
    let count : length (filter is_no_underscore (c ∷ r)) ≡ suc (length (digits_of r)) =
    sym (length-map (filter is_no_underscore (c ∷ r)) to_ascii_lowercase) ∙ ap length ds in
    ap (λ t. is_text t (codes "0") && first_passes is_base_letter suffix) ds
    ∙ (ap (λ v. v && first_passes is_base_letter suffix) (is_lone c (digits_of r))
    ∙ sym (ap (λ n. (eqb n 1 && eqb c 48) && first_passes is_base_letter suffix) count))

letter_is_ascii : OnlyAscii is_base_letter
letter_is_ascii c high = grind (arith, nat_tests)

pub letter-chars : (bs : List ℕ) → IsUtf8 bs →
    first_passes is_base_letter (chars bs) ≡ first_passes is_base_letter bs
letter-chars bs u = first_passes-chars is_base_letter bs letter_is_ascii u

-- The text of the integer, as bytes.

pub ascii_all : (p : ℕ → Bool) (t : List ℕ) → OnlyAscii p → list_all p t ≡ true → IsAscii t
ascii_all p [] only all = IsAscii-nil
ascii_all p (c ∷ t) only all =
    let parts = and_parts (p c) (list_all p t) all in
    IsAscii-cons c t (ascii_from_test p c only parts.0) (ascii_all p t only parts.1)

pub main_is_ascii : (base : IntegerBase) (t : List ℕ) →
    list_all (is_digit_or_underscore base) t ≡ true → IsAscii t
main_is_ascii base t all = ascii_all (is_digit_or_underscore base) t (digits_are_ascii base) all

pub text_of : (base : IntegerBase) (group : ℕ) (ds bs bytes : List ℕ) →
    list_all (is_digit base) ds ≡ true →
    bytes ≡ ((prefix base ++ grouped group ds)
    ++ (if needs_separator base ds (chars bs) then 95 ∷ [] else [])) ++ bs →
    chars bytes ≡ integer_text (built_integer base group ds (chars bs))
text_of base group ds bs bytes all is =
    let s = if needs_separator base ds (chars bs) then 95 ∷ [] else [] in
    let main = main_part base group ds (chars bs) in
    let front : IsAscii (prefix base ++ main) =
    IsAscii-append (prefix base) main (ascii_by_test (prefix base) (prefix_is_ascii base))
    (main_is_ascii base main (main_passes base group ds (chars bs) all)) in
    ap chars (is ∙ ap (λ t. t ++ bs) (append_assoc (prefix base) (grouped group ds) s))
    ∙ (chars-append (prefix base ++ main) bs (IsUtf8-from_ascii (prefix base ++ main) front)
    ∙ (ap (λ t. t ++ chars bs) (chars-IsAscii (prefix base ++ main) front)
    ∙ append_assoc (prefix base) main (chars bs)))
