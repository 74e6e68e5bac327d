-- An integer that is rewritten: it is an integer with the same value.
use Rattle.std.proofs.Common.{◌≡◌, ℕ, ◌<◌, Bool, true, false, cond, eqb, List, [], ◌∷◌, ◌++◌, map, length, refl, sym, ap, ◌∙◌, subst, arith, inl, inr}
use Rattle.std.specs.Prelude.{◌==◌, filter, Option, Some, None, if◌then◌else◌}
use Rattle.std.specs.Char.{is_ascii_digit, to_ascii_lowercase}
use Rattle.std.specs.List.{list_all, list_any}
use Rattle.std.specs.Str.{chars, IsAscii}
use Rattle.std.proofs.lemmas.Bool.{and_from, and_parts, or_left, or_right, or_cases, eqb-true, cases_eq, ne_eqb, not_from_false, true≢false}
use Rattle.std.proofs.lemmas.Bool.Decides.{nat_tests}
use Rattle.std.proofs.lemmas.List.{length-map, append_assoc, append-nil}
use Rattle.std.proofs.lemmas.Str.{chars-append, chars-IsAscii, IsUtf8-from_ascii, IsAscii-append}
use Rattle.std.proofs.lemmas.Str.Ascii.{lowercase-uppercase, uppercase-uppercase}
use Rattle.litrs_base.specs.Base.{prefix, base_value, is_digit, is_digit_or_underscore}
use Rattle.litrs_base.specs.Numeral.{is_no_underscore}
use Rattle.litrs_base.specs.Text.{first_passes}
use Rattle.litrs_base.specs.declared.integer.IntegerBase.{IntegerBase}
use Rattle.litrs_base.specs.declared.integer.IntegerBase.TheVariants.{Binary, Octal, Decimal, Hexadecimal}
use Rattle.litrs_base.proofs.Chars.{ascii_by_test}
use Rattle.litrs_grammar.specs.Integer.{IntegerParts, IsInteger, integer_text, integer_value, has_prefix}
use Rattle.litrs.specs.Digits.{digits_of, HaveSameDigits}
use Rattle.litrs.proofs.WrittenParts.{numeral_stays}
use Rattle.litrs_build.specs.BuiltInteger.{built_integer, is_integer_suffix, needs_separator}
use Rattle.litrs_build.specs.RewrittenInteger.{cased, rewritten_main, rewritten_integer, group_of}
use Rattle.litrs_build.specs.WrittenDigits.{ends_group, grouped}
use Rattle.litrs_build.specs.declared.style.Style.{Style}
use Rattle.litrs_build.specs.declared.style.Case.{Case}
use Rattle.litrs_build.specs.declared.style.Case.TheVariants.{Lower, Upper}
use Rattle.litrs_build.proofs.GroupLemmas.{filter_at, lower_twice, no_underscore, some_digit_of}
use Rattle.litrs_build.proofs.IntegerLemmas.{is_built, digits_left, main_is_ascii, text_of}

-- A digit in a case

digit_stays : (base : IntegerBase) (case : Option Case) (c : ℕ) → is_digit base c ≡ true →
    is_digit base (cased case c) ≡ true
digit_stays base None c is = is
digit_stays Binary (Some Lower) c is = grind (arith, nat_tests)
digit_stays Octal (Some Lower) c is = grind (arith, nat_tests)
digit_stays Decimal (Some Lower) c is = grind (arith, nat_tests)
digit_stays Hexadecimal (Some Lower) c is = grind (arith, nat_tests)
digit_stays Binary (Some Upper) c is = grind (arith, nat_tests)
digit_stays Octal (Some Upper) c is = grind (arith, nat_tests)
digit_stays Decimal (Some Upper) c is = grind (arith, nat_tests)
digit_stays Hexadecimal (Some Upper) c is = grind (arith, nat_tests)

pub line_at : (case : Option Case) → cased case 95 ≡ 95
line_at None = refl
line_at (Some Lower) = refl
line_at (Some Upper) = refl

pub line_back : (case : Option Case) (c : ℕ) → cased case c ≡ 95 → c ≡ 95
line_back None c is = is
line_back (Some Lower) c is = grind (arith, nat_tests)
line_back (Some Upper) c is = grind (arith, nat_tests)

line_stays : (case : Option Case) (c : ℕ) → is_no_underscore (cased case c) ≡ is_no_underscore c
line_stays case c = elim (cases_eq c 95) [
  | inl is ↦ ap is_no_underscore (ap (cased case) is ∙ (line_at case ∙ sym is))
  | inr ne ↦ no_underscore (cased case c) (λ e. ne (line_back case c e)) ∙ sym (no_underscore c ne)
]

pub lower_cased : (case : Option Case) (c : ℕ) →
    to_ascii_lowercase (cased case c) ≡ to_ascii_lowercase c
lower_cased None c = refl
lower_cased (Some Lower) c = lower_twice c
lower_cased (Some Upper) c = lowercase-uppercase c

decimal_same : (case : Option Case) (c : ℕ) → is_digit_or_underscore Decimal c ≡ true →
    cased case c ≡ c
decimal_same None c is = refl
decimal_same (Some Lower) c is = grind (arith, nat_tests)
decimal_same (Some Upper) c is = grind (arith, nat_tests)

pub cased_twice : (case : Option Case) (c : ℕ) → cased case (cased case c) ≡ cased case c
cased_twice None c = refl
cased_twice (Some Lower) c = lower_twice c
cased_twice (Some Upper) c = uppercase-uppercase c

pub line_same : (case : Option Case) (c : ℕ) → (cased case c == 95) ≡ (c == 95)
line_same case c = elim (cases_eq c 95) [
  | inl is ↦ ap (λ (n : ℕ). n == 95) (ap (cased case) is ∙ (line_at case ∙ sym is))
  | inr ne ↦ ne_eqb (cased case c) 95 (λ e. ne (line_back case c e)) ∙ sym (ne_eqb c 95 ne)
]

-- Digits in a case

all_mapped : (p q : ℕ → Bool) (f : ℕ → ℕ) → ((c : ℕ) → p c ≡ true → q (f c) ≡ true) →
    (t : List ℕ) → list_all p t ≡ true → list_all q (map f t) ≡ true
all_mapped p q f each [] all = refl
all_mapped p q f each (c ∷ t) all =
    let both = and_parts (p c) (list_all p t) all in
    and_from _ _ (each c both.0) (all_mapped p q f each t both.1)

any_mapped : (p q : ℕ → Bool) (f : ℕ → ℕ) → ((c : ℕ) → p c ≡ true → q (f c) ≡ true) →
    (t : List ℕ) → list_any p t ≡ true → list_any q (map f t) ≡ true
any_mapped p q f each [] any = any
any_mapped p q f each (c ∷ t) any = elim (or_cases (p c) (list_any p t) any) [
  | inl first ↦ or_left (q (f c)) _ (each c first)
  | inr more ↦ or_right (q (f c)) _ (any_mapped p q f each t more)
]

first_mapped : (p q : ℕ → Bool) (f : ℕ → ℕ) → ((c : ℕ) → p c ≡ true → q (f c) ≡ true) →
    (t : List ℕ) → first_passes p t ≡ true → first_passes q (map f t) ≡ true
first_mapped p q f each [] first = first
first_mapped p q f each (c ∷ t) first = each c first

filter_by : (f : ℕ → ℕ) (v : Bool) (c : ℕ) (s t : List ℕ) → s ≡ map f t →
    cond v (f c ∷ s) s ≡ map f (cond v (c ∷ t) t)
filter_by f true c s t same = ap (λ (l : List ℕ). f c ∷ l) same
filter_by f false c s t same = same

filter_mapped : (case : Option Case) (t : List ℕ) →
    filter is_no_underscore (map (cased case) t) ≡ map (cased case) (filter is_no_underscore t)
filter_mapped case [] = refl
filter_mapped case (c ∷ t) =
    let s = filter is_no_underscore (map (cased case) t) in
    ap (λ (v : Bool). cond v (cased case c ∷ s) s) (line_stays case c)
    ∙ filter_by (cased case) (is_no_underscore c) c s (filter is_no_underscore t)
    (filter_mapped case t)

lowered : (case : Option Case) (t : List ℕ) →
    map to_ascii_lowercase (map (cased case) t) ≡ map to_ascii_lowercase t
lowered case [] = refl
lowered case (c ∷ t) = (λ i. lower_cased case c i ∷ lowered case t i)

filter_by_test : (p : ℕ → Bool) (v : Bool) (c : ℕ) (s : List ℕ) → (v ≡ true → p c ≡ true) →
    list_all p s ≡ true → list_all p (cond v (c ∷ s) s) ≡ true
filter_by_test p true c s is all = and_from _ _ (is refl) all
filter_by_test p false c s is all = all

digit_of_char : (base : IntegerBase) (c : ℕ) → is_digit_or_underscore base c ≡ true →
    is_no_underscore c ≡ true → is_digit base c ≡ true
digit_of_char base c is no_line = elim (or_cases (is_digit base c) (eqb c 95) is) [
  | inl digit ↦ digit
  | inr line ↦ absurd (true≢false (sym no_line ∙ ap is_no_underscore (eqb-true c 95 line)))
]

pub digits_filtered : (base : IntegerBase) (t : List ℕ) →
    list_all (is_digit_or_underscore base) t ≡ true →
    list_all (is_digit base) (filter is_no_underscore t) ≡ true
digits_filtered base [] all = refl
digits_filtered base (c ∷ t) all =
    let both = and_parts (is_digit_or_underscore base c) (list_all (is_digit_or_underscore base) t) all in
    filter_by_test (is_digit base) (is_no_underscore c) c (filter is_no_underscore t)
    (digit_of_char base c both.0) (digits_filtered base t both.1)

-- the digits of a main part
pub cased_digits : (base : IntegerBase) (case : Option Case) (main : List ℕ) →
    list_all (is_digit_or_underscore base) main ≡ true →
    list_all (is_digit base) (map (cased case) (filter is_no_underscore main)) ≡ true
cased_digits base case main all =
    all_mapped (is_digit base) (is_digit base) (cased case) (digit_stays base case)
    (filter is_no_underscore main) (digits_filtered base main all)

char_stays : (base : IntegerBase) (case : Option Case) (c : ℕ) →
    is_digit_or_underscore base c ≡ true → is_digit_or_underscore base (cased case c) ≡ true
char_stays base case c is = elim (or_cases (is_digit base c) (eqb c 95) is) [
  | inl digit ↦ or_left _ _ (digit_stays base case c digit)
  | inr line ↦ or_right (is_digit base (cased case c)) _
      (ap (λ (n : ℕ). eqb n 95) (ap (cased case) (eqb-true c 95 line) ∙ line_at case))
]

some_cased : (base : IntegerBase) (case : Option Case) (main : List ℕ) →
    list_any (is_digit base) main ≡ true →
    0 < length (map (cased case) (filter is_no_underscore main))
some_cased base case main any =
    let some = some_digit_of base main any in
    let low = length-map (filter is_no_underscore main) to_ascii_lowercase in
    let same = length-map (filter is_no_underscore main) (cased case) in
    omega (arith, some, low, same)

-- Decimal digits have no case

decimal_all : (case : Option Case) (t : List ℕ) →
    list_all (is_digit_or_underscore Decimal) t ≡ true → map (cased case) t ≡ t
decimal_all case [] all = refl
decimal_all case (c ∷ t) all =
    let both = and_parts (is_digit_or_underscore Decimal c) (list_all (is_digit_or_underscore Decimal) t) all in
    (λ i. decimal_same case c both.0 i ∷ decimal_all case t both.1 i)

pub filtered_all : (p : ℕ → Bool) (t : List ℕ) → list_all p t ≡ true →
    list_all p (filter is_no_underscore t) ≡ true
filtered_all p [] all = refl
filtered_all p (c ∷ t) all =
    let both = and_parts (p c) (list_all p t) all in
    filter_by_test p (is_no_underscore c) c (filter is_no_underscore t) (λ v. both.0)
    (filtered_all p t both.1)

pub same_separator : (base : IntegerBase) (case : Option Case) (main suffix : List ℕ) →
    list_all (is_digit_or_underscore base) main ≡ true →
    needs_separator base (map (cased case) (filter is_no_underscore main)) suffix
    ≡ needs_separator base (digits_of main) suffix
same_separator Binary case main suffix all = refl
same_separator Octal case main suffix all = refl
same_separator Hexadecimal case main suffix all = refl
same_separator Decimal case main suffix all =
    let ds = filtered_all (is_digit_or_underscore Decimal) main all in
    ap (λ (t : List ℕ). needs_separator Decimal t suffix)
    (decimal_all case (filter is_no_underscore main) ds
    ∙ sym (decimal_all (Some Lower) (filter is_no_underscore main) ds))

-- The integer

suffix_allowed : (d : IntegerParts) → IsInteger d → is_integer_suffix d.base d.suffix ≡ true
suffix_allowed d h =
    and_from _ _ h.suffix (and_from _ _ (not_from_false _ h.no_exponent) (not_from_false _ h.ends))

kept_is_integer : (case : Option Case) (d : IntegerParts) → IsInteger d →
    IsInteger (record { base = d.base; main = map (cased case) d.main; suffix = d.suffix })
kept_is_integer case d h = record {
  digits = all_mapped (is_digit_or_underscore d.base) (is_digit_or_underscore d.base) (cased case)
      (char_stays d.base case) d.main h.digits;
  some_digit = any_mapped (is_digit d.base) (is_digit d.base) (cased case)
      (digit_stays d.base case) d.main h.some_digit;
  ends = h.ends;
  suffix = h.suffix;
  no_exponent = h.no_exponent;
  decimal_digit = λ e. first_mapped is_ascii_digit is_ascii_digit (cased case)
      (digit_stays Decimal case) d.main (h.decimal_digit e);
  decimal_prefix = λ e. ap (λ (m : List ℕ). has_prefix (prefix d.base ++ (m ++ d.suffix)))
      (decimal_all case d.main (subst
      (λ (b : IntegerBase). list_all (is_digit_or_underscore b) d.main ≡ true) e h.digits))
      ∙ h.decimal_prefix e;
}

parts_by : (case : Option Case) (group : Option ℕ) (d : IntegerParts) → IsInteger d →
    IsInteger (record { base = d.base; main = rewritten_main case group d.base d.main d.suffix; suffix = d.suffix })
parts_by case None d h = kept_is_integer case d h
parts_by case (Some group) d h =
    is_built d.base group (map (cased case) (filter is_no_underscore d.main)) d.suffix
    (some_cased d.base case d.main h.some_digit) (cased_digits d.base case d.main h.digits)
    (suffix_allowed d h)

pub rewritten_is_integer : (style : Style) (d : IntegerParts) → IsInteger d →
    IsInteger (rewritten_integer style d)
rewritten_is_integer style d h = parts_by style.digits (group_of style.groups d.base d.main) d h

digits_by : (case : Option Case) (group : Option ℕ) (d : IntegerParts) → IsInteger d →
    HaveSameDigits (rewritten_main case group d.base d.main d.suffix) d.main
digits_by case None d h =
    ap (map to_ascii_lowercase) (filter_mapped case d.main)
    ∙ lowered case (filter is_no_underscore d.main)
digits_by case (Some group) d h =
    ap (map to_ascii_lowercase) (digits_left d.base group
    (map (cased case) (filter is_no_underscore d.main)) d.suffix
    (cased_digits d.base case d.main h.digits))
    ∙ lowered case (filter is_no_underscore d.main)

pub rewritten_integer-value : (style : Style) (d : IntegerParts) → IsInteger d →
    integer_value d ≡ integer_value (rewritten_integer style d)
rewritten_integer-value style d h =
    sym (numeral_stays (base_value d.base) (rewritten_integer style d).main d.main
    (digits_by style.digits (group_of style.groups d.base d.main) d h))

-- The text, as bytes

pub kept_text : (d : IntegerParts) (case : Option Case) (suffix bytes : List ℕ) → IsInteger d →
    chars suffix ≡ d.suffix → bytes ≡ (prefix d.base ++ map (cased case) d.main) ++ suffix →
    chars bytes ≡ integer_text (record { base = d.base; main = map (cased case) d.main; suffix = d.suffix })
kept_text d case suffix bytes h of_suffix is =
    let main = map (cased case) d.main in
    let front : IsAscii (prefix d.base ++ main) =
    IsAscii-append (prefix d.base) main (prefix_ascii d.base)
    (main_is_ascii d.base main (kept_is_integer case d h).digits) in
    ap chars is
    ∙ (chars-append (prefix d.base ++ main) suffix (IsUtf8-from_ascii (prefix d.base ++ main) front)
    ∙ ((λ i. chars-IsAscii (prefix d.base ++ main) front i ++ of_suffix i)
    ∙ append_assoc (prefix d.base) main d.suffix))
  where
    prefix_ascii : (base : IntegerBase) → IsAscii (prefix base)
    prefix_ascii Binary = ascii_by_test (prefix Binary) refl
    prefix_ascii Octal = ascii_by_test (prefix Octal) refl
    prefix_ascii Decimal = ascii_by_test (prefix Decimal) refl
    prefix_ascii Hexadecimal = ascii_by_test (prefix Hexadecimal) refl

pub grouped_text : (d : IntegerParts) (case : Option Case) (group : ℕ) (suffix bytes : List ℕ) →
    IsInteger d → chars suffix ≡ d.suffix →
    bytes ≡ ((prefix d.base ++ grouped group (map (cased case) (filter is_no_underscore d.main)))
    ++ (if needs_separator d.base (digits_of d.main) (chars suffix) then 95 ∷ [] else [])) ++ suffix →
    chars bytes ≡ integer_text (record {
      base = d.base;
      main = rewritten_main case (Some group) d.base d.main d.suffix;
      suffix = d.suffix;
    })
grouped_text d case group suffix bytes h of_suffix is =
    let ds = map (cased case) (filter is_no_underscore d.main) in
    text_of d.base group ds suffix bytes (cased_digits d.base case d.main h.digits)
    (is ∙ ap (λ (v : Bool). ((prefix d.base ++ grouped group ds) ++ (if v then 95 ∷ [] else [])) ++ suffix)
    (sym (same_separator d.base case d.main (chars suffix) h.digits)))
    ∙ ap (λ (s : List ℕ). integer_text (built_integer d.base group ds s)) of_suffix

-- One more digit

pub push_step : (f : ℕ → ℕ) (group c after digit : ℕ) (ends : Bool) (r old new all : List ℕ) →
    (c ≡ 95 → ⊥) → after ≡ length (filter is_no_underscore r) → digit ≡ f c →
    ends ≡ ends_group group after →
    new ≡ old ++ (digit ∷ (if ends then 95 ∷ [] else [])) →
    old ++ grouped group (map f (filter is_no_underscore (c ∷ r))) ≡ all →
    new ++ grouped group (map f (filter is_no_underscore r)) ≡ all
unfolding grouped
push_step f group c after digit ends r old new all ne count digit_is ends_is new_is so_far =
    let rest = grouped group (map f (filter is_no_underscore r)) in
    let last = f c ∷ (if ends_group group after then 95 ∷ [] else []) in
    let first : grouped group (map f (filter is_no_underscore (c ∷ r))) ≡ last ++ rest =
    ap (λ (t : List ℕ). grouped group (map f t)) (filter_at c r (no_underscore c ne))
    ∙ ap (λ (n : ℕ). f c ∷ ((if ends_group group n then 95 ∷ [] else []) ++ rest))
    (length-map (filter is_no_underscore r) f ∙ sym count) in
    ap (λ (t : List ℕ). t ++ rest) (new_is ∙ (λ i. old ++ (digit_is i ∷ (if ends_is i then 95 ∷ [] else []))))
    ∙ (append_assoc old last rest ∙ (ap (λ (t : List ℕ). old ++ t) (sym first) ∙ so_far))

pub push_done : (f : ℕ → ℕ) (group : ℕ) (old all : List ℕ) →
    old ++ grouped group (map f (filter is_no_underscore [])) ≡ all → old ≡ all
unfolding grouped
push_done f group old all so_far = sym (append-nil old) ∙ so_far

-- The text that is written, by its groups

pub kept_is : (style : Style) (d : IntegerParts) (base : IntegerBase) (main suffix bytes : List ℕ)
    (found : Option ℕ) → IsInteger d → base ≡ d.base → main ≡ d.main → chars suffix ≡ d.suffix →
    found ≡ group_of style.groups base main → found ≡ None →
    bytes ≡ (prefix base ++ map (cased style.digits) main) ++ suffix →
    chars bytes ≡ integer_text (rewritten_integer style d)
kept_is style d base main suffix bytes found h same_base same_main of_suffix is none written =
    let group : group_of style.groups d.base d.main ≡ None =
    sym (is ∙ (λ i. group_of style.groups (same_base i) (same_main i))) ∙ none in
    kept_text d style.digits suffix bytes h of_suffix
    (written ∙ (λ i. (prefix (same_base i) ++ map (cased style.digits) (same_main i)) ++ suffix))
    ∙ sym (ap (λ (g : Option ℕ). integer_text (record {
      base = d.base;
      main = rewritten_main style.digits g d.base d.main d.suffix;
      suffix = d.suffix;
    })) group)

pub grouped_is : (style : Style) (d : IntegerParts) (base : IntegerBase)
    (main suffix bytes : List ℕ) (found : Option ℕ) (group : ℕ) → IsInteger d → base ≡ d.base →
    main ≡ d.main → chars suffix ≡ d.suffix → found ≡ group_of style.groups base main →
    found ≡ Some group →
    bytes ≡ ((prefix base ++ grouped group (map (cased style.digits) (filter is_no_underscore main)))
    ++ (if needs_separator base (digits_of main) (chars suffix) then 95 ∷ [] else [])) ++ suffix →
    chars bytes ≡ integer_text (rewritten_integer style d)
grouped_is style d base main suffix bytes found group h same_base same_main of_suffix is some written =
    let groups : group_of style.groups d.base d.main ≡ Some group =
    sym (is ∙ (λ i. group_of style.groups (same_base i) (same_main i))) ∙ some in
    grouped_text d style.digits group suffix bytes h of_suffix
    (written ∙ (λ i. ((prefix (same_base i)
    ++ grouped group (map (cased style.digits) (filter is_no_underscore (same_main i))))
    ++ (if needs_separator (same_base i) (digits_of (same_main i)) (chars suffix) then 95 ∷ [] else []))
    ++ suffix))
    ∙ sym (ap (λ (g : Option ℕ). integer_text (record {
      base = d.base;
      main = rewritten_main style.digits g d.base d.main d.suffix;
      suffix = d.suffix;
    })) groups)
