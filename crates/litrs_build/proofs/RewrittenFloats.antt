-- A float that is rewritten: it is a float with the same digits, and stays as it is a second time.
use Rattle.std.proofs.Common.{◌≡◌, inl, inr, ℕ, Bor, ◌+◌, ◌<◌, Bool, true, false, ◌&&◌, ◌||◌, List, [], ◌∷◌, ◌++◌, map, length, take, drop, refl, sym, ap, ◌∙◌, subst, arith}
use Rattle.std.specs.Prelude.{filter, Option, Some, None, IfSome, option_map, if◌then◌else◌, encode_utf8_all}
use Rattle.std.specs.Char.{is_ascii_digit, to_ascii_lowercase}
use Rattle.std.specs.List.{list_all, list_any}
use Rattle.std.specs.Str.{chars, IsUtf8, IsAscii}
use Rattle.std.proofs.lemmas.Bool.{and_from, and_parts, or_left, or_right, or_cases, cond_both, true≢false, false≢true}
use Rattle.std.proofs.lemmas.Bool.Decides.{nat_tests}
use Rattle.std.proofs.lemmas.List.{length-map, append_assoc, append-nil, take-append-drop}
use Rattle.std.proofs.lemmas.List.Elements.{filter-append}
use Rattle.std.proofs.lemmas.List.Folds.{list_all-append, list_any-append}
use Rattle.std.proofs.lemmas.Str.{chars-append, chars-IsAscii, encodes-chars, encodes-IsAscii, IsUtf8-from_ascii}
use Rattle.litrs_base.specs.Numeral.{is_no_underscore}
use Rattle.litrs_base.specs.Text.{first_passes, is_empty}
use Rattle.litrs_base.specs.declared.integer.IntegerBase.TheVariants.{Decimal}
use Rattle.litrs_base.proofs.Chars.{OnlyAscii}
use Rattle.litrs_grammar.specs.Float.{FloatParts, IsFloat, float_text, fraction_text, number_part, is_decimal_char, is_decimal_literal, is_exponent, is_exponent_number, is_float_form, is_sign, is_underscore, sign_len}
use Rattle.litrs_grammar.specs.Integer.{is_e}
use Rattle.litrs_grammar.proofs.FloatCuts.{fraction_passes, is_exponent_front, number_part-suffix, decimal_sign}
use Rattle.litrs_grammar.proofs.Laws.Float.{float_is_cut}
use Rattle.litrs_grammar.proofs.Spans.Float.{is_number_char, number_part_chars}
use Rattle.litrs_build.specs.RewrittenFloat.{grouped_after, kept_parts, grouped_parts, part_lens, regrouped, regrouped_fraction, rewritten_exponent, regrouped_float, rewritten_float}
use Rattle.litrs_build.specs.RewrittenInteger.{cased}
use Rattle.litrs_build.specs.WrittenAnew.{HaveSameNumber}
use Rattle.litrs_build.specs.WrittenDigits.{ends_group, grouped}
use Rattle.litrs_build.specs.declared.float_style.PartLens.{PartLens}
use Rattle.litrs_build.specs.declared.style.Case.{Case}
use Rattle.litrs_build.specs.declared.style.Case.TheVariants.{Lower, Upper}
use Rattle.litrs_build.specs.declared.style.FloatGroups.{FloatGroups}
use Rattle.litrs_build.specs.declared.style.FloatGroups.TheVariants.{Kept, Regrouped, Grouped}
use Rattle.litrs_build.specs.declared.style.Style.{Style}
use Rattle.litrs_build.proofs.CasedIntegers.{cased_twice, digits_filtered, filtered_all, line_same, lower_cased}
use Rattle.litrs_build.proofs.FloatLemmas.{form_of_none, form_of_some}
use Rattle.litrs_build.proofs.GroupLemmas.{all_grouped, all_marked, any_of_first, digit_is_no_line, digits_are_no_lines, filter_at, filter_grouped, first_grouped, first_of_all, mark, no_underscore, some_digit_of}
use Rattle.litrs_build.proofs.IntegerLemmas.{ascii_all, ends_at_last}

-- Groups that are counted from the first digit

all_after : (p : ℕ → Bool) (group before : ℕ) (ds : List ℕ) → p 95 ≡ true →
    list_all p ds ≡ true → list_all p (grouped_after group before ds) ≡ true
unfolding grouped_after
all_after p group before [] line all = refl
all_after p group before (c ∷ ds) line all =
    let parts = and_parts (p c) (list_all p ds) all in
    all_marked p (ends_group group before) (c ∷ grouped_after group (before + 1) ds) line
    (and_from (p c) _ parts.0 (all_after p group (before + 1) ds line parts.1))

filter_front : (ends : Bool) (c : ℕ) (xs : List ℕ) → is_no_underscore c ≡ true →
    filter is_no_underscore (mark ends ++ (c ∷ xs)) ≡ c ∷ filter is_no_underscore xs
filter_front true c xs h = filter_at c xs h
filter_front false c xs h = filter_at c xs h

filter_after : (group before : ℕ) (ds : List ℕ) → list_all is_no_underscore ds ≡ true →
    filter is_no_underscore (grouped_after group before ds) ≡ ds
unfolding grouped_after
filter_after group before [] all = refl
filter_after group before (c ∷ ds) all =
    let parts = and_parts (is_no_underscore c) (list_all is_no_underscore ds) all in
    filter_front (ends_group group before) c (grouped_after group (before + 1) ds) parts.0
    ∙ ap (λ (t : List ℕ). c ∷ t) (filter_after group (before + 1) ds parts.1)

first_after : (p : ℕ → Bool) (group : ℕ) (ds : List ℕ) → first_passes p ds ≡ true →
    first_passes p (grouped_after group 0 ds) ≡ true
unfolding grouped_after
first_after p group [] first = first
first_after p group (c ∷ ds) first =
    ap (λ (v : Bool). first_passes p (mark v ++ (c ∷ grouped_after group 1 ds))) (ends_at_last group)
    ∙ first

-- one more digit is written
pub after_step : (group before c : ℕ) (ends : Bool) (r old one new all : List ℕ) → (c ≡ 95 → ⊥) →
    ends ≡ ends_group group before → one ≡ old ++ mark ends → new ≡ one ++ (c ∷ []) →
    old ++ grouped_after group before (filter is_no_underscore (c ∷ r)) ≡ all →
    new ++ grouped_after group (before + 1) (filter is_no_underscore r) ≡ all
unfolding grouped_after
after_step group before c ends r old one new all ne ends_is one_is new_is so_far =
    let rest = grouped_after group (before + 1) (filter is_no_underscore r) in
    ap (λ (t : List ℕ). t ++ rest) (new_is ∙ ap (λ (t : List ℕ). t ++ (c ∷ [])) one_is)
    ∙ (append_assoc (old ++ mark ends) (c ∷ []) rest
    ∙ (append_assoc old (mark ends) (c ∷ rest)
    ∙ (ap (λ (v : Bool). old ++ (mark v ++ (c ∷ rest))) ends_is
    ∙ (ap (λ (t : List ℕ). old ++ grouped_after group before t)
    (sym (filter_at c r (no_underscore c ne))) ∙ so_far))))

-- all are written
pub after_done : (group before : ℕ) (old all : List ℕ) →
    old ++ grouped_after group before (filter is_no_underscore []) ≡ all → old ≡ all
unfolding grouped_after
after_done group before old all so_far = sym (append-nil old) ∙ so_far

-- The digits of a part

filter_first : (t : List ℕ) → first_passes is_ascii_digit t ≡ true →
    first_passes is_ascii_digit (filter is_no_underscore t) ≡ true
filter_first [] first = first
filter_first (c ∷ t) first =
    ap (first_passes is_ascii_digit) (filter_at c t (digit_is_no_line Decimal c first)) ∙ first

no_lines : (t : List ℕ) → list_all is_decimal_char t ≡ true →
    list_all is_no_underscore (filter is_no_underscore t) ≡ true
no_lines t all =
    digits_are_no_lines Decimal (filter is_no_underscore t) (digits_filtered Decimal t all)

filled : (t : List ℕ) → list_any is_ascii_digit t ≡ true → 0 < length (filter is_no_underscore t)
filled t any =
    let some = some_digit_of Decimal t any in
    let low = length-map (filter is_no_underscore t) to_ascii_lowercase in
    omega (arith, some, low)

regrouped_all : (group : Option ℕ) (t : List ℕ) → list_all is_decimal_char t ≡ true →
    list_all is_decimal_char (regrouped group t) ≡ true
regrouped_all None t all = all
regrouped_all (Some group) t all =
    all_grouped is_decimal_char group (filter is_no_underscore t) refl
    (filtered_all is_decimal_char t all)

regrouped_literal : (group : Option ℕ) (t : List ℕ) → is_decimal_literal t ≡ true →
    is_decimal_literal (regrouped group t) ≡ true
regrouped_literal None t is = is
regrouped_literal (Some group) t is =
    let parts = and_parts (first_passes is_ascii_digit t) (list_all is_decimal_char t) is in
    and_from _ _
    (first_grouped is_ascii_digit group (filter is_no_underscore t) (filter_first t parts.0))
    (regrouped_all (Some group) t parts.1)

fraction_literal : (group : Option ℕ) (t : List ℕ) → is_decimal_literal t ≡ true →
    is_decimal_literal (regrouped_fraction group t) ≡ true
fraction_literal None t is = is
fraction_literal (Some group) t is =
    let parts = and_parts (first_passes is_ascii_digit t) (list_all is_decimal_char t) is in
    let ds = filter is_no_underscore t in
    and_from _ _ (first_after is_ascii_digit group ds (filter_first t parts.0))
    (all_after is_decimal_char group 0 ds refl (filtered_all is_decimal_char t parts.1))

regrouped_number : (group : Option ℕ) (t : List ℕ) → is_exponent_number t ≡ true →
    is_exponent_number (regrouped group t) ≡ true
regrouped_number None t is = is
regrouped_number (Some group) t is =
    let parts = and_parts (list_all is_decimal_char t) (list_any is_ascii_digit t) is in
    let ds = filter is_no_underscore t in
    let first = first_of_all is_ascii_digit ds (filled t parts.1)
    (digits_filtered Decimal t parts.0) in
    and_from _ _ (regrouped_all (Some group) t parts.0)
    (any_of_first is_ascii_digit (grouped group ds) (first_grouped is_ascii_digit group ds first))

-- without `_` they stay
digits_stay : (group : Option ℕ) (t : List ℕ) → list_all is_decimal_char t ≡ true →
    filter is_no_underscore (regrouped group t) ≡ filter is_no_underscore t
digits_stay None t all = refl
digits_stay (Some group) t all = filter_grouped group (filter is_no_underscore t) (no_lines t all)

fraction_digits : (group : Option ℕ) (t : List ℕ) → list_all is_decimal_char t ≡ true →
    filter is_no_underscore (regrouped_fraction group t) ≡ filter is_no_underscore t
fraction_digits None t all = refl
fraction_digits (Some group) t all =
    filter_after group 0 (filter is_no_underscore t) (no_lines t all)

-- a second time
regrouped_twice : (group : Option ℕ) (t : List ℕ) → list_all is_decimal_char t ≡ true →
    regrouped group (regrouped group t) ≡ regrouped group t
regrouped_twice None t all = refl
regrouped_twice (Some group) t all = ap (grouped group) (digits_stay (Some group) t all)

fraction_twice : (group : Option ℕ) (f : Option (List ℕ)) → fraction_passes f ≡ true →
    option_map (regrouped_fraction group) (option_map (regrouped_fraction group) f)
    ≡ option_map (regrouped_fraction group) f
fraction_twice group None all = refl
fraction_twice None (Some t) all = refl
fraction_twice (Some group) (Some t) all =
    ap (λ (ds : List ℕ). Some (grouped_after group 0 ds)) (fraction_digits (Some group) t all)

pub fraction_kept : (f : Option (List ℕ)) → option_map (regrouped_fraction None) f ≡ f
fraction_kept None = refl
fraction_kept (Some t) = refl

-- The exponent: its sign, and its digits in groups

abbrev signed : Option ℕ → List ℕ → List ℕ
signed group cs = take (sign_len cs) cs ++ regrouped group (drop (sign_len cs) cs)

record IsSigned (group : Option ℕ) (cs : List ℕ) : Type 0 where
  front : take (sign_len (signed group cs)) (signed group cs) ≡ take (sign_len cs) cs
  digits : drop (sign_len (signed group cs)) (signed group cs)
      ≡ regrouped group (drop (sign_len cs) cs)

digits_first : (t : List ℕ) → list_all is_decimal_char t ≡ true → first_passes is_sign t ≡ false
digits_first [] all = refl
digits_first (c ∷ t) all = decimal_sign c (and_parts (is_decimal_char c) (list_all is_decimal_char t) all).0

-- the length of a sign, by the test of the first character
abbrev len_by : Bool → ℕ
len_by v = if v then 1 else 0

sign_stays : (v : Bool) (group : Option ℕ) (cs : List ℕ) → first_passes is_sign cs ≡ v →
    list_all is_decimal_char (drop (len_by v) cs) ≡ true →
    first_passes is_sign (take (len_by v) cs ++ regrouped group (drop (len_by v) cs)) ≡ v
sign_stays true group [] is all = absurd (false≢true is)
sign_stays true group (s ∷ ds) is all = is
sign_stays false group cs is all = digits_first (regrouped group cs) (regrouped_all group cs all)

front_by : (v : Bool) (cs x : List ℕ) → first_passes is_sign cs ≡ v →
    take (len_by v) (take (len_by v) cs ++ x) ≡ take (len_by v) cs
front_by true [] x is = absurd (false≢true is)
front_by true (s ∷ ds) x is = refl
front_by false cs x is = refl

rest_by : (v : Bool) (cs x : List ℕ) → first_passes is_sign cs ≡ v →
    drop (len_by v) (take (len_by v) cs ++ x) ≡ x
rest_by true [] x is = absurd (false≢true is)
rest_by true (s ∷ ds) x is = refl
rest_by false cs x is = refl

is_signed : (group : Option ℕ) (cs : List ℕ) →
    list_all is_decimal_char (drop (sign_len cs) cs) ≡ true → IsSigned group cs
is_signed group cs all =
    let v = first_passes is_sign cs in
    let x = regrouped group (drop (sign_len cs) cs) in
    let same = sign_stays v group cs refl all in record {
      front = ap (λ (b : Bool). take (len_by b) (signed group cs)) same ∙ front_by v cs x refl;
      digits = ap (λ (b : Bool). drop (len_by b) (signed group cs)) same ∙ rest_by v cs x refl;
    }

-- the digits of the exponent
signed_digits : (group : Option ℕ) (cs : List ℕ) →
    list_all is_decimal_char (drop (sign_len cs) cs) ≡ true →
    filter is_no_underscore (signed group cs) ≡ filter is_no_underscore cs
signed_digits group cs all =
    let n = sign_len cs in
    filter-append is_no_underscore (take n cs) (regrouped group (drop n cs))
    ∙ (ap (λ (t : List ℕ). filter is_no_underscore (take n cs) ++ t)
    (digits_stay group (drop n cs) all)
    ∙ (sym (filter-append is_no_underscore (take n cs) (drop n cs))
    ∙ ap (filter is_no_underscore) (take-append-drop n cs)))

letter_stays : (case : Option Case) (c : ℕ) → is_e c ≡ true → is_e (cased case c) ≡ true
letter_stays None c is = is
letter_stays (Some Lower) c is = grind (arith, nat_tests)
letter_stays (Some Upper) c is = grind (arith, nat_tests)

letter_is_no_line : (c : ℕ) → is_e c ≡ true → is_no_underscore c ≡ true
letter_is_no_line c is = grind (arith, nat_tests)

exponent_stays : (case : Option Case) (group : Option ℕ) (p : List ℕ) → is_exponent p ≡ true →
    is_exponent (rewritten_exponent case group p) ≡ true
unfolding is_exponent
exponent_stays case group [] is = absurd (false≢true is)
exponent_stays case group (c ∷ cs) is =
    let parts = and_parts (is_e c) (is_exponent_number (drop (sign_len cs) cs)) is in
    let number = and_parts (list_all is_decimal_char (drop (sign_len cs) cs))
    (list_any is_ascii_digit (drop (sign_len cs) cs)) parts.1 in
    and_from (is_e (cased case c)) _ (letter_stays case c parts.0)
    (ap is_exponent_number (is_signed group cs number.0).digits
    ∙ regrouped_number group (drop (sign_len cs) cs) parts.1)

empty_stays : (case : Option Case) (group : Option ℕ) (p : List ℕ) →
    is_empty (rewritten_exponent case group p) ≡ is_empty p
empty_stays case group [] = refl
empty_stays case group (c ∷ cs) = refl

exponent_digits : (case : Option Case) (group : Option ℕ) (p : List ℕ) →
    is_exponent_front p ≡ true →
    map to_ascii_lowercase (filter is_no_underscore p)
    ≡ map to_ascii_lowercase (filter is_no_underscore (rewritten_exponent case group p))
exponent_digits case group [] is = refl
exponent_digits case group (c ∷ cs) is =
    let parts = and_parts (is_e c) (list_all is_decimal_char (drop (sign_len cs) cs)) is in
    let letter = letter_stays case c parts.0 in
    ap (map to_ascii_lowercase) (filter_at c cs (letter_is_no_line c parts.0))
    ∙ (sym (λ i. lower_cased case c i
    ∷ map to_ascii_lowercase (signed_digits group cs parts.1 i))
    ∙ sym (ap (map to_ascii_lowercase)
    (filter_at (cased case c) (signed group cs) (letter_is_no_line (cased case c) letter))))

exponent_twice : (case : Option Case) (group : Option ℕ) (p : List ℕ) →
    is_exponent_front p ≡ true →
    rewritten_exponent case group (rewritten_exponent case group p)
    ≡ rewritten_exponent case group p
exponent_twice case group [] is = refl
exponent_twice case group (c ∷ cs) is =
    let parts = and_parts (is_e c) (list_all is_decimal_char (drop (sign_len cs) cs)) is in
    let same = is_signed group cs parts.1 in
    let again = ap (regrouped group) same.digits
    ∙ regrouped_twice group (drop (sign_len cs) cs) parts.1 in
    (λ i. cased_twice case c i ∷ (same.front i ++ again i))

exponent_kept : (case : Option Case) (group : Option ℕ) (p : List ℕ) →
    rewritten_exponent case None (rewritten_exponent case group p)
    ≡ rewritten_exponent case group p
exponent_kept case group [] = refl
exponent_kept case group (c ∷ cs) =
    let new = signed group cs in
    (λ i. cased_twice case c i ∷ take-append-drop (sign_len new) new i)

-- The float

empty_fraction : (group : Option ℕ) → is_empty (regrouped_fraction group []) ≡ true
unfolding grouped_after
empty_fraction None = refl
empty_fraction (Some group) = refl

first_fills : (p : ℕ → Bool) (t : List ℕ) → first_passes p t ≡ true → is_empty t ≡ false
first_fills p [] first = absurd (false≢true first)
first_fills p (c ∷ t) first = refl

optional_stays : (case : Option Case) (group : Option ℕ) (p : List ℕ) →
    (is_empty p || is_exponent p) ≡ true →
    (is_empty (rewritten_exponent case group p) || is_exponent (rewritten_exponent case group p))
    ≡ true
optional_stays case group p is = elim (or_cases (is_empty p) (is_exponent p) is) [
  | inl empty ↦ or_left (is_empty (rewritten_exponent case group p)) _ (empty_stays case group p ∙ empty)
  | inr exponent ↦ or_right (is_empty (rewritten_exponent case group p)) _
      (exponent_stays case group p exponent)
]

form_stays : (case : Option Case) (lens : PartLens) (f : Option (List ℕ)) (p x : List ℕ) →
    is_float_form f p x ≡ true →
    is_float_form (option_map (regrouped_fraction lens.fraction) f)
    (rewritten_exponent case lens.exponent p) x ≡ true
form_stays case lens None p x is = exponent_stays case lens.exponent p is
form_stays case lens (Some []) p x is =
    form_of_none (regrouped_fraction lens.fraction []) (rewritten_exponent case lens.exponent p) x
    (empty_fraction lens.fraction)
    ∙ (ap (λ (v : Bool). v && is_empty x) (empty_stays case lens.exponent p) ∙ is)
form_stays case lens (Some (c ∷ cs)) p x is =
    let parts = and_parts (is_decimal_literal (c ∷ cs)) (is_empty p || is_exponent p) is in
    let digits = regrouped_fraction lens.fraction (c ∷ cs) in
    let literal = fraction_literal lens.fraction (c ∷ cs) parts.0 in
    let first = (and_parts (first_passes is_ascii_digit digits) (list_all is_decimal_char digits)
    literal).0 in
    form_of_some digits (rewritten_exponent case lens.exponent p) x
    (first_fills is_ascii_digit digits first)
    ∙ and_from _ _ literal (optional_stays case lens.exponent p parts.1)

float_stays : (case : Option Case) (lens : PartLens) (d : FloatParts) → IsFloat d →
    IsFloat (regrouped_float case lens d)
float_stays case lens d h = record {
  integer = regrouped_literal lens.integer d.integer h.integer;
  form = form_stays case lens d.fraction d.exponent d.suffix h.form;
  suffix = h.suffix;
  no_underscore = h.no_underscore;
  no_letter = λ bare. h.no_letter (sym (empty_stays case lens.exponent d.exponent) ∙ bare);
}

pub rewritten_is_float : (style : Style) (d : FloatParts) → IsFloat d →
    IsFloat (rewritten_float style d)
rewritten_is_float style d h =
    float_stays style.exponents (part_lens style.float_groups (number_part d)) d h

fraction_same : (group : Option ℕ) (f : Option (List ℕ)) → fraction_passes f ≡ true →
    option_map (filter is_no_underscore) f
    ≡ option_map (filter is_no_underscore) (option_map (regrouped_fraction group) f)
fraction_same group None all = refl
fraction_same group (Some t) all =
    ap (λ (ds : List ℕ). Some ds) (sym (fraction_digits group t all))

pub rewritten_float-number : (style : Style) (d : FloatParts) → IsFloat d →
    HaveSameNumber d (rewritten_float style d)
rewritten_float-number style d h =
    let cut = float_is_cut d h in
    let lens = part_lens style.float_groups (number_part d) in record {
      integer = sym (digits_stay lens.integer d.integer cut.integer);
      fraction = fraction_same lens.fraction d.fraction cut.fraction;
      exponent = exponent_digits style.exponents lens.exponent d.exponent cut.exponent;
    }

-- A second time

again : (case : Option Case) (lens : PartLens) (d : FloatParts) → IsFloat d →
    regrouped_float case lens (regrouped_float case lens d) ≡ regrouped_float case lens d
again case lens d h =
    let cut = float_is_cut d h in
    (λ i. record {
      integer = regrouped_twice lens.integer d.integer cut.integer i;
      fraction = fraction_twice lens.fraction d.fraction cut.fraction i;
      exponent = exponent_twice case lens.exponent d.exponent cut.exponent i;
      suffix = d.suffix;
    })

kept_again : (case : Option Case) (lens : PartLens) (d : FloatParts) →
    regrouped_float case kept_parts (regrouped_float case lens d) ≡ regrouped_float case lens d
kept_again case lens d = (λ i. record {
  integer = regrouped lens.integer d.integer;
  fraction = fraction_kept (option_map (regrouped_fraction lens.fraction) d.fraction) i;
  exponent = exponent_kept case lens.exponent d.exponent i;
  suffix = d.suffix;
})

-- the letter is not `_`, so there is a `_` afterwards iff there was one before
exponent_line : (case : Option Case) (p : List ℕ) →
    list_any is_underscore (rewritten_exponent case None p) ≡ list_any is_underscore p
exponent_line case [] = refl
exponent_line case (c ∷ cs) =
    (λ i. line_same case c i || list_any is_underscore (take-append-drop (sign_len cs) cs i))

number_line : (case : Option Case) (d : FloatParts) →
    list_any is_underscore (number_part (regrouped_float case kept_parts d))
    ≡ list_any is_underscore (number_part d)
number_line case d =
    let p = is_underscore in
    let e = rewritten_exponent case None d.exponent in
    ap (λ (f : Option (List ℕ)). list_any p (d.integer ++ (fraction_text f ++ e)))
    (fraction_kept d.fraction)
    ∙ (list_any-append p d.integer (fraction_text d.fraction ++ e)
    ∙ (ap (λ (v : Bool). list_any p d.integer || v)
    (list_any-append p (fraction_text d.fraction) e
    ∙ (ap (λ (v : Bool). list_any p (fraction_text d.fraction) || v) (exponent_line case d.exponent)
    ∙ sym (list_any-append p (fraction_text d.fraction) d.exponent)))
    ∙ sym (list_any-append p d.integer (fraction_text d.fraction ++ d.exponent))))

twice_by : (case : Option Case) (groups : FloatGroups) (d : FloatParts) → IsFloat d →
    (let new = regrouped_float case (part_lens groups (number_part d)) d in
    regrouped_float case (part_lens groups (number_part new)) new ≡ new)
twice_by case Kept d h = kept_again case kept_parts d
twice_by case (Grouped lens) d h = again case (grouped_parts lens) d h
twice_by case (Regrouped lens) d h =
    let to : PartLens → FloatParts = λ (l : PartLens). regrouped_float case l d in
    let next : FloatParts → PartLens = λ (e : FloatParts). part_lens (Regrouped lens) (number_part e) in
    cond_both (list_any is_underscore (number_part d)) (grouped_parts lens) kept_parts
    (λ l. regrouped_float case (next (to l)) (to l) ≡ to l)
    (λ some.
    cond_both (list_any is_underscore (number_part (to (grouped_parts lens)))) (grouped_parts lens)
    kept_parts
    (λ l. regrouped_float case l (to (grouped_parts lens)) ≡ to (grouped_parts lens))
    (λ more. again case (grouped_parts lens) d h)
    (λ none. kept_again case (grouped_parts lens) d))
    (λ none.
    cond_both (list_any is_underscore (number_part (to kept_parts))) (grouped_parts lens) kept_parts
    (λ l. regrouped_float case l (to kept_parts) ≡ to kept_parts)
    (λ more. absurd (true≢false (sym more ∙ (number_line case d ∙ none))))
    (λ none_left. kept_again case kept_parts d))

pub float_twice : (style : Style) (d : FloatParts) → IsFloat d →
    rewritten_float style (rewritten_float style d) ≡ rewritten_float style d
float_twice style d h = twice_by style.exponents style.float_groups d h

-- The text, as bytes

number_is_ascii : OnlyAscii is_number_char
number_is_ascii c high = grind (arith, nat_tests)

-- without a case, characters stay
pub without_case : (t : List ℕ) → map (cased None) t ≡ t
without_case [] = refl
without_case (c ∷ t) = ap (λ (l : List ℕ). c ∷ l) (without_case t)

-- a text of a number is its own bytes
pub number_bytes : (bytes t : List ℕ) → IsUtf8 bytes → chars bytes ≡ t →
    list_all is_number_char t ≡ true → bytes ≡ t
number_bytes bytes t u same all =
    sym (encodes-chars bytes u)
    ∙ (ap encode_utf8_all same ∙ encodes-IsAscii t (ascii_all is_number_char t number_is_ascii all))

pub number_ascii : (t : List ℕ) → list_all is_number_char t ≡ true → IsAscii t
number_ascii t all = ascii_all is_number_char t number_is_ascii all

pub float_chars : (case : Option Case) (lens : PartLens) (d : FloatParts) → IsFloat d →
    (suffix bytes : List ℕ) → chars suffix ≡ d.suffix →
    bytes ≡ number_part (regrouped_float case lens d) ++ suffix →
    chars bytes ≡ float_text (regrouped_float case lens d)
float_chars case lens d h suffix bytes of_suffix is =
    let e = regrouped_float case lens d in
    let number = number_part e in
    let ascii = number_ascii number (number_part_chars e (float_is_cut e (float_stays case lens d h))) in
    ap chars is
    ∙ (chars-append number suffix (IsUtf8-from_ascii number ascii)
    ∙ ((λ i. chars-IsAscii number ascii i ++ of_suffix i) ∙ number_part-suffix e))

-- each part of a number is ASCII
pub record AreNumbers (d : FloatParts) : Type 0 where
  pub all : list_all is_number_char (number_part d) ≡ true
  pub integer : list_all is_number_char d.integer ≡ true
  pub fraction : list_all is_number_char (fraction_text d.fraction) ≡ true
  pub exponent : list_all is_number_char d.exponent ≡ true

pub are_numbers : (d : FloatParts) → IsFloat d → AreNumbers d
are_numbers d h =
    let p = is_number_char in
    let rest = fraction_text d.fraction ++ d.exponent in
    let all = number_part_chars d (float_is_cut d h) in
    let one = and_parts (list_all p d.integer) (list_all p rest)
    (sym (list_all-append p d.integer rest) ∙ all) in
    let two = and_parts (list_all p (fraction_text d.fraction)) (list_all p d.exponent)
    (sym (list_all-append p (fraction_text d.fraction) d.exponent) ∙ one.1) in
    record { all = all; integer = one.0; fraction = two.0; exponent = two.1 }

-- the fraction as bytes
pub fraction_ascii : (o : Option (Bor (List ℕ))) (f : Option (List ℕ)) →
    option_map (λ (t : Bor (List ℕ)). chars t.now) o ≡ f →
    IfSome o (λ (t : Bor (List ℕ)). IsUtf8 t.now) →
    list_all is_number_char (fraction_text f) ≡ true →
    IfSome o (λ (t : Bor (List ℕ)). IsAscii t.now)
fraction_ascii None f same utf8 all = utf8
fraction_ascii (Some t) f same utf8 all =
    let digits : list_all is_number_char (chars t.now) ≡ true =
    ap (λ (x : Option (List ℕ)). list_all is_number_char (fraction_text x)) same ∙ all in
    subst (λ (x : List ℕ). IsAscii x) (sym (number_bytes t.now (chars t.now) utf8 refl digits))
    (number_ascii (chars t.now) digits)

pub fraction_is : (group : Option ℕ) (o : Option (Bor (List ℕ))) (f : Option (List ℕ)) →
    option_map (λ (t : Bor (List ℕ)). chars t.now) o ≡ f →
    IfSome o (λ (t : Bor (List ℕ)). IsUtf8 t.now) →
    list_all is_number_char (fraction_text f) ≡ true →
    option_map (λ (t : Bor (List ℕ)). regrouped_fraction group t.now) o
    ≡ option_map (regrouped_fraction group) f
fraction_is group None f same utf8 all = ap (option_map (regrouped_fraction group)) same
fraction_is group (Some t) f same utf8 all =
    let digits : list_all is_number_char (chars t.now) ≡ true =
    ap (λ (x : Option (List ℕ)). list_all is_number_char (fraction_text x)) same ∙ all in
    ap (λ (x : List ℕ). Some (regrouped_fraction group x))
    (number_bytes t.now (chars t.now) utf8 refl digits)
    ∙ ap (option_map (regrouped_fraction group)) same

pub five_parts : (a b x s empty one two three all : List ℕ) → empty ≡ [] → one ≡ empty ++ a →
    two ≡ one ++ b → three ≡ two ++ x → all ≡ three ++ s → all ≡ (a ++ (b ++ x)) ++ s
five_parts a b x s empty one two three all nothing first second third last =
    last ∙ ap (λ (t : List ℕ). t ++ s) (third
    ∙ (ap (λ (t : List ℕ). t ++ x) (second ∙ ap (λ (t : List ℕ). t ++ b)
    (first ∙ ap (λ (t : List ℕ). t ++ a) nothing)) ∙ append_assoc a b x))

pub written_float : (style : Style) (d : FloatParts) → IsFloat d → (lens : PartLens)
    (number integer exponent suffix text : List ℕ) (fraction : Option (Bor (List ℕ))) →
    lens ≡ part_lens style.float_groups number → number ≡ number_part d → integer ≡ d.integer →
    option_map (λ (t : Bor (List ℕ)). regrouped_fraction lens.fraction t.now) fraction
    ≡ option_map (regrouped_fraction lens.fraction) d.fraction →
    exponent ≡ d.exponent → chars suffix ≡ d.suffix →
    text ≡ (regrouped lens.integer integer ++ (fraction_text
    (option_map (λ (t : Bor (List ℕ)). regrouped_fraction lens.fraction t.now) fraction)
    ++ rewritten_exponent style.exponents lens.exponent exponent)) ++ suffix →
    chars text ≡ float_text (rewritten_float style d)
written_float style d h lens number integer exponent suffix text fraction is number_is integer_is
    of_fraction exponent_is of_suffix written =
    let same : lens ≡ part_lens style.float_groups (number_part d) =
    is ∙ ap (part_lens style.float_groups) number_is in
    subst (λ (l : PartLens). chars text ≡ float_text (regrouped_float style.exponents l d)) same
    (float_chars style.exponents lens d h suffix text of_suffix (written
    ∙ (λ i. (regrouped lens.integer (integer_is i) ++ (fraction_text (of_fraction i)
    ++ rewritten_exponent style.exponents lens.exponent (exponent_is i))) ++ suffix)))
