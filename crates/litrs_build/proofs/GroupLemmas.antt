-- Digits in groups: which characters they have, and what is left without `_`.
use Rattle.std.proofs.Common.{◌≡◌, inl, inr, ℕ, suc, ◌<◌, Bool, true, false, not, cond, eqb, List, [], ◌∷◌, ◌++◌, map, length, refl, sym, ap, ◌∙◌, arith}
use Rattle.std.specs.Prelude.{filter, if◌then◌else◌}
use Rattle.std.specs.Char.{to_ascii_lowercase}
use Rattle.std.specs.List.{list_all, list_any}
use Rattle.std.proofs.lemmas.Bool.{and_from, and_parts, or_left, or_cases, ne_eqb, true≢false, false≢true, cases_eq, eqb-true}
use Rattle.std.proofs.lemmas.Bool.Decides.{nat_tests}
use Rattle.std.proofs.lemmas.List.{length-map, append_assoc, append-nil}
use Rattle.litrs_base.specs.declared.integer.IntegerBase.{IntegerBase}
use Rattle.litrs_base.specs.declared.integer.IntegerBase.TheVariants.{Binary, Octal, Decimal, Hexadecimal}
use Rattle.litrs_base.specs.Base.{is_digit, is_digit_or_underscore}
use Rattle.litrs_base.specs.Numeral.{is_no_underscore}
use Rattle.litrs_base.specs.Text.{first_passes}
use Rattle.litrs.specs.Digits.{digits_of}
use Rattle.litrs_build.specs.WrittenDigits.{ends_group, grouped}

-- Lists.

pub first_of_all : (p : ℕ → Bool) (xs : List ℕ) → 0 < length xs → list_all p xs ≡ true →
    first_passes p xs ≡ true
first_of_all p [] filled all = absurd (omega arith)
first_of_all p (c ∷ xs) filled all = (and_parts (p c) (list_all p xs) all).0

pub any_of_first : (p : ℕ → Bool) (xs : List ℕ) → first_passes p xs ≡ true → list_any p xs ≡ true
any_of_first p [] first = absurd (false≢true first)
any_of_first p (c ∷ xs) first = or_left (p c) (list_any p xs) first

pub filter_at : (c : ℕ) (xs : List ℕ) → is_no_underscore c ≡ true →
    filter is_no_underscore (c ∷ xs) ≡ c ∷ filter is_no_underscore xs
filter_at c xs h = ap (λ v. cond v (c ∷ filter is_no_underscore xs) (filter is_no_underscore xs)) h

-- Groups.

-- after each group a `_`, or none
abbrev pub mark : Bool → List ℕ
mark ends = if ends then 95 ∷ [] else []

filter_marked : (c : ℕ) (ends : Bool) (xs : List ℕ) → is_no_underscore c ≡ true →
    filter is_no_underscore (c ∷ (mark ends ++ xs)) ≡ c ∷ filter is_no_underscore xs
filter_marked c true xs h = filter_at c (95 ∷ xs) h
filter_marked c false xs h = filter_at c xs h

-- without `_` the digits are left
pub filter_grouped : (group : ℕ) (ds : List ℕ) → list_all is_no_underscore ds ≡ true →
    filter is_no_underscore (grouped group ds) ≡ ds
unfolding grouped
filter_grouped group [] all = refl
filter_grouped group (c ∷ ds) all =
    let parts = and_parts (is_no_underscore c) (list_all is_no_underscore ds) all in
    filter_marked c (ends_group group (length ds)) (grouped group ds) parts.0
    ∙ ap (λ t. c ∷ t) (filter_grouped group ds parts.1)

pub all_marked : (p : ℕ → Bool) (ends : Bool) (xs : List ℕ) → p 95 ≡ true → list_all p xs ≡ true →
    list_all p (mark ends ++ xs) ≡ true
all_marked p true xs line all = and_from (p 95) (list_all p xs) line all
all_marked p false xs line all = all

pub all_grouped : (p : ℕ → Bool) (group : ℕ) (ds : List ℕ) → p 95 ≡ true → list_all p ds ≡ true →
    list_all p (grouped group ds) ≡ true
unfolding grouped
all_grouped p group [] line all = refl
all_grouped p group (c ∷ ds) line all =
    let parts = and_parts (p c) (list_all p ds) all in
    and_from (p c) _ parts.0
    (all_marked p (ends_group group (length ds)) (grouped group ds) line
    (all_grouped p group ds line parts.1))

pub first_grouped : (p : ℕ → Bool) (group : ℕ) (ds : List ℕ) → first_passes p ds ≡ true →
    first_passes p (grouped group ds) ≡ true
unfolding grouped
first_grouped p group [] first = first
first_grouped p group (c ∷ ds) first = first

-- One more digit of a main part.

pub digits_of-underscore : (c : ℕ) (r : List ℕ) → c ≡ 95 → digits_of (c ∷ r) ≡ digits_of r
digits_of-underscore c r is = ap (λ n. digits_of (n ∷ r)) is

pub no_underscore : (c : ℕ) → (c ≡ 95 → ⊥) → is_no_underscore c ≡ true
no_underscore c ne = ap not (ne_eqb c 95 ne)

pub digits_of-digit : (c : ℕ) (r : List ℕ) → (c ≡ 95 → ⊥) →
    digits_of (c ∷ r) ≡ to_ascii_lowercase c ∷ digits_of r
digits_of-digit c r ne = ap (map to_ascii_lowercase) (filter_at c r (no_underscore c ne))

pub count-digit : (c : ℕ) (r : List ℕ) → (c ≡ 95 → ⊥) →
    length (filter is_no_underscore (c ∷ r)) ≡ suc (length (filter is_no_underscore r))
count-digit c r ne = ap length (filter_at c r (no_underscore c ne))

pub grouped_step : (group c after : ℕ) (r : List ℕ) → (c ≡ 95 → ⊥) →
    after ≡ length (filter is_no_underscore r) →
    grouped group (digits_of (c ∷ r))
    ≡ to_ascii_lowercase c ∷ ((if ends_group group after then 95 ∷ [] else [])
    ++ grouped group (digits_of r))
unfolding grouped
grouped_step group c after r ne count =
    ap (grouped group) (digits_of-digit c r ne)
    ∙ ap (λ n. to_ascii_lowercase c ∷ ((if ends_group group n then 95 ∷ [] else [])
    ++ grouped group (digits_of r)))
    (length-map (filter is_no_underscore r) to_ascii_lowercase ∙ sym count)

-- one digit is written
pub push_step : (group c after digit : ℕ) (ends : Bool) (r old new all : List ℕ) → (c ≡ 95 → ⊥) →
    after ≡ length (filter is_no_underscore r) → digit ≡ to_ascii_lowercase c →
    ends ≡ ends_group group after →
    new ≡ old ++ (digit ∷ (if ends then 95 ∷ [] else [])) →
    old ++ grouped group (digits_of (c ∷ r)) ≡ all →
    new ++ grouped group (digits_of r) ≡ all
push_step group c after digit ends r old new all ne count digit_is ends_is new_is so_far =
    let rest = grouped group (digits_of r) in
    let last = to_ascii_lowercase c ∷ (if ends_group group after then 95 ∷ [] else []) in
    ap (λ t. t ++ rest) (new_is ∙ (λ i. old ++ (digit_is i ∷ (if ends_is i then 95 ∷ [] else []))))
    ∙ (append_assoc old last rest
    ∙ (ap (λ t. old ++ t) (sym (grouped_step group c after r ne count)) ∙ so_far))

-- all are written
pub push_done : (group : ℕ) (old all : List ℕ) → old ++ grouped group (digits_of []) ≡ all →
    old ≡ all
unfolding grouped
push_done group old all so_far = sym (append-nil old) ∙ so_far

-- The digits of a main part are digits of its base.

digit_of_char : (base : IntegerBase) (c : ℕ) → is_digit_or_underscore base c ≡ true → (c ≡ 95 → ⊥) →
    is_digit base c ≡ true
digit_of_char base c is ne = elim (or_cases (is_digit base c) (eqb c 95) is) [
  | inl digit ↦ digit
  | inr line ↦ absurd (ne (eqb-true c 95 line))
]

lower_digit : (base : IntegerBase) (c : ℕ) → is_digit base c ≡ true →
    is_digit base (to_ascii_lowercase c) ≡ true
lower_digit Binary c is = grind (arith, nat_tests)
lower_digit Octal c is = grind (arith, nat_tests)
lower_digit Decimal c is = grind (arith, nat_tests)
lower_digit Hexadecimal c is = grind (arith, nat_tests)

pub all_digits_of : (base : IntegerBase) (t : List ℕ) →
    list_all (is_digit_or_underscore base) t ≡ true → list_all (is_digit base) (digits_of t) ≡ true
all_digits_of base [] all = refl
all_digits_of base (c ∷ t) all =
    let parts = and_parts (is_digit_or_underscore base c)
    (list_all (is_digit_or_underscore base) t) all in
    elim (cases_eq c 95) [
      | inl is ↦ ap (list_all (is_digit base)) (digits_of-underscore c t is)
          ∙ all_digits_of base t parts.1
      | inr ne ↦ ap (list_all (is_digit base)) (digits_of-digit c t ne)
          ∙ and_from (is_digit base (to_ascii_lowercase c)) (list_all (is_digit base) (digits_of t))
          (lower_digit base c (digit_of_char base c parts.0 ne)) (all_digits_of base t parts.1)
    ]

line_is_no_digit : (base : IntegerBase) → is_digit base 95 ≡ false
line_is_no_digit Binary = refl
line_is_no_digit Octal = refl
line_is_no_digit Decimal = refl
line_is_no_digit Hexadecimal = refl

-- a main part with a digit has digits
pub some_digit_of : (base : IntegerBase) (t : List ℕ) → list_any (is_digit base) t ≡ true →
    0 < length (digits_of t)
some_digit_of base [] any = absurd (false≢true any)
some_digit_of base (c ∷ t) any = elim (cases_eq c 95) [
  | inl is ↦ elim (or_cases (is_digit base c) (list_any (is_digit base) t) any) [
    | inl digit ↦ absurd (true≢false (sym digit ∙ (ap (is_digit base) is ∙ line_is_no_digit base)))
    | inr more ↦ (let same = ap length (digits_of-underscore c t is) in
        let rest = some_digit_of base t more in omega (arith, same, rest))
  ]
  | inr ne ↦ (let one = ap length (digits_of-digit c t ne) in omega (arith, one))
]

-- a digit is not `_`
pub digit_is_no_line : (base : IntegerBase) (c : ℕ) → is_digit base c ≡ true → is_no_underscore c ≡ true
digit_is_no_line base c is =
    no_underscore c (λ e. true≢false (sym is ∙ (ap (is_digit base) e ∙ line_is_no_digit base)))

pub digits_are_no_lines : (base : IntegerBase) (ds : List ℕ) → list_all (is_digit base) ds ≡ true →
    list_all is_no_underscore ds ≡ true
digits_are_no_lines base [] all = refl
digits_are_no_lines base (c ∷ ds) all =
    let parts = and_parts (is_digit base c) (list_all (is_digit base) ds) all in
    and_from (is_no_underscore c) (list_all is_no_underscore ds) (digit_is_no_line base c parts.0)
    (digits_are_no_lines base ds parts.1)

-- digits without `_` and in lower case are their own digits
pub filter_all : (ds : List ℕ) → list_all is_no_underscore ds ≡ true →
    filter is_no_underscore ds ≡ ds
filter_all [] all = refl
filter_all (c ∷ ds) all =
    let parts = and_parts (is_no_underscore c) (list_all is_no_underscore ds) all in
    filter_at c ds parts.0 ∙ ap (λ t. c ∷ t) (filter_all ds parts.1)

-- lower case stays
pub lower_twice : (c : ℕ) → to_ascii_lowercase (to_ascii_lowercase c) ≡ to_ascii_lowercase c
lower_twice c = grind (arith, nat_tests)

pub lower_all_twice : (t : List ℕ) →
    map to_ascii_lowercase (map to_ascii_lowercase t) ≡ map to_ascii_lowercase t
lower_all_twice [] = refl
lower_all_twice (c ∷ t) = (λ i. lower_twice c i ∷ lower_all_twice t i)
