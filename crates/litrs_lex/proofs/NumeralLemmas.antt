-- The number of digits, one more digit at a time.
use Rattle.std.proofs.Common.{◌≡◌, ℕ, ◌+◌, ◌*◌, ◌^◌, ◌≤◌, ◌<◌, true, not, cond, List, [], ◌∷◌, ◌++◌, length, take, drop, get_or, refl, sym, ap, ◌∙◌, arith, length-append}
use Rattle.std.specs.Prelude.{filter}
use Rattle.std.specs.Char.{digit_value}
use Rattle.std.proofs.lemmas.List.{take_more, take-append-drop}
use Rattle.std.proofs.lemmas.List.Elements.{filter-append}
use Rattle.std.proofs.lemmas.Nat.{pow-add}
use Rattle.std.proofs.lemmas.Grind.{pow_more}
use Rattle.std.proofs.Math.Nat.{mul-le-mul_left, one-le-pow, pow-zero}
use Rattle.std.specs.List.{list_all}
use Rattle.std.specs.Str.{chars, IsUtf8, IsAscii, encode_utf8_all}
use Rattle.std.proofs.lemmas.Str.{encodes-chars, encodes-IsAscii}
use Rattle.std.proofs.lemmas.Str.Ascii.{IsAscii-nil, IsAscii-cons}
use Rattle.litrs_base.proofs.Chars.{ascii_from_test}
use Rattle.litrs_lex.proofs.IntegerBytes.{digits_are_ascii}
use Rattle.std.proofs.lemmas.Bool.{ne_eqb, and_parts}
use Rattle.litrs_base.specs.declared.integer.IntegerBase.{IntegerBase}
use Rattle.litrs_base.specs.declared.integer.IntegerBase.TheVariants.{Binary, Octal, Decimal, Hexadecimal}
use Rattle.litrs_base.specs.Base.{base_value, is_digit_or_underscore}
use Rattle.litrs_base.specs.Numeral.{place_sum, is_no_underscore, numeral}

-- the digits in front count higher by the number of digits after them
place_sum-append : (base : ℕ) (xs ys : List ℕ) → place_sum base (xs ++ ys) ≡ place_sum base xs * base ^ length ys + place_sum base ys
unfolding place_sum
place_sum-append base [] ys = omega arith
place_sum-append base (c ∷ xs) ys =
    let more = place_sum-append base xs ys in
    let power : base ^ length (xs ++ ys) ≡ base ^ length xs * base ^ length ys = ap (λ n. base ^ n) (length-append xs ys) ∙ pow-add base (length xs) (length ys) in
    rw (power, more) (omega arith)

-- the characters so far are fewer than all, and so is their number
numeral-append : (base : ℕ) (xs ys : List ℕ) → numeral base (xs ++ ys) ≡ numeral base xs * base ^ length (filter is_no_underscore ys) + numeral base ys
numeral-append base xs ys = ap (place_sum base) (filter-append is_no_underscore xs ys) ∙ place_sum-append base (filter is_no_underscore xs) (filter is_no_underscore ys)

grows_by : (n power rest : ℕ) → 1 ≤ power → n ≤ n * power + rest
grows_by n power rest h = let more = mul-le-mul_left n h in omega arith

numeral_front : (base : ℕ) (xs ys : List ℕ) → 0 < base → numeral base xs ≤ numeral base (xs ++ ys)
numeral_front base xs ys h =
    let e = numeral-append base xs ys in
    let power = one-le-pow (length (filter is_no_underscore ys)) base h in
    let more = grows_by (numeral base xs) (base ^ length (filter is_no_underscore ys)) (numeral base ys) power in
    omega arith

pub numeral_take : (base : ℕ) (t : List ℕ) (n : ℕ) → 0 < base → numeral base (take n t) ≤ numeral base t
numeral_take base t n h = let e = ap (numeral base) (take-append-drop n t) in let more = numeral_front base (take n t) (drop n t) h in omega arith

only_underscore : (base n : ℕ) → n * base ^ 0 + place_sum base [] ≡ n
unfolding place_sum
only_underscore base n = let one : base ^ 0 ≡ 1 = pow-zero base in ap (λ power. n * power + 0) one ∙ omega arith

-- an underscore does not change the value, and a digit moves the others up by one place
pub numeral_underscore : (base : ℕ) (t : List ℕ) (i : ℕ) → i < length t → get_or t i 0 ≡ 95 → numeral base (take (i + 1) t) ≡ numeral base (take i t)
numeral_underscore base t i h e =
    ap (numeral base) (take_more t i 0 h) ∙ (numeral-append base (take i t) (get_or t i 0 ∷ [])
    ∙ (ap (λ c. numeral base (take i t) * base ^ length (filter is_no_underscore (c ∷ [])) + numeral base (c ∷ [])) e
    ∙ only_underscore base (numeral base (take i t))))

kept_digit : (c : ℕ) → (c ≡ 95 → ⊥) → filter is_no_underscore (c ∷ []) ≡ c ∷ []
kept_digit c ne = ap (λ v. cond (not v) (c ∷ []) []) (ne_eqb c 95 ne)

one_digit : (base c : ℕ) → place_sum base (c ∷ []) ≡ digit_value c
unfolding place_sum
one_digit base c = let one : base ^ 0 ≡ 1 = pow-zero base in ap (λ power. digit_value c * power + 0) one ∙ omega arith

pub numeral_digit : (base : ℕ) (t : List ℕ) (i : ℕ) → i < length t → (get_or t i 0 ≡ 95 → ⊥) →
    numeral base (take (i + 1) t) ≡ numeral base (take i t) * base + digit_value (get_or t i 0)
numeral_digit base t i h ne =
    let c = get_or t i 0 in
    let front = numeral base (take i t) in
    let power : base ^ 1 ≡ base = pow_more base 0 ∙ (ap (λ one. one * base) (pow-zero base) ∙ omega arith) in
    ap (numeral base) (take_more t i 0 h) ∙ (numeral-append base (take i t) (c ∷ [])
    ∙ (ap (λ kept. front * base ^ length kept + place_sum base kept) (kept_digit c ne)
    ∙ (ap (λ last. front * base ^ 1 + last) (one_digit base c) ∙ ap (λ power. front * power + digit_value c) power)))

pub numeral-nil : (base : ℕ) → numeral base [] ≡ 0
unfolding place_sum
numeral-nil base = refl

pub positive_base : (base : IntegerBase) → 0 < base_value base
positive_base Binary = omega arith
positive_base Octal = omega arith
positive_base Decimal = omega arith
positive_base Hexadecimal = omega arith

-- a text of digits and underscores is its own bytes
pub bytes_of_digits : (base : IntegerBase) (bs t : List ℕ) → IsUtf8 bs → chars bs ≡ t → list_all (is_digit_or_underscore base) t ≡ true → bs ≡ t
bytes_of_digits base bs t u e all = sym (encodes-chars bs u) ∙ (ap encode_utf8_all e ∙ encodes-IsAscii t (ascii_of_digits base t all))
  where
    ascii_of_digits : (base : IntegerBase) (t : List ℕ) → list_all (is_digit_or_underscore base) t ≡ true → IsAscii t
    ascii_of_digits base [] all = IsAscii-nil
    ascii_of_digits base (c ∷ t) all =
        let parts = and_parts (is_digit_or_underscore base c) (list_all (is_digit_or_underscore base) t) all in
        IsAscii-cons c t (ascii_from_test (is_digit_or_underscore base) c (digits_are_ascii base) parts.0) (ascii_of_digits base t parts.1)
