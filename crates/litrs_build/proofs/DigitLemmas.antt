-- The digits of a number: each is one of the base, and together they have its value.
use Rattle.std.proofs.Common.{◌≡◌, inl, inr, ℕ, zero, suc, ◌+◌, ◌-◌, ◌*◌, ◌/◌, ◌%◌, ◌^◌, ◌≤◌, ◌<◌, true, ◌||◌, eqb, List, [], ◌∷◌, ◌++◌, map, length, take, drop, replicate, set, refl, sym, ap, ◌∙◌, arith}
use Rattle.std.specs.Prelude.{codes}
use Rattle.std.specs.Char.{digit_char, digit_value, to_ascii_lowercase}
use Rattle.std.specs.Int.{is_in_range}
use Rattle.std.specs.Int.Digits.{digits_of, number_from_digits_after, AllBelowBase}
use Rattle.std.specs.List.{list_all}
use Rattle.std.proofs.lemmas.Bool.{and_from, or_left, or_right, lt-ltb, le-ltb, le-leb, eq-eqb, ne_eqb, cond-true, cond-false, cond_both, cases_lt, cases_eq, eqb-true, eqb-false}
use Rattle.std.specs.Fmt.{decimal}
use Rattle.std.proofs.lemmas.Fmt.{decimal-digits_of, decimal_digit, length-decimal-le}
use Rattle.std.proofs.lemmas.Int.Digits.{digits_of_step, length-digits_of_step, length-digits_of-le, all_below_base_digits_of, number_digits_of}
use Rattle.std.proofs.lemmas.List.{append_assoc, length-append, length-map, length-replicate, length-take-le, map_push, drop-set, drop_all, drop-append-le, drop-replicate, replicate-append-replicate, take-append-drop, take-append-le, take-replicate}
use Rattle.std.proofs.lemmas.Str.{digit_value-digit_char}
use Rattle.std.proofs.Math.Nat.{pow-zero, pow-suc, pow-le-pow_left, one-le-pow, le-mul_of_pos_right, mul_assoc}
use Rattle.litrs_base.specs.declared.integer.IntegerBase.{IntegerBase}
use Rattle.litrs_base.specs.declared.integer.IntegerBase.TheVariants.{Binary, Octal, Decimal, Hexadecimal}
use Rattle.litrs_base.specs.Base.{base_value, is_digit}
use Rattle.litrs_base.specs.Numeral.{place_sum}
use Rattle.litrs_build.specs.WrittenDigits.{digits_in_radix, written_digits}

pub two_le : (base : IntegerBase) → 2 ≤ base_value base
two_le Binary = omega arith
two_le Octal = omega arith
two_le Decimal = omega arith
two_le Hexadecimal = omega arith

pub at_most_sixteen : (base : IntegerBase) → base_value base ≤ 16
at_most_sixteen Binary = omega arith
at_most_sixteen Octal = omega arith
at_most_sixteen Decimal = omega arith
at_most_sixteen Hexadecimal = omega arith

-- no number of 128 bits has more than 128 digits
pub digits_fit : (b n : ℕ) → 2 ≤ b → n < 2 ^ 128 → length (digits_of b n) ≤ 128
digits_fit b n two small =
    let more : 2 ^ 128 ≤ b ^ 128 = pow-le-pow_left two 128 in
    length-digits_of-le b 128 n two (omega arith)

-- The characters of digits.

char_low : (d : ℕ) → d < 10 → digit_char d ≡ 48 + d
char_low d low = cond-true _ _ _ (lt-ltb d 10 low)

char_high : (d : ℕ) → 10 ≤ d → digit_char d ≡ 87 + d
char_high d high = cond-false _ _ _ (le-ltb d 10 high)

in_range : (low high c : ℕ) → low ≤ c → c ≤ high → is_in_range low high c ≡ true
in_range low high c above below = and_from _ _ (le-leb low c above) (le-leb c high below)

hex_low : (c : ℕ) → 48 ≤ c → c ≤ 57 → is_digit Hexadecimal c ≡ true
hex_low c above below =
    or_left (is_in_range 48 57 c || is_in_range 65 70 c) (is_in_range 97 102 c)
    (or_left (is_in_range 48 57 c) (is_in_range 65 70 c) (in_range 48 57 c above below))

hex_high : (c : ℕ) → 97 ≤ c → c ≤ 102 → is_digit Hexadecimal c ≡ true
hex_high c above below =
    or_right (is_in_range 48 57 c || is_in_range 65 70 c) (is_in_range 97 102 c)
    (in_range 97 102 c above below)

pub is_digit-char : (base : IntegerBase) (d : ℕ) → d < base_value base →
    is_digit base (digit_char d) ≡ true
is_digit-char Binary d h = ap (is_digit Binary) (char_low d (omega arith))
    ∙ in_range 48 49 (48 + d) (omega arith) (omega arith)
is_digit-char Octal d h = ap (is_digit Octal) (char_low d (omega arith))
    ∙ in_range 48 55 (48 + d) (omega arith) (omega arith)
is_digit-char Decimal d h = ap (is_digit Decimal) (char_low d h)
    ∙ in_range 48 57 (48 + d) (omega arith) (omega arith)
is_digit-char Hexadecimal d h = elim (cases_lt d 10) [
  | inl low ↦ ap (is_digit Hexadecimal) (char_low d low)
      ∙ hex_low (48 + d) (omega arith) (omega arith)
  | inr high ↦ ap (is_digit Hexadecimal) (char_high d high)
      ∙ hex_high (87 + d) (omega arith) (omega arith)
]

-- they are in lower case
lower_char : (d : ℕ) → to_ascii_lowercase (digit_char d) ≡ digit_char d
lower_char d = elim (cases_lt d 10) [
  | inl low ↦ ap to_ascii_lowercase (char_low d low)
      ∙ (cond-true _ _ _ (lt-ltb (48 + d) 65 (omega arith)) ∙ sym (char_low d low))
  | inr high ↦ ap to_ascii_lowercase (char_high d high)
      ∙ (cond-false _ _ _ (le-ltb (87 + d) 65 (omega arith))
      ∙ (cond-false _ _ _ (le-ltb (87 + d) 91 (omega arith)) ∙ sym (char_high d high)))
]

pub lower_chars : (ds : List ℕ) → map to_ascii_lowercase (map digit_char ds) ≡ map digit_char ds
lower_chars [] = refl
lower_chars (d ∷ ds) = (λ i. lower_char d i ∷ lower_chars ds i)

pub digits_pass : (base : IntegerBase) (ds : List ℕ) → AllBelowBase (base_value base) ds →
    list_all (is_digit base) (map digit_char ds) ≡ true
digits_pass base [] below = refl
digits_pass base (d ∷ ds) below =
    and_from _ _ (is_digit-char base d below.0) (digits_pass base ds below.1)

-- Their value.

-- digits after a number
place_after : (b n : ℕ) (ds : List ℕ) → b ≤ 16 → AllBelowBase b ds →
    number_from_digits_after b n ds ≡ n * b ^ length ds + place_sum b (map digit_char ds)
unfolding place_sum
place_after b n [] small below = let one = pow-zero b in sym (ap (λ power. n * power + 0) one
    ∙ omega arith)
place_after b n (d ∷ ds) small below =
    let rest = place_sum b (map digit_char ds) in
    let power = b ^ length ds in
    let digit : digit_value (digit_char d)
    ≡ d = digit_value-digit_char d (let lt = below.0 in omega arith) in
    let more : b ^ suc (length ds) ≡ power * b = pow-suc b (length ds) in
    let before = place_after b (n * b + d) ds small below.1 in
    before ∙ sym (ap (λ v. n * b ^ suc (length ds) + (v * b ^ length (map digit_char ds) + rest))
    digit
    ∙ (ap (λ l. n * b ^ suc (length ds) + (d * b ^ l + rest)) (length-map ds digit_char)
    ∙ (ap (λ p. n * p + (d * power + rest)) more ∙ omega arith)))

zero_value : (b : ℕ) → place_sum b (codes "0") ≡ 0
unfolding place_sum
zero_value b = omega arith

-- the value of the digits of a number
pub written-value : (base : IntegerBase) (value : ℕ) →
    place_sum (base_value base) (written_digits base value) ≡ value
written-value base value =
    let b = base_value base in
    cond_both (eqb value 0) (codes "0") (map digit_char (digits_of b value))
    (λ t. place_sum b t ≡ value)
    (λ is. zero_value b ∙ sym (eqb-true value 0 is))
    (λ is. let all = place_after b 0 (digits_of b value) (at_most_sixteen base)
    (all_below_base_digits_of b value (two_le base)) in
    let number = number_digits_of b value (two_le base) in
    omega (arith, all, number))

-- All are digits, in lower case, and there is one.

pub written-pass : (base : IntegerBase) (value : ℕ) →
    list_all (is_digit base) (written_digits base value) ≡ true
written-pass base value =
    let b = base_value base in
    cond_both (eqb value 0) (codes "0") (map digit_char (digits_of b value))
    (λ t. list_all (is_digit base) t ≡ true)
    (λ is. zero_passes base)
    (λ is. digits_pass base (digits_of b value) (all_below_base_digits_of b value (two_le base)))
  where
    zero_passes : (base : IntegerBase) → list_all (is_digit base) (codes "0") ≡ true
    zero_passes Binary = refl
    zero_passes Octal = refl
    zero_passes Decimal = refl
    zero_passes Hexadecimal = refl

pub written-lower : (base : IntegerBase) (value : ℕ) →
    map to_ascii_lowercase (written_digits base value) ≡ written_digits base value
written-lower base value =
    let b = base_value base in
    cond_both (eqb value 0) (codes "0") (map digit_char (digits_of b value))
    (λ t. map to_ascii_lowercase t ≡ t)
    (λ is. refl)
    (λ is. lower_chars (digits_of b value))

pub written-filled : (base : IntegerBase) (value : ℕ) → 0 < length (written_digits base value)
written-filled base value =
    let b = base_value base in
    cond_both (eqb value 0) (codes "0") (map digit_char (digits_of b value)) (λ t. 0 < length t)
    (λ is. omega arith)
    (λ is.
    let ne = eqb-false value 0 is in
    let some : 0 < value = omega arith in
    let one = length-digits_of_step b value (two_le base) some in
    let same = length-map (digits_of b value) digit_char in
    omega (arith, one, same))

-- They are written into a buffer, the last one first.

pub write_step : (b rest start : ℕ) (buffer all : List ℕ) → 2 ≤ b → 0 < rest → 0 < start →
    start ≤ length buffer →
    map digit_char (digits_of b rest) ++ drop start buffer ≡ all →
    map digit_char (digits_of b (rest / b))
    ++ drop (start - 1) (set buffer (start - 1) (digit_char (rest % b))) ≡ all
write_step b rest start buffer all two some room within so_far =
    let k = start - 1 in
    let x = digit_char (rest % b) in
    let ds = digits_of b (rest / b) in
    let inside : k < length buffer = omega arith in
    let next : k + 1 ≡ start = omega arith in
    let dropped : drop k (set buffer k x) ≡ x ∷ drop start buffer = drop-set buffer k x inside
    ∙ ap (λ n. x ∷ drop n buffer) next in
    ap (λ t. map digit_char ds ++ t) dropped
    ∙ (sym (append_assoc (map digit_char ds) (x ∷ []) (drop start buffer))
    ∙ (ap (λ t. t ++ drop start buffer) (sym (map_push digit_char ds (rest % b)))
    ∙ (ap (λ es. map digit_char es ++ drop start buffer) (sym (digits_of_step b rest two some))
    ∙ so_far)))

-- one digit fewer is left
pub write_fits : (b rest start : ℕ) → 2 ≤ b → 0 < rest → length (digits_of b rest) ≤ start →
    (0 < start) × (length (digits_of b (rest / b)) ≤ start - 1)
write_fits b rest start two some fits =
    let one = length-digits_of_step b rest two some in (omega arith, omega arith)

pub write_zero : (b value : ℕ) (buffer : List ℕ) → value ≡ 0 → length buffer ≡ 128 →
    drop 127 (set buffer 127 48) ≡ digits_in_radix b value
write_zero b value buffer is_zero len =
    drop-set buffer 127 48 (omega arith)
    ∙ (ap (λ t. 48 ∷ t) (drop_all 128 buffer (omega arith))
    ∙ sym (cond-true (eqb value 0) (codes "0") (map digit_char (digits_of b value))
    (eq-eqb value 0 is_zero)))

-- Decimal digits are those that `{}` writes.

ten_chars : (ds : List ℕ) → AllBelowBase 10 ds → map (λ d. 48 + d) ds ≡ map digit_char ds
ten_chars [] below = refl
ten_chars (d ∷ ds) below = (λ i. sym (char_low d below.0) i ∷ ten_chars ds below.1 i)

pub decimal_digits : (n : ℕ) → n < 2 ^ 64 → decimal n ≡ written_digits Decimal n
decimal_digits n small = elim (cases_eq n 0) [
  | inl is ↦ ap decimal is ∙ (decimal_digit 0 (omega arith)
      ∙ sym (cond-true (eqb n 0) (codes "0") (map digit_char (digits_of 10 n)) (eq-eqb n 0 is)))
  | inr ne ↦ (let some : 0 < n = omega arith in
      decimal-digits_of n some small
      ∙ (ten_chars (digits_of 10 n) (all_below_base_digits_of 10 n (omega arith))
      ∙ sym (cond-false (eqb n 0) (codes "0") (map digit_char (digits_of 10 n)) (ne_eqb n 0 ne))))
]

-- The digits of a large number are those of its quotient, and the last ones with leading zeros.

abbrev pub all_digits : ℕ → List ℕ
all_digits n = map digit_char (digits_of 10 n)

abbrev pub padded : (k n : ℕ) → List ℕ
padded k n = let ds = written_digits Decimal n in replicate (k - length ds) 48 ++ ds

one_digit : (n : ℕ) → n < 10 → written_digits Decimal n ≡ digit_char n ∷ []
one_digit n small = elim (cases_eq n 0) [
  | inl is ↦ cond-true (eqb n 0) (codes "0") (all_digits n) (eq-eqb n 0 is)
      ∙ ap (λ m. digit_char m ∷ []) (sym is)
  | inr ne ↦ (let some : 0 < n = omega arith in
      let last : n / 10 ≡ 0 = omega arith in
      let itself : n % 10 ≡ n = omega arith in
      cond-false (eqb n 0) (codes "0") (all_digits n) (ne_eqb n 0 ne)
      ∙ (ap (map digit_char) (digits_of_step 10 n (omega arith) some)
      ∙ (λ i. map digit_char (digits_of 10 (last i) ++ (itself i ∷ [])))))
]

last_digit : (n : ℕ) → 0 < n → all_digits n ≡ all_digits (n / 10) ++ (digit_char (n % 10) ∷ [])
last_digit n some = ap (map digit_char) (digits_of_step 10 n (omega arith) some)
    ∙ map_push digit_char (digits_of 10 (n / 10)) (n % 10)

not_zero : (n : ℕ) → 0 < n → written_digits Decimal n ≡ all_digits n
not_zero n some = cond-false (eqb n 0) (codes "0") (all_digits n) (ne_eqb n 0 (λ e. omega arith))

padded_step : (k n : ℕ) → 1 ≤ k →
    padded (suc k) n ≡ padded k (n / 10) ++ (digit_char (n % 10) ∷ [])
padded_step k n some = elim (cases_lt n 10) [
  | inl low ↦ (let last : n / 10 ≡ 0 = omega arith in
      let itself : n % 10 ≡ n = omega arith in
      let before : suc (k - 1) ≡ k = omega arith in
      ap (λ ds. replicate (suc k - length ds) 48 ++ ds) (one_digit n low)
      ∙ sym ((λ i. padded k (last i) ++ (digit_char (itself i) ∷ []))
      ∙ ap (λ zeros. zeros ++ (digit_char n ∷ []))
      (replicate-append-replicate (k - 1) 1 48 ∙ ap (λ m. replicate m 48) (omega arith))))
  | inr high ↦ (let d = digit_char (n % 10) in
      let front = all_digits (n / 10) in
      let is : written_digits Decimal n ≡ front ++ (d ∷ []) = not_zero n (omega arith)
      ∙ last_digit n (omega arith) in
      let longer : suc k - length (front ++ (d ∷ [])) ≡ k - length front
      = ap (λ l. suc k - l) (length-append front (d ∷ [])) ∙ omega arith in
      ap (λ ds. replicate (suc k - length ds) 48 ++ ds) is
      ∙ (ap (λ m. replicate m 48 ++ (front ++ (d ∷ []))) longer
      ∙ (sym (append_assoc (replicate (k - length front) 48) front (d ∷ []))
      ∙ ap (λ ds. (replicate (k - length ds) 48 ++ ds) ++ (d ∷ [])) (sym (not_zero (n / 10) (omega arith))))))
]

-- The quotient is not zero, and the rest has at most `k` digits.
pub in_chunks : (k q r : ℕ) → 0 < q → r < 10 ^ suc k →
    all_digits (q * 10 ^ suc k + r) ≡ all_digits q ++ padded (suc k) r
in_chunks zero q r some small =
    let one : 10 ^ 1 ≡ 10 = refl in
    let low : r < 10 = omega (arith, one) in
    let whole : q * 10 ^ 1 + r ≡ q * 10 + r = ap (λ p. q * p + r) one in
    let n = q * 10 + r in
    let front : n / 10 ≡ q = omega arith in
    let last : n % 10 ≡ r = omega arith in
    ap all_digits whole
    ∙ (last_digit n (omega arith)
    ∙ ((λ i. all_digits (front i) ++ (digit_char (last i) ∷ []))
    ∙ ap (λ ds. all_digits q ++ ds)
    (sym (ap (λ ds. replicate (1 - length ds) 48 ++ ds) (one_digit r low)))))
in_chunks (suc k) q r some small =
    let p = 10 ^ suc k in
    let m = q * p in
    let more : 10 ^ suc (suc k) ≡ p * 10 = pow-suc 10 (suc k) in
    let whole : q * 10 ^ suc (suc k) + r ≡ m * 10 + r
    = ap (λ power. q * power + r) more ∙ ap (λ x. x + r) (sym (mul_assoc q p 10)) in
    let n = m * 10 + r in
    let front : n / 10 ≡ m + r / 10 = omega arith in
    let last : n % 10 ≡ r % 10 = omega arith in
    let power : 1 ≤ p = one-le-pow (suc k) 10 (omega arith) in
    let large : q ≤ m = le-mul_of_pos_right q power in
    let rest : r / 10 < p = omega (arith, more) in
    ap all_digits whole
    ∙ (last_digit n (omega arith)
    ∙ ((λ i. all_digits (front i) ++ (digit_char (last i) ∷ []))
    ∙ (ap (λ ds. ds ++ (digit_char (r % 10) ∷ [])) (in_chunks k q (r / 10) some rest)
    ∙ (append_assoc (all_digits q) (padded (suc k) (r / 10)) (digit_char (r % 10) ∷ [])
    ∙ ap (λ ds. all_digits q ++ ds) (sym (padded_step (suc k) r (omega arith)))))))

take_within : (e s : ℕ) (xs : List ℕ) → e ≤ s → s ≤ length xs → take e xs ≡ take e (take s xs)
take_within e s xs before within =
    let len = length-take-le s xs within in
    ap (take e) (sym (take-append-drop s xs))
    ∙ take-append-le e (take s xs) (drop s xs) (omega (arith, len))

-- A chunk of 9 digits, `digits` of them without leading zeros, is written up to `end`.
pub write_chunk : (end start : ℕ) (digits before after : List ℕ) →
    9 ≤ end → start + length digits ≡ end → length digits ≤ 9 → end ≤ length after →
    take end before ≡ replicate end 48 → take start after ≡ take start before →
    drop start after ≡ digits ++ drop end before → end ≤ length before →
    (take (end - 9) after ≡ replicate (end - 9) 48)
    × (drop (end - 9) after ≡ (replicate (9 - length digits) 48 ++ digits) ++ drop end before)
write_chunk end start digits before after room starts few within zeros kept written within_before =
    let e = end - 9 in
    let front : take start after ≡ replicate start 48 = kept
    ∙ (take_within start end before (omega arith) within_before
    ∙ (ap (take start) zeros ∙ take-replicate start end 48 (omega arith))) in
    let whole : replicate start 48 ++ (digits ++ drop end before) ≡ after
    = (λ i. sym front i ++ sym written i) ∙ take-append-drop start after in
    let len = length-replicate {A = ℕ} start 48 in
    let left : start - e ≡ 9 - length digits = omega arith in (
      take_within e start after (omega arith) (omega arith)
          ∙ (ap (take e) front ∙ take-replicate e start 48 (omega arith)),
      ap (drop e) (sym whole)
          ∙ (drop-append-le e (replicate start 48) (digits ++ drop end before) (omega (arith, len))
          ∙ (ap (λ zs. zs ++ (digits ++ drop end before))
          (drop-replicate e start 48 ∙ ap (λ n. replicate n 48) left)
          ∙ sym (append_assoc (replicate (9 - length digits) 48) digits (drop end before)))),
    )

pub written_fits : (n : ℕ) → n < 2 ^ 128 → length (written_digits Decimal n) ≤ 128
written_fits n small = elim (cases_eq n 0) [
  | inl is ↦ (let one = ap length (cond-true (eqb n 0) (codes "0") (all_digits n) (eq-eqb n 0 is)) in
      omega (arith, one))
  | inr ne ↦ (let same = ap length (not_zero n (omega arith)) in
      let len = length-map (digits_of 10 n) digit_char in
      let fits = digits_fit 10 n (omega arith) small in
      omega (arith, same, len, fits))
]

-- A number above 64 bits has the digits of its quotient, and 9 more.
pub next_chunk : (n q r : ℕ) → 2 ^ 64 ≤ n → q ≡ n / 1000000000 → r ≡ n % 1000000000 →
    ((digits : List ℕ) → digits ≡ written_digits Decimal r → (rest now : List ℕ) →
    now ≡ (replicate (9 - length digits) 48 ++ digits) ++ rest →
    written_digits Decimal q ++ now ≡ written_digits Decimal n ++ rest)
    × (length (written_digits Decimal q) + 9 ≡ length (written_digits Decimal n))
next_chunk n q r large q_is r_is =
    let sum : q * 10 ^ 9 + r ≡ n = omega arith in
    let all : written_digits Decimal n ≡ written_digits Decimal q ++ padded 9 r
    = not_zero n (omega arith) ∙ (sym (ap all_digits sum)
    ∙ (in_chunks 8 q r (omega arith) (omega arith)
    ∙ ap (λ ds. ds ++ padded 9 r) (sym (not_zero q (omega arith))))) in
    let few = ap length (sym (decimal_digits r (omega arith))) in
    let at_most = length-decimal-le 9 r (omega arith) (omega arith) (omega arith) in
    let joined = length-append (replicate (9 - length (written_digits Decimal r)) 48) (written_digits Decimal r) in
    let zeros = length-replicate {A = ℕ} (9 - length (written_digits Decimal r)) 48 in
    let both = length-append (written_digits Decimal q) (padded 9 r) in
    let whole = ap length all in (
      λ digits same rest now is.
          ap (λ t. written_digits Decimal q ++ t) is
          ∙ (ap (λ ds. written_digits Decimal q ++ ((replicate (9 - length ds) 48 ++ ds) ++ rest)) same
          ∙ (sym (append_assoc (written_digits Decimal q) (padded 9 r) rest)
          ∙ ap (λ ds. ds ++ rest) (sym all))),
      omega (arith, few, at_most, joined, zeros, both, whole),
    )
