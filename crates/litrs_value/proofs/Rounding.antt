-- From the leading bits of an integer to the float nearest to it.
use Rattle.std.proofs.Common.{◌≡◌, ℕ, zero, suc, ◌+◌, ◌-◌, ◌*◌, ◌/◌, ◌%◌, ◌^◌, ◌<◌, ◌≤◌, true, false, inl, inr, sym, ap, subst, ◌∙◌, arith}
use native.Mathlib.Nat.{eq-zero-or-pos, add_comm, mul-one, mul_assoc, mul-pos, mod-lt, mul-le-mul_right, mul-lt-mul_of_pos_right, le-div_iff_mul-le, div-add-mod', pow-suc}
use Rattle.std.proofs.lemmas.Bool.{cases_Bool, cases_lt}
use lib.Count.{count_leading_zeros, leading_top}
use lib.Pow.{pow-add, pow_mono, pow_pos, shr_lt}
use lib.Ieee.{Format, prec, low, hid, round, of_bits}
use Rattle.fast_float.specs.Rounding.{scaled_bits}
use Rattle.fast_float.proofs.Patterns.{shape}
use Rattle.fast_float.proofs.RoundingLemmas.{nearest_below, nearest_tie, nearest_above}
use Rattle.litrs_value.specs.Leading.{IsLeading}
use Rattle.litrs_value.specs.declared.leading.Leading.{Leading}

-- the unit of the last place, in least floats
unit_is : (f : Format) (h d s : ℕ) → 2 * h ≡ 2 ^ d → 1 * 2 ^ (low f + d + s) ≡ 2 * (h * (2 ^ s * 2 ^ low f))
unit_is f h d s half =
    let e : 2 ^ (low f + d + s) ≡ 2 ^ low f * (2 * h) * 2 ^ s =
    pow-add 2 (low f + d) s ∙ ap (λ x. x * 2 ^ s) (pow-add 2 (low f) d) ∙ ap (λ x. 2 ^ low f * x * 2 ^ s) (sym half) in
    turn (2 ^ low f) h (2 ^ s) (2 ^ (low f + d + s)) e
  where
    turn : (l h s x : ℕ) → x ≡ l * (2 * h) * s → 1 * x ≡ 2 * (h * (s * l))
    turn l h s x e = rw e (grind arith)

number_is : (kept h rest p : ℕ) → (kept * (2 * h) + rest) * p ≡ 2 * (kept * (h * p)) + rest * p
number_is kept h rest p = grind arith

kept_is : (kept v : ℕ) → kept * (2 * v) ≡ 2 * (kept * v)
kept_is kept v = grind arith

next_is : (kept v : ℕ) → (kept + 1) * (2 * v) ≡ 2 * (kept * v) + 2 * v
next_is kept v = grind arith

halfway_is : (kept v : ℕ) → (2 * kept + 1) * (2 * v) ≡ 4 * (kept * v) + 2 * v
halfway_is kept v = grind arith

one_more : (a p : ℕ) → (a + 1) * p ≡ a * p + p
one_more a p = grind arith

module _ (f : Format) (n number kept rest h d s : ℕ) (half : 2 * h ≡ 2 ^ d) (parts : number ≡ kept * (2 * h) + rest) (inside : rest < 2 * h)
    (fits : kept < 2 ^ prec f) (normal : hid f ≤ kept) (from : number * 2 ^ s ≤ n) (below : n < (number + 1) * 2 ^ s) where
  abbrev p : ℕ
  p = 2 ^ s * 2 ^ low f

  abbrev v : ℕ
  v = h * p

  abbrev k : ℕ
  k = low f + d + s

  number_at : number * 2 ^ s * 2 ^ low f ≡ 2 * (kept * v) + rest * p
  number_at = mul_assoc number (2 ^ s) (2 ^ low f) ∙ ap (λ x. x * p) parts ∙ number_is kept h rest p

  at_least : 2 * (kept * v) + rest * p ≤ n * 2 ^ low f
  at_least = subst (λ x. x ≤ n * 2 ^ low f) number_at (mul-le-mul_right (2 ^ low f) from)

  at_most : n * 2 ^ low f < 2 * (kept * v) + rest * p + p
  at_most =
      let l : n * 2 ^ low f < (number + 1) * 2 ^ s * 2 ^ low f = mul-lt-mul_of_pos_right below (pow_pos (low f)) in
      let e : (number + 1) * 2 ^ s * 2 ^ low f ≡ number * 2 ^ s * 2 ^ low f + p = mul_assoc (number + 1) (2 ^ s) (2 ^ low f) ∙ one_more number p ∙ ap (λ x. x + p) (sym (mul_assoc number (2 ^ s) (2 ^ low f))) in
      omega (arith, l, e, number_at)

  rest_fits : rest * p + p ≤ 2 * v
  rest_fits =
      let l : rest + 1 ≤ 2 * h = omega arith in
      omega (arith, mul-le-mul_right p l, one_more rest p, mul_assoc 2 h p)

  unit : 1 * 2 ^ k ≡ 2 * v
  unit = unit_is f h d s half

  kept_at : kept * (1 * 2 ^ k) ≡ 2 * (kept * v)
  kept_at = ap (λ x. kept * x) unit ∙ kept_is kept v

  next_at : (kept + 1) * (1 * 2 ^ k) ≡ 2 * (kept * v) + 2 * v
  next_at = ap (λ x. (kept + 1) * x) unit ∙ next_is kept v

  halfway_at : (2 * kept + 1) * (1 * 2 ^ k) ≡ 4 * (kept * v) + 2 * v
  halfway_at = ap (λ x. (2 * kept + 1) * x) unit ∙ halfway_is kept v

  positive : 0 < 1
  positive = omega arith

  rounds_down : rest < h → of_bits f (scaled_bits f kept k) ≡ round f false n 1
  rounds_down less =
      let l : rest + 1 ≤ h = omega arith in
      (nearest_below f n 1 kept k positive
      (record { significand = record { fits = fits; normal = λ _. normal }; from = omega (arith, kept_at, at_least); below = omega (arith, next_at, at_most, rest_fits) })
      (omega (arith, halfway_at, at_most, mul-le-mul_right p l, one_more rest p))).0

  rounds_up : v < rest * p → of_bits f (scaled_bits f (kept + 1) k) ≡ round f false n 1
  rounds_up more =
      (nearest_above f n 1 kept k positive
      (record { significand = record { fits = fits; normal = λ _. normal }; from = omega (arith, kept_at, at_least); below = omega (arith, next_at, at_most, rest_fits) })
      (omega (arith, halfway_at, at_least, more))).0

  rounds_beyond : v < n * 2 ^ low f - 2 * (kept * v) → of_bits f (scaled_bits f (kept + 1) k) ≡ round f false n 1
  rounds_beyond more =
      (nearest_above f n 1 kept k positive
      (record { significand = record { fits = fits; normal = λ _. normal }; from = omega (arith, kept_at, at_least); below = omega (arith, next_at, at_most, rest_fits) })
      (omega (arith, halfway_at, more))).0

  rounds_to_even : n * 2 ^ low f ≡ 2 * (kept * v) + v → of_bits f (scaled_bits f (kept + kept % 2) k) ≡ round f false n 1
  rounds_to_even tie =
      (nearest_tie f n 1 kept k positive
      (record { significand = record { fits = fits; normal = λ _. normal }; from = omega (arith, kept_at, at_least); below = omega (arith, next_at, at_most, rest_fits) })
      (omega (arith, halfway_at, tie))).0

  -- above the half: by a whole unit of the rest
  above_half : h < rest → v < rest * p
  above_half more =
      let l : h + 1 ≤ rest = omega arith in
      omega (arith, mul-le-mul_right p l, one_more h p, pow_pos s, scale_pos)
    where
      scale_pos : 0 < p
      scale_pos = mul-pos (pow_pos s) (pow_pos (low f))

  -- at the half, with more or without
  at_half : rest ≡ h → rest * p ≡ v
  at_half e = ap (λ x. x * p) e

  exact_tie : rest ≡ h → n ≡ number * 2 ^ s → n * 2 ^ low f ≡ 2 * (kept * v) + v
  exact_tie e exact = ap (λ x. x * 2 ^ low f) exact ∙ number_at ∙ ap (λ x. 2 * (kept * v) + x) (at_half e)

  beyond_tie : rest ≡ h → number * 2 ^ s < n → v < n * 2 ^ low f - 2 * (kept * v)
  beyond_tie e above = omega (arith, mul-lt-mul_of_pos_right above (pow_pos (low f)), number_at, at_half e)

-- the leading bits, and what is kept of them
pub rounded_value : (f : Format) (x : Leading) (n len d q : ℕ) → IsLeading x n → 2 ^ (len - 1) ≤ x.number → x.number < 2 ^ len → d + prec f ≡ len → 0 < d
    → let kept = x.number / 2 ^ d in let rest = x.number % 2 ^ d in let half = 2 ^ d / 2 in
    (rest < half → q ≡ kept) → (rest ≡ half → x.more ≡ false → q ≡ kept + kept % 2) → (rest ≡ half → x.more ≡ true → q ≡ kept + 1) → (half < rest → q ≡ kept + 1)
    → of_bits f (scaled_bits f q (low f + d + x.shift)) ≡ round f false n 1
rounded_value f x n len zero q is least most places some down tie beyond up = absurd (omega (arith, some))
rounded_value f x n len (suc e) q is least most places some down tie beyond up =
    let d : ℕ = suc e in
    let u : ℕ = 2 ^ d in
    let s : ℕ = x.shift in
    let kept : ℕ = x.number / u in
    let rest : ℕ = x.number % u in
    let h : ℕ = u / 2 in
    let half : 2 * h ≡ u = omega (arith, pow-suc 2 e) in
    let parts : x.number ≡ kept * (2 * h) + rest = sym (div-add-mod' x.number u) ∙ ap (λ z. kept * z + rest) (sym half) in
    let inside : rest < 2 * h = subst (λ z. rest < z) (sym half) (mod-lt x.number (pow_pos d)) in
    let fits : kept < 2 ^ prec f = shr_lt (prec f) d (subst (λ z. x.number < 2 ^ z) (sym places ∙ add_comm d (prec f)) most) in
    let digits = shape f in
    let low_len : len - 1 ≡ prec f - 1 + d = omega (arith, digits.digits.0, places) in
    let normal : hid f ≤ kept = (le-div_iff_mul-le (pow_pos d)).1 (subst (λ z. z ≤ x.number) (ap (λ z. 2 ^ z) low_len ∙ pow-add 2 (prec f - 1) d) least) in
    let go : (y : ℕ) → q ≡ y → of_bits f (scaled_bits f y (low f + d + s)) ≡ round f false n 1 → of_bits f (scaled_bits f q (low f + d + s)) ≡ round f false n 1 =
    λ y e h. ap (λ z. of_bits f (scaled_bits f z (low f + d + s))) e ∙ h in
    elim (eq-zero-or-pos (h - rest)) [
      | inr gap ↦
          let less : rest < h = omega (arith, gap) in
          go kept (down less) (rounds_down f n x.number kept rest h d s half parts inside fits normal is.from is.below less)
      | inl z ↦ elim (eq-zero-or-pos (rest - h)) [
        | inr gap ↦
            let more : h < rest = omega (arith, gap) in
            go (kept + 1) (up more) (rounds_up f n x.number kept rest h d s half parts inside fits normal is.from is.below (above_half f n x.number kept rest h d s half parts inside fits normal is.from is.below more))
        | inl y ↦
            let same : rest ≡ h = omega (arith, z, y) in
            elim (cases_Bool x.more) [
              | inl set ↦ go (kept + 1) (beyond same set) (rounds_beyond f n x.number kept rest h d s half parts inside fits normal is.from is.below (beyond_tie f n x.number kept rest h d s half parts inside fits normal is.from is.below same (is.above set)))
              | inr clear ↦ go (kept + kept % 2) (tie same clear) (rounds_to_even f n x.number kept rest h d s half parts inside fits normal is.from is.below (exact_tie f n x.number kept rest h d s half parts inside fits normal is.from is.below same (is.exact clear)))
            ]
      ]
    ]

-- likewise with the unit and the exponent as the code has them
pub rounded_at : (f : Format) (x : Leading) (n len d u q e : ℕ) → IsLeading x n → 2 ^ (len - 1) ≤ x.number → x.number < 2 ^ len → d + prec f ≡ len → 0 < d → u ≡ 2 ^ d → e ≡ low f + d + x.shift
    → (x.number % u < u / 2 → q ≡ x.number / u) → (x.number % u ≡ u / 2 → x.more ≡ false → q ≡ x.number / u + x.number / u % 2) → (x.number % u ≡ u / 2 → x.more ≡ true → q ≡ x.number / u + 1) → (u / 2 < x.number % u → q ≡ x.number / u + 1)
    → of_bits f (scaled_bits f q e) ≡ round f false n 1
rounded_at f x n len d u q e is least most places some power exponent down tie beyond up =
    ap (λ k. of_bits f (scaled_bits f q k)) exponent
    ∙ rounded_value f x n len d q is least most places some
    (subst (λ (z : ℕ). x.number % z < z / 2 → q ≡ x.number / z) power down)
    (subst (λ (z : ℕ). x.number % z ≡ z / 2 → x.more ≡ false → q ≡ x.number / z + x.number / z % 2) power tie)
    (subst (λ (z : ℕ). x.number % z ≡ z / 2 → x.more ≡ true → q ≡ x.number / z + 1) power beyond)
    (subst (λ (z : ℕ). z / 2 < x.number % z → q ≡ x.number / z + 1) power up)

-- the number of digits that are dropped of a number of this length
pub dropped_is : (f : Format) (len digits : ℕ) → digits ≡ prec f → 61 ≤ len → (len - digits + prec f ≡ len) × (0 < len - digits) × (digits ≤ len)
dropped_is f len digits is long = let s = shape f in (omega (arith, is, s.digits.1, long), omega (arith, is, s.digits.1, long), omega (arith, is, s.digits.1, long))

-- the leading bits of a large integer are many
pub leading_long : (x : Leading) (n : ℕ) → IsLeading x n → 2 ^ 64 ≤ n → 2 ^ 60 ≤ x.number
leading_long x n is large = elim (cases_lt x.number (2 ^ 60)) [
  | inl less ↦ (
      let plain = is.short less in
      let all : n ≡ x.number = is.exact plain.1 ∙ ap (λ k. x.number * 2 ^ k) plain.0 ∙ mul-one x.number in
      absurd (omega (arith, all, less, large)))
  | inr more ↦ more
]

-- the kept bits are at most 53
pub kept_fits : (f : Format) (number len digits u : ℕ) → digits ≡ prec f → 61 ≤ len → number < 2 ^ len → u ≡ 2 ^ (len - digits) → number / u < 2 ^ 53
kept_fits f number len digits u is long most power =
    let s = shape f in
    let places : len ≡ prec f + (len - digits) = omega (arith, is, s.digits.1, long) in
    let fits : number / 2 ^ (len - digits) < 2 ^ prec f = shr_lt (prec f) (len - digits) (subst (λ (z : ℕ). number < 2 ^ z) places most) in
    subst (λ (z : ℕ). number / z < 2 ^ 53) (sym power) (omega (arith, fits, pow_mono s.digits.1))

-- the length of a number by its leading zeros
pub len_is : (w z r : ℕ) → 2 ^ 60 ≤ w → w < 2 ^ 64 → z ≡ count_leading_zeros 64 w → r ≡ 64 - z → (2 ^ (r - 1) ≤ w) × (w < 2 ^ r) × ((61 ≤ r) × (r ≤ 64))
len_is w z r large small zeros size =
    let t = leading_top 64 w (omega (arith, large)) small in
    let places : z + suc t.0 ≡ 64 = ap (λ (k : ℕ). k + suc t.0) zeros ∙ t.1 in
    let len : suc t.0 ≡ r = omega (arith, places, size) in
    let last : t.0 ≡ r - 1 = omega (arith, len) in
    let most : w < 2 ^ r = subst (λ (k : ℕ). w < 2 ^ k) len t.3 in
    let long : 61 ≤ r = elim (cases_lt r 61) [ inl less ↦ (let few : r ≤ 60 = omega (arith, less) in absurd (omega (arith, pow_mono few, most, large))) | inr more ↦ more ] in
    (subst (λ (k : ℕ). 2 ^ k ≤ w) last t.2, most, (long, omega (arith, size)))
