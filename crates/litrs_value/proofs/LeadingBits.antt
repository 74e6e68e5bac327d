-- The leading bits of an integer, and one more digit.
use Rattle.std.proofs.Common.{◌≡◌, ◌⊎◌, ℕ, ◌+◌, ◌*◌, ◌^◌, ◌<◌, ◌≤◌, Bool, true, false, List, length, get_or, inl, inr, sym, ap, ◌∙◌, arith}
use Rattle.std.proofs.lemmas.Bool.{cases_Bool, false≢true}
use Rattle.std.proofs.lemmas.Bool.Decides.{nat_tests}
use Rattle.std.proofs.lemmas.List.Folds.{list_all_at}
use Rattle.std.specs.Char.{digit_value}
use Rattle.std.specs.List.{list_all}
use Rattle.litrs.specs.Base.{base_value, is_digit_or_underscore}
use Rattle.litrs.specs.declared.IntegerBase.{IntegerBase}
use Rattle.litrs.specs.declared.IntegerBase.TheVariants.{Binary, Octal, Decimal, Hexadecimal}
use native.Mathlib.Nat.{mul_assoc, mul-one, mul-le-mul_right, mul-lt-mul_of_pos_right}
use lib.Pow.{pow-add}
use Rattle.litrs_value.specs.Leading.{IsLeading}
use Rattle.litrs_value.specs.declared.leading.Leading.{Leading}

-- no digit yet
pub leading_none : (x : Leading) (n : ℕ) → x.number ≡ 0 → x.more ≡ false → x.shift ≡ 0 → n ≡ 0 → IsLeading x n
leading_none x n number more shift none =
    let one : (x.number + 1) * 2 ^ x.shift ≡ 1 = ap (λ k. (x.number + 1) * 2 ^ k) shift ∙ ap (λ k. (k + 1) * 1) number in
    let zero : x.number * 2 ^ x.shift ≡ 0 = ap (λ k. x.number * 2 ^ k) shift ∙ ap (λ k. k * 1) number in
    record {
      from = omega (arith, zero);
      below = omega (arith, one, none);
      exact = λ _. none ∙ sym zero;
      above = λ set. absurd (false≢true (sym more ∙ set));
      short = λ _. (shift, more);
    }

-- all bits are leading ones: one more digit is appended to them
pub leading_digit : (x y : Leading) (n radix digit : ℕ) → x.number < 2 ^ 60 → y.number ≡ x.number * radix + digit → y.more ≡ x.more → y.shift ≡ x.shift → IsLeading x n → IsLeading y (n * radix + digit)
leading_digit x y n radix digit short number more shift is =
    let plain = is.short short in
    let all : n ≡ x.number = is.exact plain.1 ∙ ap (λ k. x.number * 2 ^ k) plain.0 ∙ mul-one x.number in
    let zero : y.shift ≡ 0 = shift ∙ plain.0 in
    let value : n * radix + digit ≡ y.number = ap (λ k. k * radix + digit) all ∙ sym number in
    let same : y.number * 2 ^ y.shift ≡ y.number = ap (λ k. y.number * 2 ^ k) zero ∙ mul-one y.number in
    let next : (y.number + 1) * 2 ^ y.shift ≡ y.number + 1 = ap (λ k. (y.number + 1) * 2 ^ k) zero ∙ mul-one (y.number + 1) in
    record {
      from = omega (arith, same, value);
      below = omega (arith, next, value);
      exact = λ _. value ∙ sym same;
      above = λ set. absurd (false≢true (sym (more ∙ plain.1) ∙ set));
      short = λ _. (zero, more ∙ plain.1);
    }

swap : (a p r : ℕ) → a * (p * r) ≡ a * p * r
swap a p r = sym (mul_assoc a p r)

-- enough bits are leading ones: one more digit follows them
pub leading_follows : (x y : Leading) (n radix digit bits : ℕ) (more : Bool) → 2 ^ 60 ≤ x.number → radix ≡ 2 ^ bits → digit < radix
    → y.number ≡ x.number → y.more ≡ more → y.shift ≡ x.shift + bits → (more ≡ false → (x.more ≡ false) × (digit ≡ 0)) → (more ≡ true → (x.more ≡ true) ⊎ (0 < digit)) → IsLeading x n → IsLeading y (n * radix + digit)
leading_follows x y n radix digit bits more long base small number is_more shift none some is =
    let power : 2 ^ y.shift ≡ 2 ^ x.shift * radix = ap (λ k. 2 ^ k) shift ∙ pow-add 2 x.shift bits ∙ ap (λ k. 2 ^ x.shift * k) (sym base) in
    let at : y.number * 2 ^ y.shift ≡ x.number * 2 ^ x.shift * radix = ap (λ k. k * 2 ^ y.shift) number ∙ ap (λ k. x.number * k) power ∙ swap x.number (2 ^ x.shift) radix in
    let next : (y.number + 1) * 2 ^ y.shift ≡ (x.number + 1) * 2 ^ x.shift * radix = ap (λ k. (k + 1) * 2 ^ y.shift) number ∙ ap (λ k. (x.number + 1) * k) power ∙ swap (x.number + 1) (2 ^ x.shift) radix in
    let low : x.number * 2 ^ x.shift * radix ≤ n * radix = mul-le-mul_right radix is.from in
    let step : n + 1 ≤ (x.number + 1) * 2 ^ x.shift = omega (arith, is.below) in
    let high : (n + 1) * radix ≤ (x.number + 1) * 2 ^ x.shift * radix = mul-le-mul_right radix step in
    let one : (n + 1) * radix ≡ n * radix + radix = grind arith in
    record {
      from = omega (arith, at, low);
      below = omega (arith, next, high, one, small);
      exact = λ clear. (let h = none (sym is_more ∙ clear) in let e = ap (λ k. k * radix) (is.exact h.0) in omega (arith, at, e, h.1));
      above = λ set. elim (some (sym is_more ∙ set)) [
        | inl before ↦ (let l = mul-lt-mul_of_pos_right (is.above before) (positive small) in omega (arith, at, l))
        | inr digits ↦ omega (arith, at, low, digits)
      ];
      short = λ less. absurd (omega (arith, less, long, number));
    }
  where
    positive : {a b : ℕ} → a < b → 0 < b
    positive l = omega (arith, l)

-- a digit of the base is less than the base
pub digit_below : (base : IntegerBase) (c : ℕ) → is_digit_or_underscore base c ≡ true → (c ≡ 95 → ⊥) → digit_value c < base_value base
digit_below Binary c digit other = grind (arith, nat_tests)
digit_below Octal c digit other = grind (arith, nat_tests)
digit_below Decimal c digit other = grind (arith, nat_tests)
digit_below Hexadecimal c digit other = grind (arith, nat_tests)

pub digit_at : (base : IntegerBase) (t : List ℕ) (i : ℕ) → list_all (is_digit_or_underscore base) t ≡ true → i < length t → (get_or t i 0 ≡ 95 → ⊥) → digit_value (get_or t i 0) < base_value base
digit_at base t i all fits other = digit_below base (get_or t i 0) (elim (cases_Bool (is_digit_or_underscore base (get_or t i 0))) [
  | inl passes ↦ passes
  | inr fails ↦ absurd (false≢true (sym (list_all_at (is_digit_or_underscore base) t i 0 fits fails) ∙ all))
]) other
