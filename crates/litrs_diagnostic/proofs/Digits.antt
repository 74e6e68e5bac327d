-- The number of digits of a number.
use Rattle.std.proofs.Common.{◌≡◌, ◌≤◌, ◌<◌, ◌+◌, ◌/◌, ◌%◌, ◌^◌, ℕ, [], ◌∷◌, length, ap, ◌∙◌, length-append}
use Rattle.std.specs.Fmt.{decimal}
use Rattle.std.proofs.lemmas.Fmt.{decimal_digit, decimal_step}

pub one_digit : (n : ℕ) → n < 10 → length (decimal n) ≡ 1
one_digit n small = ap length (decimal_digit n small)

pub one_digit_less : (n : ℕ) → 10 ≤ n → n < 2 ^ 64 →
    length (decimal n) ≡ length (decimal (n / 10)) + 1
one_digit_less n large fits =
    ap length (decimal_step n large fits) ∙ length-append (decimal (n / 10)) ((48 + n % 10) ∷ [])
