-- The first place at which a byte passes a test, as `memchr` and as `position` say it.
use Rattle.std.proofs.lemmas.Grind.{common_steps}
use Rattle.std.proofs.Common.{◌≡◌, ℕ, ◌<◌, Bool, List, length, Option, Some, None, arith}
use Rattle.std.specs.Prelude.{position}
use Rattle.std.specs.List.{position_or_len}
use Rattle.std.proofs.lemmas.Bool.{false_from_ne_true}
use Rattle.std.proofs.lemmas.List.Sums.{position_or_len_is}
use Rattle.memchr.specs.Find.{IsFirstByte}

-- the two are the same
pub first_byte_is_position :
    (p : ℕ → Bool) (xs : List ℕ) (r : Option ℕ) → IsFirstByte p xs r → r ≡ position p xs
first_byte_is_position p xs None none =
    let at : position_or_len p xs ≡ length xs = position_or_len_is p xs (length xs) 0 (omega arith)
    (λ k before. false_from_ne_true _ (none k (omega arith) before))
    (λ past. absurd (omega arith)) in
    grind (arith, common_steps)
first_byte_is_position p xs (Some i) first =
    let at : position_or_len p xs ≡ i = position_or_len_is p xs i 0 (omega (arith, first.0.high))
    (λ k before. false_from_ne_true _ (first.0.before k (omega arith) before))
    (λ within. first.1) in
    let inside : i < length xs = first.0.high in
    grind (arith, common_steps)
