-- The leading bits of an integer.
use Rattle.std.specs.Prelude.{◌≡◌, ℕ, ◌+◌, ◌*◌, ◌^◌, ◌<◌, ◌≤◌, IsTrue, IsFalse}
use Rattle.litrs_value.specs.declared.leading.Leading.{Leading}

-- The integer is from `number * 2 ^ shift` to below `(number + 1) * 2 ^ shift`, and more than the
-- first iff `more` is true. It is `number` if that has at most 60 bits.
pub record IsLeading (bits : Leading) (n : ℕ) : Type 0 where
  pub from : bits.number * 2 ^ bits.shift ≤ n
  pub below : n < (bits.number + 1) * 2 ^ bits.shift
  pub exact : IsFalse bits.more → n ≡ bits.number * 2 ^ bits.shift
  pub above : IsTrue bits.more → bits.number * 2 ^ bits.shift < n
  pub short : bits.number < 2 ^ 60 → (bits.shift ≡ 0) × IsFalse bits.more
