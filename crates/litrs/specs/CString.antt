-- C strings: bytes without a zero, and a closing zero. The Rust Reference, Tokens, Literals:
-- "C string literals".
use Rattle.std.specs.Prelude.{◌≡◌, ℕ, ◌-◌, ◌==◌, Bool, List, [], ◌∷◌, ◌++◌, length, take, IsFalse}
use Rattle.std.specs.List.{list_any}
use Rattle.litrs_base.specs.Characters.{nul}

-- `true` iff one of the bytes is zero.
abbrev pub has_nul : List ℕ → Bool
has_nul bytes = list_any (λ b. b == nul) bytes

-- The bytes before the closing zero.
abbrev pub before_zero : List ℕ → List ℕ
before_zero bytes = take (length bytes - 1) bytes

-- The last byte is zero, and no other byte is.
pub record IsClosed (bytes : List ℕ) : Type 0 where
  pub closed : bytes ≡ before_zero bytes ++ nul ∷ []
  pub no_nul : IsFalse (has_nul (before_zero bytes))
