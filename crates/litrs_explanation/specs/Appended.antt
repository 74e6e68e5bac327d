-- Text that is appended to a buffer.
use Rattle.std.specs.Prelude.{ℕ, ◌≡◌, List, ◌++◌, length, drop, Result, OnOk}

-- The bytes after `old` in `new`.
abbrev pub appended : (old new : List ℕ) → List ℕ
appended old new = drop (length old) new

-- Bytes are appended to `old`. If the call succeeds, they are such bytes.
abbrev pub Appends : {T E : Type 0} → (old new : List ℕ) → Result T E →
    (List ℕ → Type 0) → Type 0
Appends old new result Is =
    (added : List ℕ) × (new ≡ old ++ added) × OnOk result (Is added)
