-- Texts that are continued. The Rust Reference does not define them.
use Rattle.std.specs.Prelude.{ℕ, List, ◌++◌}
use Rattle.litrs_base.specs.Text.{IsText}

-- `t` begins a text that has a derivation iff `t` followed by some text, which may be empty, has
-- one.
abbrev pub BeginsBy : {D : Type 0} → (List ℕ → D → Type 0) → List ℕ → Type 0
BeginsBy {D} Derives t = (more : List ℕ) × (d : D) × IsText more × Derives (t ++ more) d

-- `t` followed by any list, be it a text or not, does not have a derivation.
abbrev pub EndsBy : {D : Type 0} → (List ℕ → D → Type 0) → List ℕ → Type 0
EndsBy {D} Derives t = (more : List ℕ) (d : D) → Derives (t ++ more) d → ⊥
