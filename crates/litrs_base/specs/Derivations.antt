-- Texts with one derivation, and texts without a derivation.
use Rattle.std.specs.Prelude.{◌≡◌}

-- `d` is the only derivation iff it is one, and every derivation equals it.
abbrev pub IsOnlyDerivation : {D : Type 0} → (D → Type 0) → D → Type 0
IsOnlyDerivation {D} Derives d = Derives d × ((e : D) → Derives e → e ≡ d)

-- There is no derivation.
abbrev pub HasNoDerivation : {D : Type 0} → (D → Type 0) → Type 0
HasNoDerivation {D} Derives = (d : D) → Derives d → ⊥
