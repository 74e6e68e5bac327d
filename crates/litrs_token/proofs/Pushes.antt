-- The contents of a `Vec` after pushes.
use Rattle.std.proofs.Common.{◌≡◌, List, [], ◌∷◌, ◌++◌, refl}

-- the contents after three pushes
pub pushed : {T : Type 0} (before one two three : List T) (x y z : T) → before ≡ [] →
    one ≡ before ++ x ∷ [] → two ≡ one ++ y ∷ [] → three ≡ two ++ z ∷ [] →
    three ≡ x ∷ y ∷ z ∷ []
pushed before one two three x y z none first second third = rw (third, second, first, none) refl
