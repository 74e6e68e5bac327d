-- A text that begins with another.
use Rattle.std.proofs.Common.{◌≡◌, ℕ, true, eqb, List, [], ◌∷◌, ◌++◌, length, drop, refl}
use Rattle.std.proofs.lemmas.Bool.{and_parts, and_from, eqb-true, eq-eqb}
use Rattle.litrs_base.specs.Text.{begins_with}

-- it is the other and the rest
pub begins_with-split : (front t : List ℕ) → begins_with front t ≡ true → front ++ drop (length front) t ≡ t
begins_with-split [] t e = refl
begins_with-split (c ∷ front) [] e = cc
begins_with-split (c ∷ front) (d ∷ t) e =
    let parts = and_parts (eqb c d) (begins_with front t) e in
    let same = eqb-true c d parts.0 in
    let more = begins_with-split front t parts.1 in cc

pub begins_with-append : (front t : List ℕ) → begins_with front (front ++ t) ≡ true
begins_with-append [] t = refl
begins_with-append (c ∷ front) t = and_from _ _ (eq-eqb c c refl) (begins_with-append front t)
