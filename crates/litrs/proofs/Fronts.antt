-- The characters of a text at its ASCII front and at its first character.
use Rattle.std.proofs.Common.{◌≡◌, ℕ, true, ltb, ◌&&◌, List, [], ◌∷◌, ◌++◌, length, drop, take, refl, sym, ap, ◌∙◌, arith}
use Rattle.std.specs.Str.{chars, IsUtf8, IsCharBoundary}
use Rattle.std.specs.Prelude.{◌==◌, nat_eq}
use Rattle.std.specs.List.{list_all, starts_with}
use Rattle.std.proofs.lemmas.List.{take_at}
use Rattle.std.proofs.lemmas.Str.{chars-nil, chars-IsAscii, IsCharBoundary-from_drop}
use Rattle.litrs_base.specs.Text.{begins_with}
use Rattle.litrs_base.proofs.Begins.{begins_with-split}
use Rattle.litrs_base.proofs.Chars.{begins_front, begins_with-chars, ascii_by_test}

-- the front, and the characters after it
pub front_chars : (front bs : List ℕ) → list_all (λ c. ltb c 128) front ≡ true → IsUtf8 bs →
    begins_with front bs ≡ true → front ++ chars (drop (length front) bs) ≡ chars bs
front_chars front bs low u e =
    ap (λ l. front ++ l) (sym (begins_front front bs low e u).rest)
    ∙ begins_with-split front (chars bs) (begins_with-chars front bs low u ∙ e)

-- a text may be cut after it
pub front_ends : (front bs : List ℕ) → list_all (λ c. ltb c 128) front ≡ true → IsUtf8 bs →
    begins_with front bs ≡ true → IsCharBoundary bs (length front)
front_ends front bs low u e = let f = begins_front front bs low e u in IsCharBoundary-from_drop bs
    (length front) f.within f.utf8

-- the front is the text before the cut
pub front_taken : (front bs : List ℕ) → list_all (λ c. ltb c 128) front ≡ true →
    begins_with front bs ≡ true → chars (take (length front) bs) ≡ front
front_taken front bs low e =
    ap chars (ap (take (length front)) (sym (begins_with-split front bs e))
    ∙ take_at front (drop (length front) bs) (length front) refl)
    ∙ chars-IsAscii front (ascii_by_test front low)

-- the text without a byte
pub nothing_chars : (bs : List ℕ) → length bs ≡ 0 → chars bs ≡ []
nothing_chars [] e = chars-nil
nothing_chars (b ∷ bs) e = absurd (omega arith)

-- the code tests that the text begins with the front
pub starts_with_front : (front bytes : List ℕ) → starts_with nat_eq bytes front ≡ begins_with front
    bytes
starts_with_front [] bytes = refl
starts_with_front (c ∷ front) [] = refl
starts_with_front (c ∷ front) (d ∷ bytes) = ap (λ v. (c == d) && v) (starts_with_front front bytes)
