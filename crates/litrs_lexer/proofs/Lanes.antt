-- The comparison of the lanes finds the bytes that are not of a class.
use Rattle.std.proofs.Common.{◌≡◌, ℕ, ◌%◌, ◌^◌, ◌≤◌, ltb, eqb, Bool, true, false, not, ◌||◌, ◌&&◌, List, [], ◌∷◌, map, length, replicate, Fits, w8, refl, ap, ◌∙◌, arith}
use Rattle.std.proofs.lemmas.Bool.{agree_below, agree_below_at}
use Rattle.std.proofs.lemmas.Simd.{zip2_splat, zip2_splat_left, zip2_of_maps}
use lib.Bits.{bit_or, bit_and}
use lib.Lanes.{zip2, mask_l, top, Each1}
use Rattle.litrs_lexer.specs.declared.ascii.Class.{Class}
use Rattle.litrs_lexer.specs.declared.ascii.Class.TheVariants.{Word, Space}
use Rattle.litrs_lexer.specs.Cut.{is_of_class}
use Rattle.litrs_lex.proofs.Needles.{mark, map-same, either, marked, below}

mark-and : (a b : Bool) → bit_and (mark a) (mark b) ≡ mark (a && b)
mark-and true true = refl
mark-and true false = refl
mark-and false true = refl
mark-and false false = refl

both : (p q : ℕ → Bool) (v : List ℕ) {a b : List ℕ} → a ≡ map (λ x. mark (p x)) v → b ≡ map (λ x. mark (q x)) v → zip2 bit_and a b ≡ map (λ x. mark (p x && q x)) v
both p q v l r = zip2_of_maps bit_and (λ x. mark (p x)) (λ x. mark (q x)) v l r ∙ map-same _ (λ x. mark (p x && q x)) (λ x. mark-and (p x) (q x)) v

-- the comparisons of lanes
abbrev differ : ℕ → ℕ → ℕ
differ a b = mark (not (eqb a b))

abbrev is_outside : (low high : ℕ) → ℕ → Bool
is_outside low high x = ltb x low || ltb high x

abbrev outside : (low high n : ℕ) (v : List ℕ) → List ℕ
outside low high n v = zip2 bit_or (zip2 below v (replicate n low)) (zip2 below (replicate n high) v)

outside_marks : (low high n : ℕ) (v : List ℕ) → length v ≡ n → outside low high n v ≡ map (λ x. mark (is_outside low high x)) v
outside_marks low high n v long = either (λ x. ltb x low) (λ x. ltb high x) v (zip2_splat below v n low long) (zip2_splat_left below high n v long)

others : (class : Class) (p : ℕ → Bool) (v : List ℕ) → agree_below p (λ b. not (is_of_class class b)) 256 ≡ true → Each1 (Fits w8) v → map p v ≡ map (λ b. not (is_of_class class b)) v
others class p [] agree fits = refl
others class p (x ∷ xs) agree fits =
    λ i. agree_below_at p (λ b. not (is_of_class class b)) 256 x agree fits.0.fits i ∷ others class p xs agree fits.1 i

abbrev is_other_word : ℕ → Bool
is_other_word x = ((is_outside 48 57 x && is_outside 65 90 x) && is_outside 97 122 x) && not (eqb x 95)

pub word_marks : (v : List ℕ) (n : ℕ) → length v ≡ n → n ≤ 64 → Each1 (Fits w8) v →
    mask_l (map (top 7) (zip2 bit_and (zip2 bit_and (zip2 bit_and (outside 48 57 n v) (outside 65 90 n v)) (outside 97 122 n v)) (zip2 differ v (replicate n 95)))) % 2 ^ 64
    ≡ mask_l (map (λ b. not (is_of_class Word b)) v)
word_marks v n long few fits =
    marked is_other_word v (omega arith)
    (both _ (λ x. not (eqb x 95)) v (both _ (is_outside 97 122) v (both (is_outside 48 57) (is_outside 65 90) v (outside_marks 48 57 n v long) (outside_marks 65 90 n v long)) (outside_marks 97 122 n v long)) (zip2_splat differ v n 95 long))
    ∙ ap mask_l (others Word is_other_word v refl fits)

abbrev is_other_space : ℕ → Bool
is_other_space x = is_outside 9 13 x && not (eqb x 32)

pub space_marks : (v : List ℕ) (n : ℕ) → length v ≡ n → n ≤ 64 → Each1 (Fits w8) v →
    mask_l (map (top 7) (zip2 bit_and (outside 9 13 n v) (zip2 differ v (replicate n 32)))) % 2 ^ 64 ≡ mask_l (map (λ b. not (is_of_class Space b)) v)
space_marks v n long few fits =
    marked is_other_space v (omega arith) (both (is_outside 9 13) (λ x. not (eqb x 32)) v (outside_marks 9 13 n v long) (zip2_splat differ v n 32 long))
    ∙ ap mask_l (others Space is_other_space v refl fits)
