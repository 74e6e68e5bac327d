-- The mask of the bytes that are not plain, by comparing lanes.
use Rattle.std.proofs.Common.{◌≡◌, ℕ, ◌%◌, ◌^◌, ◌≤◌, ltb, eqb, Bool, true, not, ◌||◌, List, [], ◌∷◌, map, length, replicate, Fits, w8, refl, ap, ◌∙◌, arith}
use Rattle.std.proofs.lemmas.Bool.{agree_below, agree_below_at}
use Rattle.std.proofs.lemmas.Simd.{zip2_splat, zip2_splat_left}
use lib.Lanes.{zip2, mask_l, top, Each1}
use Rattle.litrs_build.specs.Pieces.{is_plain, last_byte}
use Rattle.litrs_build.specs.declared.pieces.Charset.{Charset}
use Rattle.litrs_build.specs.declared.pieces.Charset.TheVariants.{Ascii, Any}
use Rattle.litrs_lex.proofs.Needles.{either, marked, equal, below, joined}

-- the lanes of one byte, with which others are compared
abbrev is_hit : (last : ℕ) → ℕ → Bool
is_hit last x = ((ltb x 32 || ltb last x) || eqb x 34) || eqb x 92

abbrev pub is_other : (set : Charset) → ℕ → Bool
is_other set x = not (is_plain set x)

hits : (set : Charset) → agree_below (is_hit (last_byte set)) (is_other set) 256 ≡ true
hits Any = refl
hits Ascii = refl

hits_other : (set : Charset) (v : List ℕ) → Each1 (Fits w8) v →
    map (is_hit (last_byte set)) v ≡ map (is_other set) v
hits_other set [] fits = refl
hits_other set (x ∷ xs) fits =
    λ i. agree_below_at (is_hit (last_byte set)) (is_other set) 256 x (hits set) fits.0.fits i
    ∷ hits_other set xs fits.1 i

pub marks_other : (set : Charset) (v : List ℕ) (n last : ℕ) → length v ≡ n → n ≤ 64 →
    Each1 (Fits w8) v → last ≡ last_byte set →
    mask_l (map (top 7) (joined (joined (joined (zip2 below v (replicate n 32))
    (zip2 below (replicate n last) v)) (zip2 equal v (replicate n 34)))
    (zip2 equal v (replicate n 92)))) % 2 ^ 64
    ≡ mask_l (map (is_other set) v)
marks_other set v n last long few fits is =
    marked (is_hit last) v (omega arith)
    (either _ (λ x. eqb x 92) v (either _ (λ x. eqb x 34) v
    (either (λ x. ltb x 32) (λ x. ltb last x) v
    (zip2_splat below v n 32 long) (zip2_splat_left below last n v long))
    (zip2_splat equal v n 34 long)) (zip2_splat equal v n 92 long))
    ∙ ap (λ (k : ℕ). mask_l (map (is_hit k) v)) is
    ∙ ap mask_l (hits_other set v fits)
