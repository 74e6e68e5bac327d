-- The comparison of the lanes finds the special bytes.
use Rattle.std.proofs.Common.{◌≡◌, ℕ, ◌%◌, ◌^◌, ◌≤◌, ltb, eqb, Bool, true, false, ◌||◌, cond, List, [], ◌∷◌, map, length, replicate, Fits, w8, refl, ap, ◌∙◌, arith}
use Rattle.std.proofs.lemmas.Bool.{agree_below, agree_below_at}
use Rattle.std.proofs.lemmas.Simd.{zip2_splat, zip2_splat_left, zip2_of_maps, map-map, mask_l-mod}
use Rattle.std.proofs.lemmas.List.{length-map}
use lib.Bits.{bit_or}
use lib.Lanes.{zip2, mask_l, top, Each1}
use Rattle.litrs_lex.specs.declared.search.Special.{Special}
use Rattle.litrs_lex.specs.Special.{is_special}

-- lanes that are 255 if a test holds and 0 otherwise, and the mask of them
abbrev pub mark : Bool → ℕ
mark b = cond b 255 0

pub mark-or : (a b : Bool) → bit_or (mark a) (mark b) ≡ mark (a || b)
mark-or true true = refl
mark-or true false = refl
mark-or false true = refl
mark-or false false = refl

pub mark-top : (b : Bool) → top 7 (mark b) ≡ b
mark-top true = refl
mark-top false = refl

pub map-same : {A B : Type 0} → (f g : A → B) → ((x : A) → f x ≡ g x) → (xs : List A) → map f xs ≡ map g xs
map-same f g same [] = refl
map-same f g same (x ∷ xs) = λ i. same x i ∷ map-same f g same xs i

pub either : {X : Type 0} (p q : X → Bool) (v : List X) {a b : List ℕ} → a ≡ map (λ x. mark (p x)) v → b ≡ map (λ x. mark (q x)) v → zip2 bit_or a b ≡ map (λ x. mark (p x || q x)) v
either p q v l r = zip2_of_maps bit_or (λ x. mark (p x)) (λ x. mark (q x)) v l r ∙ map-same _ (λ x. mark (p x || q x)) (λ x. mark-or (p x) (q x)) v

pub marked : {X : Type 0} (p : X → Bool) (v : List X) {z : List ℕ} → length v ≤ 64 → z ≡ map (λ x. mark (p x)) v → mask_l (map (top 7) z) % 2 ^ 64 ≡ mask_l (map p v)
marked p v short lanes =
    ap (λ l. mask_l (map (top 7) l) % 2 ^ 64) lanes ∙ ap (λ l. mask_l l % 2 ^ 64) (map-map (top 7) (λ x. mark (p x)) v ∙ map-same _ p (λ x. mark-top (p x)) v)
    ∙ mask_l-mod (map p v) 64 (omega (arith, length-map v p))

abbrev is_hit : (second third limit : ℕ) → ℕ → Bool
is_hit second third limit x = (((eqb x 34 || eqb x 13) || eqb x second) || eqb x third) || ltb limit x

found : (s z n : Bool) →
    agree_below (is_hit (cond s 92 13) (cond z 0 13) (cond n 127 255)) (is_special (record { backslash = s; nul = z; non_ascii = n })) 256 ≡ true
found true true true = refl
found true true false = refl
found true false true = refl
found true false false = refl
found false true true = refl
found false true false = refl
found false false true = refl
found false false false = refl

hits_special : (what : Special) (v : List ℕ) → Each1 (Fits w8) v →
    map (is_hit (cond what.backslash 92 13) (cond what.nul 0 13) (cond what.non_ascii 127 255)) v ≡ map (is_special what) v
hits_special what [] fits = refl
hits_special what (x ∷ xs) fits =
    λ i. agree_below_at (is_hit (cond what.backslash 92 13) (cond what.nul 0 13) (cond what.non_ascii 127 255)) (is_special what) 256 x
    (found what.backslash what.nul what.non_ascii) fits.0.fits i ∷ hits_special what xs fits.1 i

abbrev pub equal : ℕ → ℕ → ℕ
equal a b = mark (eqb a b)

abbrev pub below : ℕ → ℕ → ℕ
below a b = mark (ltb a b)

abbrev pub joined : List ℕ → List ℕ → List ℕ
joined = zip2 bit_or

-- the mask of a load is that of the bytes of the set
pub marks_special : (what : Special) (v : List ℕ) (n second third limit : ℕ) → length v ≡ n → n ≤ 64 → Each1 (Fits w8) v →
    second ≡ cond what.backslash 92 13 → third ≡ cond what.nul 0 13 → limit ≡ cond what.non_ascii 127 255 →
    mask_l (map (top 7) (joined (joined (joined (joined (zip2 equal v (replicate n 34)) (zip2 equal v (replicate n 13))) (zip2 equal v (replicate n second))) (zip2 equal v (replicate n third))) (zip2 below (replicate n limit) v))) % 2 ^ 64
    ≡ mask_l (map (is_special what) v)
marks_special what v n second third limit long few fits is_second is_third is_limit =
    let at : (y : ℕ) → zip2 equal v (replicate n y) ≡ map (λ x. mark (eqb x y)) v = λ y. zip2_splat equal v n y long in
    marked (is_hit second third limit) v (omega arith)
    (either _ (λ x. ltb limit x) v (either _ (λ x. eqb x third) v (either _ (λ x. eqb x second) v (either (λ x. eqb x 34) (λ x. eqb x 13) v (at 34) (at 13)) (at second)) (at third)) (zip2_splat_left below limit n v long))
    ∙ (λ i. mask_l (map (is_hit (is_second i) (is_third i) (is_limit i)) v)) ∙ ap mask_l (hits_special what v fits)
