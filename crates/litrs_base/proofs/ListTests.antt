-- Tests on lists: the place of the first element that passes.
use Rattle.std.proofs.Common.{◌≡◌, ℕ, Bool, true, false, not, ◌||◌, ◌&&◌, ◌-◌, cond, ◌≤◌, List, [], ◌∷◌, ◌++◌, length, take, drop, Option, Some, None, refl, ap, ◌∙◌, subst, arith}
use Rattle.std.specs.Prelude.{if◌then◌else◌}
use Rattle.std.specs.List.{list_all, list_any, position_or_len, before_first, take_while}
use Rattle.std.proofs.lemmas.Bool.{and_parts}
use Rattle.std.proofs.lemmas.List.{take_at, take_all}
use Rattle.std.proofs.lemmas.List.Folds.{list_all-append}
use Rattle.litrs_base.proofs.Runs.{prefix_len_all}
use Rattle.std.proofs.lemmas.List.Sums.{take_while-cons}

-- no row fits if each test turns out so
pub none_if : {A : Type 0} (b : Bool) (x : A) (y : Option A) → b ≡ false → y ≡ None → (if b then Some x else y) ≡ None
none_if true x y h e = cc
none_if false x y h e = e

pub none_unless : {A : Type 0} (b : Bool) (x : A) (y : Option A) → b ≡ true → y ≡ None → (if not b then Some x else y) ≡ None
none_unless true x y h e = e
none_unless false x y h e = cc

-- if there is no refusal, the test passes
pub unless_none : {A : Type 0} (b : Bool) (x : A) (y : Option A) → (if not b then Some x else y) ≡ None → (b ≡ true) × (y ≡ None)
unless_none true x y h = (refl, h)
unless_none false x y h = cc

pub if_true : {A : Type 0} (b : Bool) (x y : A) → b ≡ true → (if b then x else y) ≡ x
if_true b x y h = rw h refl

pub if_false : {A : Type 0} (b : Bool) (x y : A) → b ≡ false → (if b then x else y) ≡ y
if_false b x y h = rw h refl

-- an element that passes follows some that do not
pub record Split (p : ℕ → Bool) (t xs : List ℕ) (c : ℕ) (ys : List ℕ) : Type 0 where
  pub spells : xs ++ c ∷ ys ≡ t
  pub before : list_all (λ x. not (p x)) xs ≡ true
  pub passes : p c ≡ true

abbrev pub Splits : (ℕ → Bool) → List ℕ → Type 0
Splits p t = (xs : List ℕ) × (c : ℕ) × (ys : List ℕ) × Split p t xs c ys

split_later : (p : ℕ → Bool) (c : ℕ) (t : List ℕ) → p c ≡ false → Splits p t → Splits p (c ∷ t)
split_later p c t e (xs, d, ys, s) =
    (c ∷ xs, d, ys, record { spells = ap (λ l. c ∷ l) s.spells; before = rw e s.before; passes = s.passes })

pub split_first : (p : ℕ → Bool) (t : List ℕ) → list_any p t ≡ true → Splits p t
split_first p [] h = cc
split_first p (c ∷ t) h = go (p c) refl (split_first p t)
  where
    go : (b : Bool) → p c ≡ b → (list_any p t ≡ true → Splits p t) → Splits p (c ∷ t)
    go true e rec = ([], c, t, record { spells = refl; before = refl; passes = e })
    go false e rec = split_later p c t e (rec (rw e at h))

-- the place of the first that passes is the number of elements before it
pub position_or_len-split : (p : ℕ → Bool) (xs : List ℕ) (c : ℕ) (ys : List ℕ) → list_all (λ x. not (p x)) xs ≡ true → p c ≡ true →
    position_or_len p (xs ++ c ∷ ys) ≡ length xs
position_or_len-split p [] c ys h e = rw e refl
position_or_len-split p (x ∷ xs) c ys h e =
    let both = and_parts (not (p x)) (list_all (λ x. not (p x)) xs) h in
    rw both.0 (let rec = position_or_len-split p xs c ys both.1 e in omega (arith, rec))

pub before_first-split : (p : ℕ → Bool) (xs : List ℕ) (c : ℕ) (ys : List ℕ) → list_all (λ x. not (p x)) xs ≡ true → p c ≡ true →
    before_first p (xs ++ c ∷ ys) ≡ xs
before_first-split p xs c ys h e = rw (position_or_len-split p xs c ys h e) (take_at xs (c ∷ ys) (length xs) refl)

pub list_any-split : (p : ℕ → Bool) (xs : List ℕ) (c : ℕ) (ys : List ℕ) → p c ≡ true → list_any p (xs ++ c ∷ ys) ≡ true
list_any-split p [] c ys e = rw e refl
list_any-split p (x ∷ xs) c ys e = rw (list_any-split p xs c ys e) (go (p x))
  where
    go : (b : Bool) → (b || true) ≡ true
    go true = refl
    go false = refl

clash : (p : ℕ → Bool) (c d : ℕ) → d ≡ c → p c ≡ true → not (p d) ≡ true → ⊥
clash p c d at e n =
    let passes : p d ≡ true = ap p at ∙ e in
    let never = rw passes at n in
    cc

-- an element that passes divides a list in one way, with none before it
pub split_only : (p : ℕ → Bool) (xs ys : List ℕ) (c d : ℕ) (u v : List ℕ) → list_all (λ x. not (p x)) xs ≡ true → list_all (λ x. not (p x)) ys ≡ true →
    p c ≡ true → p d ≡ true → xs ++ c ∷ u ≡ ys ++ d ∷ v → (xs ≡ ys) × (u ≡ v)
split_only p [] [] c d u v h g e f same = (refl, cc)
split_only p [] (y ∷ ys) c d u v h g e f same =
    let both = and_parts (not (p y)) (list_all (λ x. not (p x)) ys) g in
    let at : y ≡ c = cc in
    absurd (clash p c y at e both.0)
split_only p (x ∷ xs) [] c d u v h g e f same =
    let both = and_parts (not (p x)) (list_all (λ x. not (p x)) xs) h in
    let at : x ≡ d = cc in
    absurd (clash p d x at f both.0)
split_only p (x ∷ xs) (y ∷ ys) c d u v h g e f same =
    let left = and_parts (not (p x)) (list_all (λ x. not (p x)) xs) h in
    let right = and_parts (not (p y)) (list_all (λ x. not (p x)) ys) g in
    let tail : xs ++ c ∷ u ≡ ys ++ d ∷ v = cc in
    let head : x ≡ y = cc in
    let rec = split_only p xs ys c d u v left.1 right.1 e f tail in
    (cc, rec.1)

-- all elements pass
pub take_while_all : (p : ℕ → Bool) (xs : List ℕ) → list_all p xs ≡ true → take_while p xs ≡ xs
take_while_all p xs h = rw (prefix_len_all p xs h) (take_all (length xs) xs (omega arith))

-- a longest prefix of passing elements that is not shorter is the whole list
pub take_while_whole : (p : ℕ → Bool) (xs : List ℕ) → length xs ≤ length (take_while p xs) → list_all p xs ≡ true
take_while_whole p [] h = refl
take_while_whole p (x ∷ xs) h = go (p x) refl (take_while_whole p xs) (subst (λ l. length (x ∷ xs) ≤ length l) (take_while-cons p x xs) h)
  where
    go : (b : Bool) → p x ≡ b → (length xs ≤ length (take_while p xs) → list_all p xs ≡ true) →
        length (x ∷ xs) ≤ length (cond (p x) (x ∷ take_while p xs) []) → list_all p (x ∷ xs) ≡ true
    go true e rec g =
        let g' : length (x ∷ xs) ≤ length (x ∷ take_while p xs) = rw e at g in
        rw e (rec (omega arith))
    go false e rec g =
        let g' : length (x ∷ xs) ≤ length {A = ℕ} [] = rw e at g in
        absurd (omega arith)

-- all elements pass if and only if those of two overlapping parts do
windows : (p : ℕ → Bool) (xs ys zs : List ℕ) → (list_all p (xs ++ ys) && list_all p (ys ++ zs)) ≡ list_all p (xs ++ (ys ++ zs))
windows p xs ys zs = rw (list_all-append p xs ys, list_all-append p xs (ys ++ zs), list_all-append p ys zs) (go (list_all p xs) (list_all p ys) (list_all p zs))
  where
    go : (x y z : Bool) → ((x && y) && (y && z)) ≡ (x && (y && z))
    go false y z = refl
    go true false z = refl
    go true true z = refl

-- of four to eight elements all pass if and only if the first four and the last four do
pub four_and_four : (p : ℕ → Bool) (bs : List ℕ) → 4 ≤ length bs → length bs ≤ 8 →
    (list_all p (take 4 bs) && list_all p (take 4 (drop (length bs - 4) bs))) ≡ list_all p bs
four_and_four p (a ∷ b ∷ c ∷ d ∷ []) low high = windows p [] (a ∷ b ∷ c ∷ d ∷ []) []
four_and_four p (a ∷ b ∷ c ∷ d ∷ e ∷ []) low high = windows p (a ∷ []) (b ∷ c ∷ d ∷ []) (e ∷ [])
four_and_four p (a ∷ b ∷ c ∷ d ∷ e ∷ f ∷ []) low high = windows p (a ∷ b ∷ []) (c ∷ d ∷ []) (e ∷ f ∷ [])
four_and_four p (a ∷ b ∷ c ∷ d ∷ e ∷ f ∷ g ∷ []) low high = windows p (a ∷ b ∷ c ∷ []) (d ∷ []) (e ∷ f ∷ g ∷ [])
four_and_four p (a ∷ b ∷ c ∷ d ∷ e ∷ f ∷ g ∷ h ∷ []) low high = windows p (a ∷ b ∷ c ∷ d ∷ []) [] (e ∷ f ∷ g ∷ h ∷ [])
four_and_four p (a ∷ b ∷ c ∷ d ∷ e ∷ f ∷ g ∷ h ∷ i ∷ bs) low high = absurd (omega arith)
four_and_four p [] low high = absurd (omega arith)
four_and_four p (a ∷ []) low high = absurd (omega arith)
four_and_four p (a ∷ b ∷ []) low high = absurd (omega arith)
four_and_four p (a ∷ b ∷ c ∷ []) low high = absurd (omega arith)
