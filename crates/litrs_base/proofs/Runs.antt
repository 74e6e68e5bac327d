-- The longest prefix of a list whose elements pass a test.
use Rattle.std.proofs.Common.{◌≡◌, ℕ, suc, ◌+◌, ◌≤◌, Bool, true, false, cond, List, [], ◌∷◌, ◌++◌, length, take, refl, sym, ap, subst, ◌∙◌, arith}
use Rattle.std.specs.Prelude.{◌==◌}
use Rattle.std.specs.List.{prefix_len, list_all, take_while}
use Rattle.std.proofs.lemmas.Bool.{and_parts, and_from}
use Rattle.std.proofs.lemmas.List.{append-nil}
use Rattle.litrs_base.specs.Text.{first_passes}

-- the last character is there and passes the test
abbrev pub last_passes : (ℕ → Bool) → List ℕ → Bool
last_passes p [] = false
last_passes p (c ∷ []) = p c
last_passes p (c ∷ d ∷ cs) = last_passes p (d ∷ cs)

-- LF
abbrev pub is_line_feed : ℕ → Bool
is_line_feed c = c == 10

-- a list as such a front and the rest
pub record IsRun (p : ℕ → Bool) (xs : List ℕ) : Type 0 where
  pub front : List ℕ
  pub rest : List ℕ
  pub spells : front ++ rest ≡ xs
  pub passes : list_all p front ≡ true
  pub stops : first_passes p rest ≡ false

run_step : (p : ℕ → Bool) (x : ℕ) (xs : List ℕ) (v : Bool) → p x ≡ v → IsRun p xs → IsRun p (x ∷ xs)
run_step p x xs true e r = record {
  front = x ∷ r.front;
  rest = r.rest;
  spells = ap (λ t. x ∷ t) r.spells;
  passes = and_from _ _ e r.passes;
  stops = r.stops;
}
run_step p x xs false e r = record { front = []; rest = x ∷ xs; spells = refl; passes = refl; stops = e }

pub run_of : (p : ℕ → Bool) (xs : List ℕ) → IsRun p xs
run_of p [] = record { front = []; rest = []; spells = refl; passes = refl; stops = refl }
run_of p (x ∷ xs) = run_step p x xs (p x) refl (run_of p xs)

-- of what all pass, the last passes too
pub last_passes-all : (p q : ℕ → Bool) → ((c : ℕ) → p c ≡ true → q c ≡ false) → (xs : List ℕ) → list_all p xs ≡ true → last_passes q xs ≡ false
last_passes-all p q apart [] all = refl
last_passes-all p q apart (x ∷ []) all = apart x (and_parts _ _ all).0
last_passes-all p q apart (x ∷ y ∷ xs) all = last_passes-all p q apart (y ∷ xs) (and_parts _ _ all).1

-- the last of a list that something follows is the last of that
pub last_passes-append : (q : ℕ → Bool) (xs : List ℕ) (y : ℕ) (ys : List ℕ) → last_passes q (xs ++ (y ∷ ys)) ≡ last_passes q (y ∷ ys)
last_passes-append q [] y ys = refl
last_passes-append q (x ∷ []) y ys = refl
last_passes-append q (x ∷ x' ∷ xs) y ys = last_passes-append q (x' ∷ xs) y ys

-- two lists whose last does not pass, joined
pub last_passes-both : (q : ℕ → Bool) (xs ys : List ℕ) → last_passes q xs ≡ false → last_passes q ys ≡ false → last_passes q (xs ++ ys) ≡ false
last_passes-both q xs [] a b = subst (λ (t : List ℕ). last_passes q t ≡ false) (sym (append-nil xs)) a
last_passes-both q xs (y ∷ ys) a b = last_passes-append q xs y ys ∙ b

pub list_all-append : (p : ℕ → Bool) (xs ys : List ℕ) → list_all p xs ≡ true → list_all p ys ≡ true → list_all p (xs ++ ys) ≡ true
list_all-append p [] ys a b = b
list_all-append p (x ∷ xs) ys a b = and_from _ _ (and_parts _ _ a).0 (list_all-append p xs ys (and_parts _ _ a).1 b)

pub list_all-weaken : (p q : ℕ → Bool) → ((c : ℕ) → p c ≡ true → q c ≡ true) → (xs : List ℕ) → list_all p xs ≡ true → list_all q xs ≡ true
list_all-weaken p q weaker [] all = refl
list_all-weaken p q weaker (x ∷ xs) all = and_from _ _ (weaker x (and_parts _ _ all).0) (list_all-weaken p q weaker xs (and_parts _ _ all).1)

-- the whole list passes
pub prefix_len_all : (p : ℕ → Bool) (xs : List ℕ) → list_all p xs ≡ true → prefix_len p xs ≡ length xs
prefix_len_all p [] all = refl
prefix_len_all p (x ∷ xs) all =
    let parts : (p x ≡ true) × (list_all p xs ≡ true) = and_parts _ _ all in
    ap (λ v. cond v (1 + prefix_len p xs) 0) parts.0 ∙ omega (arith, prefix_len_all p xs parts.1)

all_step : (p : ℕ → Bool) (x : ℕ) (xs : List ℕ) (v : Bool) → p x ≡ v → (length xs ≤ prefix_len p xs → list_all p xs ≡ true) →
    suc (length xs) ≤ cond v (1 + prefix_len p xs) 0 → list_all p (x ∷ xs) ≡ true
all_step p x xs true e more long = and_from _ _ e (more (omega arith))
all_step p x xs false e more long = absurd (omega arith)

pub all_from_prefix_len : (p : ℕ → Bool) (xs : List ℕ) → length xs ≤ prefix_len p xs → list_all p xs ≡ true
all_from_prefix_len p [] long = refl
all_from_prefix_len p (x ∷ xs) long = all_step p x xs (p x) refl (all_from_prefix_len p xs) long

-- the front of a list whose elements pass
pub list_all-take_while : (p : ℕ → Bool) (xs : List ℕ) → list_all p (take_while p xs) ≡ true
list_all-take_while p [] = refl
list_all-take_while p (x ∷ xs) = all_taken p x xs (p x) refl (list_all-take_while p xs)
  where
    all_taken : (p : ℕ → Bool) (x : ℕ) (xs : List ℕ) (v : Bool) → p x ≡ v → list_all p (take_while p xs) ≡ true →
        list_all p (take (cond v (1 + prefix_len p xs) 0) (x ∷ xs)) ≡ true
    all_taken p x xs true passes more =
        let one_more : suc (prefix_len p xs) ≡ 1 + prefix_len p xs = omega arith in
        subst (λ (n : ℕ). list_all p (take n (x ∷ xs)) ≡ true) one_more (and_from _ _ passes more)
    all_taken p x xs false passes more = refl

-- a text that ends with LF
pub line_feed_last : (t : List ℕ) → last_passes is_line_feed (t ++ (10 ∷ [])) ≡ true
line_feed_last t = last_passes-append is_line_feed t 10 []
