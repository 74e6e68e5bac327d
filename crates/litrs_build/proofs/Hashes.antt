-- The number of hashes of a body: with fewer it contains a closing, with as many it does not.
use Rattle.std.proofs.Common.{◌≡◌, ℕ, zero, suc, ◌+◌, ◌≤◌, ◌<◌, Bool, true, false, ◌&&◌, ◌||◌, inl, inr, eqb, leb, ltb, cond, List, [], ◌∷◌, refl, sym, ap, subst, ◌∙◌, arith}
use Rattle.std.proofs.lemmas.Bool.{cond_both, eqb-true, eqb-false, ne_eqb, ltb-true, ltb-false, lt-ltb, le-ltb, leb-true, le-leb, lt-leb, or_left, or_right}
use Rattle.litrs_base.specs.Text.{begins_with}
use Rattle.litrs_grammar.specs.Raw.{is_quote, hashes, raw_closing, occurs, hash_len}
use Rattle.litrs_build.specs.Laws.{RawLiteralsNeedHashes}
use Rattle.litrs_build.specs.Raw.{greater, hashes_needed, run_after}
use Rattle.litrs_build.proofs.Spellings.{or_true}

-- Tests

pub same_tests : (x y : Bool) → (x ≡ true → y ≡ true) → (y ≡ true → x ≡ true) → x ≡ y
same_tests true y f g = sym (f refl)
same_tests false true f g = g refl
same_tests false false f g = refl

record IsGreater (a b g : ℕ) : Type 0 where
  left : a ≤ g
  right : b ≤ g
  below : a < b → g ≡ b
  above : b ≤ a → g ≡ a

greater_is : (a b : ℕ) → IsGreater a b (greater a b)
greater_is a b =
    cond_both (ltb a b) b a (IsGreater a b)
    (λ e. let lt = ltb-true a b e in record {
      left = omega arith;
      right = omega arith;
      below = λ h. refl;
      above = λ h. omega arith;
    })
    (λ e. let ge = ltb-false a b e in record {
      left = omega arith;
      right = omega arith;
      below = λ h. omega arith;
      above = λ h. refl;
    })

by_order : (a b : ℕ) (P : Type 0) → (a < b → P) → (b ≤ a → P) → P
by_order a b P low high = go (ltb a b) refl
  where
    go : (t : Bool) → ltb a b ≡ t → P
    go true e = low (ltb-true a b e)
    go false e = high (ltb-false a b e)

ltb_greater : (n a b : ℕ) → ltb n (greater a b) ≡ (ltb n a || ltb n b)
ltb_greater n a b =
    let g = greater a b in
    let is = greater_is a b in
    same_tests (ltb n g) (ltb n a || ltb n b)
    (λ e. let lt = ltb-true n g e in
    by_order a b ((ltb n a || ltb n b) ≡ true)
    (λ low. let same = is.below low in or_right (ltb n a) (ltb n b)
    (lt-ltb n b (omega (arith, same, lt))))
    (λ high. let same = is.above high in or_left (ltb n a) (ltb n b)
    (lt-ltb n a (omega (arith, same, lt)))))
    (λ e. elim (or_true (ltb n a) (ltb n b) e) [
      | inl x ↦ (let lt = ltb-true n a x in
          let within = is.left in lt-ltb n g (omega (arith, lt, within)))
      | inr y ↦ (let lt = ltb-true n b y in
          let within = is.right in lt-ltb n g (omega (arith, lt, within)))
    ])

leb_suc : (n m : ℕ) → leb n m ≡ leb (suc n) (1 + m)
leb_suc n m =
    same_tests (leb n m) (leb (suc n) (1 + m))
    (λ e. let le = leb-true n m e in le-leb (suc n) (1 + m) (omega arith))
    (λ e. let le = leb-true (suc n) (1 + m) e in le-leb n m (omega arith))

leb_ltb : (n m : ℕ) → leb n m ≡ ltb n (1 + m)
leb_ltb n m =
    same_tests (leb n m) (ltb n (1 + m))
    (λ e. let le = leb-true n m e in lt-ltb n (1 + m) (omega arith))
    (λ e. let lt = ltb-true n (1 + m) e in le-leb n m (omega arith))

greater-zero : (b : ℕ) → greater 0 b ≡ b
greater-zero b =
    let is = greater_is 0 b in
    by_order 0 b (greater 0 b ≡ b) is.below
    (λ high. let same = is.above high in omega (arith, same))

-- either the character is this one, or the test fails both ways
by_char : (c d : ℕ) (P : ℕ → Type 0) → P d → (eqb c d ≡ false → eqb d c ≡ false → P c) → P c
by_char c d P here other = go (eqb c d) refl
  where
    go : (t : Bool) → eqb c d ≡ t → P c
    go true e = subst P (sym (eqb-true c d e)) here
    go false e = other e (ne_eqb d c (λ same. eqb-false c d e (sym same)))

-- Closings

begins_hashes : (n : ℕ) (t : List ℕ) → begins_with (hashes n) t ≡ leb n (hash_len t)
begins_hashes zero t = sym (le-leb 0 (hash_len t) (omega arith))
begins_hashes (suc n) [] = sym (lt-leb (suc n) 0 (omega arith))
begins_hashes (suc n) (c ∷ t) =
    by_char c 35 (λ v. begins_with (hashes (suc n)) (v ∷ t) ≡ leb (suc n) (hash_len (v ∷ t)))
    (begins_hashes n t ∙ leb_suc n (hash_len t))
    (λ other same. ap (λ b. b && begins_with (hashes n) t) same
    ∙ (sym (lt-leb (suc n) 0 (omega arith))
    ∙ ap (λ b. leb (suc n) (cond b (1 + hash_len t) 0)) (sym other)))

-- the body contains a closing with n hashes if and only if more are needed
pub occurs_needed : (n : ℕ) (t : List ℕ) → occurs (raw_closing n) t ≡ ltb n (hashes_needed t)
unfolding hashes_needed
occurs_needed n [] = sym (le-ltb n 0 (omega arith))
occurs_needed n (c ∷ t) =
    let rest = hashes_needed t in
    by_char c 34 (λ v. occurs (raw_closing n) (v ∷ t)
    ≡ ltb n (greater (cond (is_quote v) (1 + hash_len t) 0) rest))
    (ap (λ b. b || occurs (raw_closing n) t) (begins_hashes n t ∙ leb_ltb n (hash_len t))
    ∙ (ap (λ b. ltb n (1 + hash_len t) || b) (occurs_needed n t)
    ∙ sym (ltb_greater n (1 + hash_len t) rest)))
    (λ other same. ap (λ b. (b && begins_with (hashes n) t) || occurs (raw_closing n) t) same
    ∙ (occurs_needed n t
    ∙ (ap (ltb n) (sym (greater-zero rest))
    ∙ ap (λ b. ltb n (greater (cond b (1 + hash_len t) 0) rest)) (sym other))))

-- a raw literal has at least as many
pub raw_literals_need_hashes : RawLiteralsNeedHashes
raw_literals_need_hashes unicode allow_nul d raw =
    ltb-false d.hash_count (hashes_needed d.body) (sym (occurs_needed d.hash_count d.body)
    ∙ raw.body.unclosed)

-- Runs, one character at a time

-- the length of the run that continues before the text
abbrev pub pending : ℕ → List ℕ → ℕ
pending run t = cond (ltb 0 run) (run + hash_len t) 0

both_ways : (x y : ℕ) → x ≤ y → y ≤ x → x ≡ y
both_ways x y up down = omega arith

least : (a b n : ℕ) → a ≤ n → b ≤ n → greater a b ≤ n
least a b n low high = cond_both (ltb a b) b a (λ g. g ≤ n) (λ e. high) (λ e. low)

-- the greatest of three numbers after the others, whichever way they are taken
greatest_of : (most next left p q rest : ℕ) → p ≤ greater (greater most next) left →
    q ≤ greater (greater most next) left →
    next ≤ greater (greater most p) (greater q rest) →
    left ≤ greater (greater most p) (greater q rest) →
    greater (greater (greater most next) left) rest ≡ greater (greater most p) (greater q rest)
greatest_of most next left p q rest p_in q_in next_in left_in =
    let a = greater_is most next in
    let b = greater_is (greater most next) left in
    let c = greater_is (greater (greater most next) left) rest in
    let d = greater_is most p in
    let e = greater_is q rest in
    let f = greater_is (greater most p) (greater q rest) in
    let most_left = a.left in
    let front_left = b.left in
    let all_left = c.left in
    let all_right = c.right in
    let d_left = d.left in
    let e_right = e.right in
    let f_left = f.left in
    let f_right = f.right in
    let whole = greater (greater (greater most next) left) rest in
    let other = greater (greater most p) (greater q rest) in
    both_ways whole other
    (least (greater (greater most next) left) rest other
    (least (greater most next) left other
    (least most next other (omega (arith, d_left, f_left)) next_in) left_in)
    (omega (arith, e_right, f_right)))
    (least (greater most p) (greater q rest) whole
    (least most p whole (omega (arith, most_left, front_left, all_left))
    (omega (arith, p_in, all_left)))
    (least q rest whole (omega (arith, q_in, all_left)) all_right))

at_quote : (most p h rest : ℕ) → p ≤ most →
    greater (greater (greater most 1) (1 + h)) rest
    ≡ greater (greater most p) (greater (1 + h) rest)
at_quote most p h rest within =
    let a = (greater_is most 1).left in
    let b = (greater_is (greater most 1) (1 + h)).left in
    let c = (greater_is (greater most 1) (1 + h)).right in
    let e = (greater_is (1 + h) rest).left in
    let f = (greater_is (greater most p) (greater (1 + h) rest)).right in
    greatest_of most 1 (1 + h) p (1 + h) rest (omega (arith, within, a, b)) c (omega (arith, e, f))
    (omega (arith, e, f))

at_hash : (most run h rest : ℕ) → run ≤ most →
    greater (greater (greater most (run + 1)) ((run + 1) + h)) rest
    ≡ greater (greater most (run + (1 + h))) (greater 0 rest)
at_hash most run h rest within =
    let c = (greater_is (greater most (run + 1)) ((run + 1) + h)).right in
    let d = (greater_is most (run + (1 + h))).right in
    let f = (greater_is (greater most (run + (1 + h))) (greater 0 rest)).left in
    greatest_of most (run + 1) ((run + 1) + h) (run + (1 + h)) 0 rest (omega (arith, c))
    (omega arith) (omega (arith, d, f)) (omega (arith, d, f))

at_other : (most p rest : ℕ) → p ≤ most →
    greater (greater (greater most 0) 0) rest ≡ greater (greater most p) (greater 0 rest)
at_other most p rest within =
    let a = (greater_is most 0).left in
    let b = (greater_is (greater most 0) 0).left in
    greatest_of most 0 0 p 0 rest (omega (arith, within, a, b)) (omega arith) (omega arith)
    (omega arith)

-- no run continues
pending_within : (run most h : ℕ) → run ≤ most → h ≡ 0 → cond (ltb 0 run) (run + h) 0 ≤ most
pending_within run most h within none =
    cond_both (ltb 0 run) (run + h) 0 (λ n. n ≤ most) (λ e. omega arith) (λ e. omega arith)

pub run_step : (run most c : ℕ) (t : List ℕ) → run ≤ most →
    greater (greater (greater most (run_after run c)) (pending (run_after run c) t))
    (hashes_needed t)
    ≡ greater (greater most (pending run (c ∷ t))) (hashes_needed (c ∷ t))
unfolding hashes_needed
run_step run most c t within =
    let rest = hashes_needed t in
    let Step : ℕ → Type 0 =
    λ v. greater (greater (greater most (run_after run v)) (pending (run_after run v) t)) rest
    ≡ greater (greater most (pending run (v ∷ t)))
    (greater (cond (is_quote v) (1 + hash_len t) 0) rest) in
    by_char c 34 Step (at_quote most (pending run (34 ∷ t)) (hash_len t) rest
    (pending_within run most 0 within refl))
    (λ quote _. by_char c 35 (λ v. eqb v 34 ≡ false → Step v)
    (λ q. hash_step (ltb 0 run) refl)
    (λ hash _ q. other_step q hash) quote)
  where
    hash_step : (b : Bool) → ltb 0 run ≡ b →
        greater (greater (greater most (run_after run 35)) (pending (run_after run 35) t))
        (hashes_needed t)
        ≡ greater (greater most (pending run (35 ∷ t))) (greater 0 (hashes_needed t))
    hash_step true e =
        let next : ltb 0 (run + 1) ≡ true = lt-ltb 0 (run + 1) (omega arith) in
        rw (e, next) (at_hash most run (hash_len t) (hashes_needed t) within)
    hash_step false e = rw (e) (at_other most 0 (hashes_needed t) (omega arith))

    other_step : eqb c 34 ≡ false → eqb c 35 ≡ false →
        greater (greater (greater most (run_after run c)) (pending (run_after run c) t))
        (hashes_needed t)
        ≡ greater (greater most (pending run (c ∷ t)))
        (greater (cond (is_quote c) (1 + hash_len t) 0) (hashes_needed t))
    other_step q h =
        rw (q, h) (at_other most (cond (ltb 0 run) (run + 0) 0) (hashes_needed t)
        (pending_within run most 0 within refl))

-- at the end of the body
pub greater_end : (run most : ℕ) → run ≤ most →
    greater (greater most (pending run [])) (hashes_needed []) ≡ most
unfolding hashes_needed
greater_end run most within =
    let p = pending run [] in
    let small : p ≤ most = pending_within run most 0 within refl in
    let a = (greater_is most p).left in
    let b = (greater_is (greater most p) 0).left in
    both_ways (greater (greater most p) 0) most
    (least (greater most p) 0 most (least most p most (omega arith) small) (omega arith))
    (omega (arith, a, b))

pub greater_within : (a b g : ℕ) → g ≡ greater a b → b ≤ g
greater_within a b g is = let all = (greater_is a b).right in omega (arith, all, is)
