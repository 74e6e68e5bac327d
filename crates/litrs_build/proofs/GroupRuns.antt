-- Digits that are written a group at a time.
use Rattle.std.proofs.Common.{◌≡◌, ℕ, zero, suc, ◌+◌, ◌-◌, ◌*◌, ◌/◌, ◌%◌, ◌≤◌, ◌<◌, true, false, ltb, List, [], ◌∷◌, ◌++◌, length, take, drop, refl, sym, ap, ◌∙◌, arith, length-append}
use Rattle.std.specs.Prelude.{if◌then◌else◌}
use Rattle.std.proofs.lemmas.Bool.{and_from, and_right, eq-eqb, ne_eqb, lt-ltb}
use Rattle.std.proofs.lemmas.List.{append_assoc, take-append-drop, length-take-le, length-drop}
use Rattle.std.proofs.Math.Nat.{mod-eq_of_lt, mod-add-div', add-mul-mod_self_right}
use Rattle.litrs_build.specs.WrittenDigits.{ends_group, grouped}

-- no group ends within its digits
within_group : (group after k : ℕ) → 0 < k → after % group ≡ k → ends_group group after ≡ false
within_group group after k some is =
    and_right (ltb 0 group) _ (and_right (ltb 0 after) _ (ne_eqb (after % group) 0
    (λ e. let no : k ≡ 0 = sym is ∙ e in omega arith)))

after_whole : (group k n : ℕ) → k < group → n % group ≡ 0 → (k + n) % group ≡ k
after_whole group k n few is =
    let parts = mod-add-div' n group in
    let whole : n ≡ n / group * group = omega (arith, parts, is) in
    ap (λ m. (k + m) % group) whole
    ∙ (add-mul-mod_self_right k (n / group) group ∙ mod-eq_of_lt few)

-- without groups there is no `_`
pub grouped_none : (ds : List ℕ) → grouped 0 ds ≡ ds
unfolding grouped
grouped_none [] = refl
grouped_none (d ∷ ds) = ap (λ t. d ∷ t) (grouped_none ds)

ends_short : (group k : ℕ) → k < group → ends_group group k ≡ false
ends_short group zero few = and_right (ltb 0 group) _ refl
ends_short group (suc k) few = within_group group (suc k) (suc k) (omega arith) (mod-eq_of_lt few)

-- nor within one group
pub grouped_short : (group : ℕ) (ds : List ℕ) → length ds ≤ group → grouped group ds ≡ ds
unfolding grouped
grouped_short group [] few = refl
grouped_short group (d ∷ ds) few =
    ap (λ e. d ∷ ((if e then 95 ∷ [] else []) ++ grouped group ds))
    (ends_short group (length ds) (omega arith))
    ∙ ap (λ t. d ∷ t) (grouped_short group ds (omega arith))

ends_whole : (group n : ℕ) → 0 < group → 0 < n → n % group ≡ 0 → ends_group group n ≡ true
ends_whole group n some more is =
    and_from _ _ (lt-ltb 0 group some) (and_from _ _ (lt-ltb 0 n more) (eq-eqb (n % group) 0 is))

-- a group before whole groups
grouped_split : (group : ℕ) (part after : List ℕ) → 0 < length part → length part ≤ group →
    0 < length after → length after % group ≡ 0 →
    grouped group (part ++ after) ≡ part ++ 95 ∷ grouped group after
unfolding grouped
grouped_split group [] after some few more is = absurd (omega arith)
grouped_split group (d ∷ []) after some few more is =
    ap (λ e. d ∷ ((if e then 95 ∷ [] else []) ++ grouped group after))
    (ends_whole group (length after) (omega arith) more is)
grouped_split group (d ∷ e ∷ part) after some few more is =
    let k = length (e ∷ part) in
    let size : length ((e ∷ part) ++ after) ≡ k + length after = length-append (e ∷ part) after in
    let left : length ((e ∷ part) ++ after) % group ≡ k =
    ap (λ n. n % group) size ∙ after_whole group k (length after) (omega arith) is in
    ap (λ v. d ∷ ((if v then 95 ∷ [] else []) ++ grouped group ((e ∷ part) ++ after)))
    (within_group group (length ((e ∷ part) ++ after)) k (omega arith) left)
    ∙ ap (λ t. d ∷ t) (grouped_split group (e ∷ part) after (omega arith) (omega arith) more is)

-- the digits after the first group are whole groups
pub rest_whole : (group n first : ℕ) → 0 < group → 0 < n → first ≡ (n - 1) % group + 1 →
    (n - first) % group ≡ 0
rest_whole group n first some more is =
    let parts = mod-add-div' (n - 1) group in
    let whole : n - first ≡ 0 + (n - 1) / group * group = omega (arith, parts, is) in
    ap (λ m. m % group) whole
    ∙ (add-mul-mod_self_right 0 ((n - 1) / group) group ∙ mod-eq_of_lt some)

-- one group is written
pub group_step : (group first : ℕ) (old part mid new rest after total : List ℕ) → 0 < first →
    first ≤ group → group < length rest → (length rest - first) % group ≡ 0 →
    part ≡ take first rest → after ≡ drop first rest → mid ≡ old ++ part → new ≡ mid ++ 95 ∷ [] →
    old ++ grouped group rest ≡ total → new ++ grouped group after ≡ total
group_step group first old part mid new rest after total some few many is front back mid_is new_is whole =
    let front_len : length part ≡ first = ap length front
    ∙ length-take-le first rest (omega arith) in
    let back_len : length after ≡ length rest - first = ap length back
    ∙ length-drop first rest in
    let left : length after % group ≡ 0 =
    ap (λ n. n % group) back_len ∙ is in
    let split : part ++ after ≡ rest =
    (λ i. front i ++ back i) ∙ take-append-drop first rest in
    let groups : grouped group rest ≡ part ++ 95 ∷ grouped group after =
    ap (grouped group) (sym split)
    ∙ grouped_split group part after (omega arith) (omega arith) (omega arith) left in
    ap (λ t. t ++ grouped group after) (new_is ∙ ap (λ t. t ++ 95 ∷ []) mid_is)
    ∙ (append_assoc (old ++ part) (95 ∷ []) (grouped group after)
    ∙ (append_assoc old part (95 ∷ grouped group after)
    ∙ (ap (λ t. old ++ t) (sym groups) ∙ whole)))
