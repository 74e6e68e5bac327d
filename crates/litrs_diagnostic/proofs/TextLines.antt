-- The first and the last line of a text, if its LFs are known.
use Rattle.std.proofs.Common.{◌≡◌, ◌≢◌, ◌<◌, ◌+◌, ◌-◌, ℕ, Bool, true, false, ◌&&◌, ◌||◌, cond, eqb, List, [], ◌∷◌, ◌++◌, length, count_by, refl, ap, inl, inr, true≢false, ne_eqb, arith}
use Rattle.std.proofs.lemmas.Bool.{cases_Bool}
use Rattle.std.proofs.lemmas.List.Sums.{sum_by-append}
use Rattle.std.specs.List.{list_any}
use Rattle.std.specs.Str.{NonePass}
use Rattle.litrs_base.proofs.ListTests.{list_any-split}
use Rattle.litrs_diagnostic.specs.Position.{is_line_feed, last_line, line_number, column_number, column_in}
use Rattle.litrs_diagnostic.specs.Line.{is_carriage_return, ends_line, first_line, is_line_end, last_passes, without_line_end}

pub or_parts : (a b : Bool) → (a || b) ≡ false → (a ≡ false) × (b ≡ false)
or_parts true b h = absurd (true≢false h)
or_parts false b h = (refl, h)

and_false : (b : Bool) → (b && false) ≡ false
and_false true = refl
and_false false = refl

pub none_pass : (p : ℕ → Bool) (cs : List ℕ) → NonePass p cs → list_any p cs ≡ false
none_pass p [] h = refl
none_pass p (c ∷ cs) h = rw h.0 (none_pass p cs h.1)

pub none_in_front : (p : ℕ → Bool) (xs ys : List ℕ) → list_any p (xs ++ ys) ≡ false →
    list_any p xs ≡ false
none_in_front p [] ys h = refl
none_in_front p (x ∷ xs) ys h =
    let parts = or_parts (p x) (list_any p (xs ++ ys)) h in
    rw parts.0 (none_in_front p xs ys parts.1)

-- ---- the last line

pub last_line-none : (t : List ℕ) → list_any is_line_feed t ≡ false → last_line t ≡ t
unfolding last_line
last_line-none [] h = refl
last_line-none (c ∷ t) h = rw h refl

pub last_line-after : (xs ys : List ℕ) → list_any is_line_feed ys ≡ false →
    last_line (xs ++ 10 ∷ ys) ≡ ys
unfolding last_line
last_line-after [] ys h = last_line-none ys h
last_line-after (x ∷ xs) ys h =
    let some = list_any-split is_line_feed (x ∷ xs) 10 ys refl in rw some (last_line-after xs ys h)

-- ---- columns

pub none_counted : (p : ℕ → Bool) (t : List ℕ) → list_any p t ≡ false → count_by p t ≡ 0
none_counted p [] h = refl
none_counted p (c ∷ t) h =
    let parts = or_parts (p c) (list_any p t) h in rw parts.0 (none_counted p t parts.1)

some_counted : (p : ℕ → Bool) (t : List ℕ) → list_any p t ≡ true → 0 < count_by p t
some_counted p [] h = cc
some_counted p (c ∷ t) h = elim (cases_Bool (p c)) [
  | inl passes ↦
      let sum : count_by p (c ∷ t) ≡ count_by p (c ∷ []) + count_by p t =
      sum_by-append (λ x. cond (p x) 1 0) (c ∷ []) t in
      let one : count_by p (c ∷ []) ≡ 1 = rw passes refl in omega arith
  | inr fails ↦ rw fails (some_counted p t (rw fails at h))
]

-- in the first line it counts from that of the first character
pub column_in_first : (first_column line column : ℕ) (t : List ℕ) → line ≡ line_number 1 t →
    column ≡ column_number t → line ≡ 1 → first_column + (column - 1) ≡ column_in first_column t
unfolding column_in
column_in_first first_column line column t is_line is_column first =
    elim (cases_Bool (list_any is_line_feed t)) [
      | inl found ↦ let some = some_counted is_line_feed t found in absurd (omega arith)
      | inr none ↦
          let size : length (last_line t) ≡ length t = ap length (last_line-none t none) in
          rw none (omega arith)
    ]

-- in a later one from 1
pub column_in_later : (first_column line column : ℕ) (t : List ℕ) → line ≡ line_number 1 t →
    column ≡ column_number t → line ≢ 1 → column ≡ column_in first_column t
unfolding column_in
column_in_later first_column line column t is_line is_column later =
    elim (cases_Bool (list_any is_line_feed t)) [
      | inl found ↦ rw found is_column
      | inr none ↦ let no = none_counted is_line_feed t none in absurd (later (omega arith))
    ]

-- ---- the first line

ends_line-within : (x d : ℕ) (t : List ℕ) → is_line_feed x ≡ false → is_line_feed d ≡ false →
    ends_line (x ∷ d ∷ t) ≡ false
ends_line-within x d t a b = rw a (rw b (and_false (is_carriage_return x)))

pub first_line-none : (t : List ℕ) → list_any is_line_feed t ≡ false → first_line t ≡ t
unfolding first_line
first_line-none [] h = refl
first_line-none (x ∷ []) h =
    let parts = or_parts (is_line_feed x) false h in
    rw parts.0 (rw (and_false (is_carriage_return x)) refl)
first_line-none (x ∷ d ∷ t) h =
    let parts = or_parts (is_line_feed x) (list_any is_line_feed (d ∷ t)) h in
    let more = or_parts (is_line_feed d) (list_any is_line_feed t) parts.1 in
    rw (ends_line-within x d t parts.0 more.0)
    (ap (λ (l : List ℕ). x ∷ l) (first_line-none (d ∷ t) parts.1))

-- up to an LF after anything but a CR
pub first_line-line_feed : (xs ys : List ℕ) → list_any is_line_feed xs ≡ false →
    ((front : List ℕ) → xs ≢ front ++ 13 ∷ []) → first_line (xs ++ 10 ∷ ys) ≡ xs
unfolding first_line
first_line-line_feed [] ys h lacks = refl
first_line-line_feed (x ∷ []) ys h lacks =
    let parts = or_parts (is_line_feed x) false h in
    let other : eqb x 13 ≡ false = ne_eqb x 13 (λ e. lacks [] (ap (λ (c : ℕ). c ∷ []) e)) in
    rw parts.0 (rw other refl)
first_line-line_feed (x ∷ d ∷ xs) ys h lacks =
    let parts = or_parts (is_line_feed x) (list_any is_line_feed (d ∷ xs)) h in
    let more = or_parts (is_line_feed d) (list_any is_line_feed xs) parts.1 in
    rw (ends_line-within x d (xs ++ 10 ∷ ys) parts.0 more.0)
    (ap (λ (l : List ℕ). x ∷ l) (first_line-line_feed (d ∷ xs) ys parts.1
    (λ front e. lacks (x ∷ front) (ap (λ (l : List ℕ). x ∷ l) e))))

-- up to a CR and an LF
pub first_line-carriage_return : (xs ys : List ℕ) → list_any is_line_feed xs ≡ false →
    first_line (xs ++ 13 ∷ 10 ∷ ys) ≡ xs
unfolding first_line
first_line-carriage_return [] ys h = refl
first_line-carriage_return (x ∷ []) ys h =
    let parts = or_parts (is_line_feed x) false h in
    rw (ends_line-within x 13 (10 ∷ ys) parts.0 refl) refl
first_line-carriage_return (x ∷ d ∷ xs) ys h =
    let parts = or_parts (is_line_feed x) (list_any is_line_feed (d ∷ xs)) h in
    let more = or_parts (is_line_feed d) (list_any is_line_feed xs) parts.1 in
    rw (ends_line-within x d (xs ++ 13 ∷ 10 ∷ ys) parts.0 more.0)
    (ap (λ (l : List ℕ). x ∷ l) (first_line-carriage_return (d ∷ xs) ys parts.1))

-- ---- the end of the last line

-- no LF ends the text
pub without_line_end-none : (t : List ℕ) → ((front : List ℕ) → t ≢ front ++ 10 ∷ []) →
    without_line_end t ≡ t
unfolding without_line_end
without_line_end-none [] lacks = refl
without_line_end-none (c ∷ []) lacks =
    let other : eqb c 10 ≡ false = ne_eqb c 10 (λ e. lacks [] (ap (λ (x : ℕ). x ∷ []) e)) in
    rw other refl
without_line_end-none (c ∷ d ∷ []) lacks =
    let other : eqb d 10 ≡ false = ne_eqb d 10 (λ e. lacks (c ∷ [])
    (ap (λ (x : ℕ). c ∷ x ∷ []) e)) in
    rw other (rw (and_false (is_carriage_return c)) refl)
without_line_end-none (c ∷ d ∷ e ∷ t) lacks =
    ap (λ (l : List ℕ). c ∷ l) (without_line_end-none (d ∷ e ∷ t)
    (λ front is. lacks (c ∷ front) (ap (λ (l : List ℕ). c ∷ l) is)))

longer-is_line_end : (x d y : ℕ) (xs ys : List ℕ) → is_line_end (x ∷ d ∷ (xs ++ y ∷ ys)) ≡ false
longer-is_line_end x d y [] ys = refl
longer-is_line_end x d y (e ∷ xs) ys = refl

-- an LF after anything but a CR
pub without_line_end-line_feed : (xs : List ℕ) →
    ((front : List ℕ) → xs ≢ front ++ 13 ∷ []) → without_line_end (xs ++ 10 ∷ []) ≡ xs
unfolding without_line_end
without_line_end-line_feed [] lacks = refl
without_line_end-line_feed (x ∷ []) lacks =
    let other : eqb x 13 ≡ false = ne_eqb x 13 (λ e. lacks [] (ap (λ (c : ℕ). c ∷ []) e)) in
    rw other refl
without_line_end-line_feed (x ∷ d ∷ xs) lacks =
    rw (longer-is_line_end x d 10 xs []) (ap (λ (l : List ℕ). x ∷ l)
    (without_line_end-line_feed (d ∷ xs)
    (λ front e. lacks (x ∷ front) (ap (λ (l : List ℕ). x ∷ l) e))))

-- a CR and an LF
pub without_line_end-carriage_return : (xs : List ℕ) →
    without_line_end (xs ++ 13 ∷ 10 ∷ []) ≡ xs
unfolding without_line_end
without_line_end-carriage_return [] = refl
without_line_end-carriage_return (x ∷ []) = refl
without_line_end-carriage_return (x ∷ d ∷ xs) =
    rw (longer-is_line_end x d 13 xs (10 ∷ [])) (ap (λ (l : List ℕ). x ∷ l)
    (without_line_end-carriage_return (d ∷ xs)))

-- ---- the last character

pub last_passes-end : (test : ℕ → Bool) (xs : List ℕ) (c : ℕ) →
    last_passes test (xs ++ c ∷ []) ≡ test c
unfolding last_passes
last_passes-end test [] c = refl
last_passes-end test (x ∷ []) c = refl
last_passes-end test (x ∷ d ∷ xs) c = last_passes-end test (d ∷ xs) c

pub last_passes-none : (t : List ℕ) → ((front : List ℕ) → t ≢ front ++ 13 ∷ []) →
    last_passes is_carriage_return t ≡ false
unfolding last_passes
last_passes-none [] lacks = refl
last_passes-none (c ∷ []) lacks =
    ne_eqb c 13 (λ e. lacks [] (ap (λ (x : ℕ). x ∷ []) e))
last_passes-none (c ∷ d ∷ t) lacks =
    last_passes-none (d ∷ t) (λ front e. lacks (c ∷ front) (ap (λ (l : List ℕ). c ∷ l) e))
