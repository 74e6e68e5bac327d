-- The places where a raw string opens and closes.
use Rattle.std.proofs.Common.{◌≡◌, ℕ, zero, suc, ◌+◌, ◌≤◌, Bool, true, false, cond, ◌&&◌, ◌||◌, List, [], ◌∷◌, ◌++◌, length, drop, refl, sym, ap, ◌∙◌, inl, inr, arith}
use Rattle.std.specs.Prelude.{◌==◌}
use Rattle.std.specs.List.{list_all}
use Rattle.std.proofs.lemmas.Bool.{and_parts, and_from, or_parts, or_left, or_right, true≢false, false≢true, eqb-true, or_from, cases_Bool}
use Rattle.std.proofs.lemmas.List.{drop_at, length-replicate}
use Rattle.litrs_base.specs.Text.{first_passes, begins_with}
use Rattle.litrs_grammar.specs.Raw.{is_hash, hashes, raw_closing, occurs, hash_len, length_before}
use Rattle.litrs_base.proofs.Begins.{begins_with-split, begins_with-append}
use Rattle.litrs_grammar.proofs.Laws.Integer.{prefix_len_front}
use Rattle.litrs_base.proofs.Runs.{run_of}

-- hashes

pub hashes_pass : (n : ℕ) → list_all is_hash (hashes n) ≡ true
hashes_pass zero = refl
hashes_pass (suc n) = hashes_pass n

pub length-hashes : (n : ℕ) → length (hashes n) ≡ n
length-hashes n = length-replicate n 35

pub hash_len-append : (n : ℕ) (r : List ℕ) → first_passes is_hash r ≡ false → hash_len (hashes n ++ r) ≡ n
hash_len-append n r stop = prefix_len_front is_hash (hashes n) r (hashes_pass n) stop ∙ length-hashes n

pub after_hashes : (n : ℕ) (r : List ℕ) → drop n (hashes n ++ r) ≡ r
after_hashes n r = drop_at (hashes n) r n (length-hashes n)

all_hashes : (xs : List ℕ) → list_all is_hash xs ≡ true → xs ≡ hashes (length xs)
all_hashes [] h = refl
all_hashes (x ∷ xs) h =
    let parts : (is_hash x ≡ true) × (list_all is_hash xs ≡ true) = and_parts _ _ h in
    let first : x ≡ 35 = eqb-true x 35 parts.0 in
    let rest : xs ≡ hashes (length xs) = all_hashes xs parts.1 in
    λ j. first j ∷ rest j

-- a text is hashes and then something else
pub record HashCut (t : List ℕ) : Type 0 where
  pub count : ℕ
  pub rest : List ℕ
  pub spells : hashes count ++ rest ≡ t
  pub stops : first_passes is_hash rest ≡ false

pub hash_cut : (t : List ℕ) → HashCut t
hash_cut t = let r = run_of is_hash t in record {
  count = length r.front;
  rest = r.rest;
  spells = ap (λ f. f ++ r.rest) (sym (all_hashes r.front r.passes)) ∙ r.spells;
  stops = r.stops;
}

-- a part that a text begins with

begins_with_longer : (p s t : List ℕ) → begins_with p s ≡ true → begins_with p (s ++ t) ≡ true
begins_with_longer [] s t h = refl
begins_with_longer (c ∷ cs) [] t h = absurd (false≢true h)
begins_with_longer (c ∷ cs) (d ∷ ds) t h = and_from _ _ (and_parts _ _ h).0 (begins_with_longer cs ds t (and_parts _ _ h).1)

-- Hashes do not reach past a quote.
hashes_before_quote : (n : ℕ) (s t : List ℕ) → begins_with (hashes n) (s ++ (34 ∷ t)) ≡ begins_with (hashes n) s
hashes_before_quote zero s t = refl
hashes_before_quote (suc n) [] t = refl
hashes_before_quote (suc n) (c ∷ cs) t = ap (λ v. (35 == c) && v) (hashes_before_quote n cs t)

-- A closing before another closing is found as it is without the other.
pub closing_before_closing : (n c : ℕ) (cs t : List ℕ) → begins_with (raw_closing n) ((c ∷ cs) ++ (34 ∷ t)) ≡ begins_with (raw_closing n) (c ∷ cs)
closing_before_closing n c cs t = ap (λ v. (34 == c) && v) (hashes_before_quote n cs t)

-- the first closing after a body that does not contain a closing
pub length_before-body : (n : ℕ) (body t : List ℕ) → occurs (raw_closing n) body ≡ false → length_before (raw_closing n) (body ++ (raw_closing n ++ t)) ≡ length body
length_before-body n [] t none = ap (λ v. cond v 0 (1 + length_before (raw_closing n) (hashes n ++ t))) (begins_with-append (raw_closing n) t)
length_before-body n (c ∷ cs) t none =
    let parts : (begins_with (raw_closing n) (c ∷ cs) ≡ false) × (occurs (raw_closing n) cs ≡ false) = or_parts _ _ none in
    let here : begins_with (raw_closing n) ((c ∷ cs) ++ (raw_closing n ++ t)) ≡ false = closing_before_closing n c cs (hashes n ++ t) ∙ parts.0 in
    let more : length_before (raw_closing n) (cs ++ (raw_closing n ++ t)) ≡ length cs = length_before-body n cs t parts.1 in
    ap (λ v. cond v 0 (1 + length_before (raw_closing n) (cs ++ (raw_closing n ++ t)))) here ∙ omega (arith, more)

pub occurs-body : (n : ℕ) (body t : List ℕ) → occurs (raw_closing n) (body ++ (raw_closing n ++ t)) ≡ true
occurs-body n [] t = or_left _ _ (begins_with-append (raw_closing n) t)
occurs-body n (c ∷ cs) t = or_right (begins_with (raw_closing n) ((c ∷ cs) ++ (raw_closing n ++ t))) _ (occurs-body n cs t)

-- a text that contains a closing, cut there
pub record ClosingCut (n : ℕ) (t : List ℕ) : Type 0 where
  pub before : List ℕ
  pub after : List ℕ
  pub spells : before ++ (raw_closing n ++ after) ≡ t
  pub unclosed : occurs (raw_closing n) before ≡ false

closing_here : (n : ℕ) (t : List ℕ) → begins_with (raw_closing n) t ≡ true → ClosingCut n t
closing_here n t h = record { before = []; after = drop (length (raw_closing n)) t; spells = begins_with-split (raw_closing n) t h; unclosed = refl }

closing_later : (n c : ℕ) (cs : List ℕ) → begins_with (raw_closing n) (c ∷ cs) ≡ false → ClosingCut n cs → ClosingCut n (c ∷ cs)
closing_later n c cs not_here r = record {
  before = c ∷ r.before;
  after = r.after;
  spells = ap (λ t. c ∷ t) r.spells;
  unclosed = or_from _ _ (shorter (begins_with (raw_closing n) (c ∷ r.before)) refl) r.unclosed;
}
  where
    shorter : (v : Bool) → begins_with (raw_closing n) (c ∷ r.before) ≡ v → v ≡ false
    shorter false e = refl
    shorter true e = absurd (true≢false (sym (begins_with_longer (raw_closing n) (c ∷ r.before) (raw_closing n ++ r.after) e) ∙ (ap (λ t. begins_with (raw_closing n) (c ∷ t)) r.spells ∙ not_here)))

pub closing_cut : (n : ℕ) (t : List ℕ) → occurs (raw_closing n) t ≡ true → ClosingCut n t
closing_cut n [] h = absurd (false≢true h)
closing_cut n (c ∷ cs) h = elim (cases_Bool (begins_with (raw_closing n) (c ∷ cs))) [
  | inl here ↦ closing_here n (c ∷ cs) here
  | inr not_here ↦ closing_later n c cs not_here (closing_cut n cs (ap (λ v. v || occurs (raw_closing n) cs) (sym not_here) ∙ h))
]

pub length_before_le : (p t : List ℕ) → length_before p t ≤ length t
length_before_le p [] = omega arith
length_before_le p (c ∷ cs) = elim (cases_Bool (begins_with p (c ∷ cs))) [
  | inl here ↦ (let e : length_before p (c ∷ cs) ≡ 0 = ap (λ v. cond v 0 (1 + length_before p cs)) here in omega arith)
  | inr later ↦ (let e : length_before p (c ∷ cs) ≡ 1 + length_before p cs = ap (λ v. cond v 0 (1 + length_before p cs)) later in omega (arith, length_before_le p cs))
]
