-- Texts that more text may give another literal at the front.
use Rattle.litrs_prefix.proofs.Words.{◌≡◌, ◌⊎◌, inl, inr, ℕ, Bool, true, false, List, [], ◌∷◌, ◌++◌, refl, sym, ap, subst, ◌∙◌, append_assoc, arith, list_all, is_empty, IntegerParts, IsIntegerOf, Derivation, an_integer, IsLiteral, literal_parse, may_follow, HasPrefix, PrefixGoesOn, IsIntegerAndPeriod, is_scalar, IsText, Begins, and_parts, true≢false, nat_tests, append_cancel_left, append_cancel_right, is_xid_start-ascii, front_of}
use Rattle.std.proofs.lemmas.List.Folds.{list_all-append}
use Rattle.litrs_prefix.specs.GoesOn.{IsSettled}
use Rattle.litrs_prefix.proofs.LongerTexts.{whole, stays}
use Rattle.litrs_prefix.proofs.Unique.{unique}

-- the parts of a text are texts
pub text_parts : (m b : List ℕ) → IsText (m ++ b) → IsText m × IsText b
text_parts m b h = and_parts (list_all is_scalar m) (list_all is_scalar b) (sym (list_all-append is_scalar m b) ∙ h)

by_more : (d : Derivation) (x : ℕ) (m more : List ℕ) → may_follow d (x ∷ (m ++ more)) ≡ true → may_follow d (x ∷ m) ≡ false →
    (e : IntegerParts) × (d ≡ an_integer e) × (x ≡ 46) × (m ≡ []) × (is_empty e.suffix ≡ true)
by_more (an_integer d) x m more h g = (d, refl, grind (arith, nat_tests), grind (arith, nat_tests), grind (arith, nat_tests))
by_more d x m more h g = absurd (true≢false (sym h ∙ g))

-- a longer text with a literal at its front
pub goes_on_either : (t : List ℕ) → PrefixGoesOn t → Begins literal_parse t ⊎ IsIntegerAndPeriod t
goes_on_either t h = elim (front_of h.found.front t h.rest h.more h.found.spells) [
  | inl (m, is) ↦ (
      let left = append_cancel_left t (m ++ h.rest) h.more (sym (append_assoc t m h.rest) ∙ (ap (λ (l : List ℕ). l ++ h.rest) (sym is) ∙ h.found.spells)) in
      inl (m, h.literal, (text_parts m h.rest (rw left h.is_text)).0, rw is at h.found.literal))
  | inr (x, m, is) ↦ (
      let left = append_cancel_left h.found.front h.rest (x ∷ (m ++ h.more)) (h.found.spells ∙ (ap (λ (l : List ℕ). l ++ h.more) is ∙ append_assoc h.found.front (x ∷ m) h.more)) in
      go x m is left (may_follow h.literal (x ∷ m)) refl)
]
  where
    go : (x : ℕ) (m : List ℕ) → t ≡ h.found.front ++ x ∷ m → h.rest ≡ x ∷ (m ++ h.more) → (v : Bool) → may_follow h.literal (x ∷ m) ≡ v → Begins literal_parse t ⊎ IsIntegerAndPeriod t
    go x m is after true v = absurd (h.unsettled (h.literal, x, m, record { front = h.found.front; spells = sym is; literal = h.found.literal; follows = v }))
    go x m is after false v =
        let p = by_more h.literal x m h.more (rw after at h.found.follows) v in
        let tail : x ∷ m ≡ 46 ∷ [] = (λ i. p.2 i ∷ p.3 i) in
        inr (h.found.front, (p.0, subst (λ (e : Derivation). IsLiteral h.found.front e) p.1 h.found.literal, p.4), ap (λ (l : List ℕ). h.found.front ++ l) (sym tail) ∙ sym is)

period_alone : (d : IntegerParts) → is_empty d.suffix ≡ true → may_follow (an_integer d) (46 ∷ []) ≡ false
period_alone d none = grind (arith, is_xid_start-ascii)

-- a literal that a longer text begins is not settled
begins_unsettled : (t : List ℕ) → Begins literal_parse t → IsSettled t → ⊥
begins_unsettled t b s =
    let longer = stays t s.0 s.1 s.2 b.0 s.3 in
    let both = unique (t ++ b.0) b.1 s.0 [] (s.1 ∷ (s.2 ++ b.0)) (whole (t ++ b.0) b.1 b.3) longer in cc

two_periods : (front : List ℕ) (d : IntegerParts) → IsIntegerOf front d → is_empty d.suffix ≡ true → HasPrefix ((front ++ 46 ∷ []) ++ 46 ∷ []) (an_integer d) (46 ∷ 46 ∷ [])
two_periods front d h none = grind (arith, is_xid_start-ascii, append_assoc)

period_unsettled : (front : List ℕ) (d : IntegerParts) → IsIntegerOf front d → is_empty d.suffix ≡ true → IsSettled (front ++ 46 ∷ []) → ⊥
period_unsettled front d h none s =
    let t = front ++ 46 ∷ [] in
    let longer = stays t s.0 s.1 s.2 (46 ∷ []) s.3 in
    let both = unique (t ++ 46 ∷ []) (an_integer d) s.0 (46 ∷ 46 ∷ []) (s.1 ∷ (s.2 ++ 46 ∷ [])) (two_periods front d h none) longer in
    let first : s.1 ≡ 46 = cc in
    let rest : s.2 ≡ [] = append_cancel_right s.2 [] (46 ∷ []) (cc) in
    true≢false (sym (rw (← both.0, first, rest) at s.3.follows) ∙ period_alone d none)

pub goes_on_with : (t more : List ℕ) (d : Derivation) (rest : List ℕ) → (IsSettled t → ⊥) → IsText more → HasPrefix (t ++ more) d rest → PrefixGoesOn t
goes_on_with t more d rest unsettled text found = grind arith

pub begins_goes_on : (t : List ℕ) → Begins literal_parse t → PrefixGoesOn t
begins_goes_on t b = goes_on_with t b.0 b.1 [] (begins_unsettled t b) b.2 (whole _ b.1 b.3)

pub period_goes_on : (t : List ℕ) → IsIntegerAndPeriod t → PrefixGoesOn t
period_goes_on t p = subst PrefixGoesOn p.2 (goes_on_with _ (46 ∷ []) (an_integer p.1.0) (46 ∷ 46 ∷ [])
    (period_unsettled p.0 p.1.0 p.1.1 p.1.2) refl (two_periods p.0 p.1.0 p.1.1 p.1.2))
