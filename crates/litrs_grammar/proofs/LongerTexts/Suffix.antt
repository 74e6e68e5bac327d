-- Suffixes of longer texts.
use Rattle.std.proofs.Common.{◌≡◌, ℕ, ◌<◌, Bool, true, false, not, ◌&&◌, List, [], ◌∷◌, ◌++◌, refl, sym, ap, ◌∙◌, arith, inl, inr, ◌⊎◌}
use Rattle.std.specs.Prelude.{◌==◌, if◌then◌else◌}
use Rattle.std.specs.List.{list_all}
use Rattle.std.proofs.lemmas.Bool.{and_parts, and_from, eqb-true, both_ways, false≢true, not-true, not-false}
use Rattle.litrs_base.specs.declared.err.ParseErrorKind.TheVariants.{InvalidSuffix, UnexpectedChar}
use Rattle.litrs_base.specs.Finality.{is_final}
use Rattle.litrs_grammar.specs.Suffix.{is_suffix, suffix_kind, is_ascii_symbol, starts_identifier}
use Rattle.litrs_base.specs.Text.{is_empty}
use Rattle.std.proofs.lemmas.Bool.Decides.{nat_tests}
use Rattle.std.proofs.lemmas.List.Folds.{list_all-append as all-append}
use Rattle.unicode_ident.specs.Ident.{is_xid_continue}
use Rattle.unicode_ident.proofs.IdentLemmas.{is_xid_continue-ascii}
use Rattle.litrs_grammar.proofs.SuffixStart.{starts_ascii}

pub is_suffix-nil : is_suffix [] ≡ true
unfolding is_suffix
is_suffix-nil = refl

pub is_suffix-cons : (c : ℕ) (t : List ℕ) → is_suffix (c ∷ t) ≡ (starts_identifier c && list_all is_xid_continue t && not ((c == 95) && is_empty t))
unfolding is_suffix
is_suffix-cons c t = refl

-- `_x` is a suffix
pub underscore_x : is_suffix (95 ∷ 120 ∷ []) ≡ true
underscore_x = is_suffix-cons 95 (120 ∷ []) ∙ and_from _ _ (and_from _ _ (is_xid_continue-ascii 120 (omega arith)) refl) refl

-- one of two fronts of a text begins with the other
pub front_of : (a b x y : List ℕ) → a ++ x ≡ b ++ y → ((z : List ℕ) × (a ≡ b ++ z)) ⊎ ((c : ℕ) × (z : List ℕ) × (b ≡ a ++ c ∷ z))
front_of a [] x y same = inl (a, refl)
front_of [] (d ∷ b) x y same = inr (d, b, refl)
front_of (c ∷ a) (d ∷ b) x y same =
    let head : c ≡ d = cc in
    let tail : a ++ x ≡ b ++ y = cc in
    elim (front_of a b x y tail) [ inl (z, s) ↦ inl (z, cc) | inr (k, z, s) ↦ inr (k, z, cc) ]

symbol_starts_nothing : (c : ℕ) → is_ascii_symbol c ≡ true → starts_identifier c ≡ false
symbol_starts_nothing c h = go (starts_identifier c) refl
  where
    go : (b : Bool) → starts_identifier c ≡ b → b ≡ false
    go false e = refl
    go true e =
        let low : c < 128 = grind (arith, nat_tests) in
        let letter = starts_ascii c low e in
        absurd (both_ways _ (not-true _ (and_parts _ _ h).1) letter)

-- a text that begins otherwise is not a suffix
pub no_suffix : (c : ℕ) (t : List ℕ) → starts_identifier c ≡ false → is_suffix (c ∷ t) ≡ false
unfolding is_suffix
no_suffix c t h = rw h refl

-- no suffix for a final reason
pub suffix_final : (t x : List ℕ) → is_suffix t ≡ false → is_final (suffix_kind t) ≡ true → (is_suffix (t ++ x) ≡ false) × (suffix_kind (t ++ x) ≡ suffix_kind t)
suffix_final [] x h f = absurd (both_ways _ h is_suffix-nil)
suffix_final (c ∷ t) x h f = go (is_ascii_symbol c) refl f
  where
    go : (b : Bool) → is_ascii_symbol c ≡ b → is_final (if b then UnexpectedChar else InvalidSuffix) ≡ true →
        (is_suffix (c ∷ (t ++ x)) ≡ false) × (suffix_kind (c ∷ (t ++ x)) ≡ suffix_kind (c ∷ t))
    go true e g = (no_suffix c (t ++ x) (symbol_starts_nothing c e), refl)
    go false e g = cc

-- a lone underscore alone becomes a suffix
pub suffix_freed : (t x : List ℕ) → is_suffix t ≡ false → is_suffix (t ++ x) ≡ true → t ≡ 95 ∷ []
suffix_freed [] x h g = absurd (both_ways _ h is_suffix-nil)
suffix_freed (c ∷ t) x h g =
    let p = and_parts _ _ (sym (is_suffix-cons c (t ++ x)) ∙ g) in
    let q = and_parts (starts_identifier c) (list_all is_xid_continue (t ++ x)) p.0 in
    let r = and_parts _ _ (sym (all-append is_xid_continue t x) ∙ q.1) in
    go t (not-false _ (sym (ap (λ b. b && not ((c == 95) && is_empty t)) (and_from _ _ q.0 r.0)) ∙ (sym (is_suffix-cons c t) ∙ h)))
  where
    go : (t : List ℕ) → ((c == 95) && is_empty t) ≡ true → c ∷ t ≡ 95 ∷ []
    go [] e = ap (λ n. n ∷ []) (eqb-true c 95 (and_parts _ _ e).0)
    go (d ∷ t) e = absurd (false≢true (and_parts (c == 95) _ e).1)
