-- Literals that do not contain LF.
use Rattle.std.proofs.Common.{◌≡◌, ℕ, Bool, true, not, List, [], ◌∷◌, ◌++◌, refl, sym, ap, ◌∙◌, arith}
use Rattle.std.specs.Prelude.{◌==◌}
use Rattle.std.specs.List.{list_all}
use Rattle.std.specs.Char.{is_ascii_hexdigit}
use Rattle.std.proofs.lemmas.Bool.{and_parts, and_from, both_ways, not-true}
use Rattle.std.proofs.lemmas.Bool.Decides.{nat_tests}
use Rattle.std.proofs.lemmas.List.Folds.{list_all-append as all-append}
use Rattle.litrs_grammar.specs.Suffix.{is_suffix}
use Rattle.litrs_base.specs.declared.quotes.Switches.{Switches}
use Rattle.litrs_grammar.specs.Escape.{Escape, simple_escape, hex_escape, unicode_escape, escape_text, is_escape, is_simple, allows_value, allows_byte, pair_value, is_hex_or_underscore}
use Rattle.litrs_base.proofs.Runs.{last_passes, is_line_feed, line_feed_last, list_all-weaken, list_all-append}
use Rattle.litrs_grammar.proofs.SuffixStart.{suffix_continues, not_line_feed}
use Rattle.litrs_grammar.proofs.Laws.Escape.{inner_of}

-- any character but LF
abbrev pub is_other : ℕ → Bool
is_other c = not (c == 10)

simple_other : (c : ℕ) → is_simple c ≡ true → is_other c ≡ true
simple_other c h = grind (arith, nat_tests)

digit_other : (c : ℕ) → is_ascii_hexdigit c ≡ true → is_other c ≡ true
digit_other c h = grind (arith, nat_tests)

inner_other : (c : ℕ) → is_hex_or_underscore c ≡ true → is_other c ≡ true
inner_other c h = grind (arith, nat_tests)

-- an escape does not contain LF
pub escape_other : (w : Switches) (e : Escape) → is_escape w e ≡ true → list_all is_other (escape_text e) ≡ true
escape_other w (simple_escape c) h = let p = and_parts (is_simple c) _ h in and_from _ _ (simple_other c p.0) refl
escape_other w (hex_escape c d) h =
    let p = and_parts _ (allows_value w (pair_value c d)) h in
    let q = and_parts _ (allows_byte w (pair_value c d)) p.0 in
    let r = and_parts (is_ascii_hexdigit c) (is_ascii_hexdigit d) q.0 in
    and_from _ _ (digit_other c r.0) (and_from _ _ (digit_other d r.1) refl)
escape_other w (unicode_escape inner) h =
    list_all-append is_other inner (125 ∷ []) (list_all-weaken _ _ inner_other inner (inner_of w inner h).all) refl

-- a suffix does not contain LF
pub suffix_other : (t : List ℕ) → is_suffix t ≡ true → list_all is_other t ≡ true
suffix_other t h = list_all-weaken _ _ (λ c g. ap not (not_line_feed c g)) t (suffix_continues t h)

last_not : (p : ℕ → Bool) (t : List ℕ) → list_all (λ c. not (p c)) t ≡ true → last_passes p t ≡ true → ⊥
last_not p [] h g = cc
last_not p (c ∷ []) h g = both_ways _ (not-true _ (and_parts (not (p c)) _ h).0) g
last_not p (c ∷ d ∷ t) h g = last_not p (d ∷ t) (and_parts (not (p c)) _ h).1 g

-- the beginning of a text without LF does not end with LF
pub no_line_feed_last : (t x : List ℕ) → list_all is_other (t ++ x) ≡ true → last_passes is_line_feed t ≡ true → ⊥
no_line_feed_last t x h feed = last_not is_line_feed t (and_parts _ _ (sym (all-append is_other t x) ∙ h)).0 feed

pub no_line_feed : (t x : List ℕ) → list_all is_other ((t ++ 10 ∷ []) ++ x) ≡ true → ⊥
no_line_feed t x h = no_line_feed_last (t ++ 10 ∷ []) x h (line_feed_last t)
