-- Refused escapes under every appended text: which stay refused, and which some text completes.
use Rattle.std.proofs.Common.{◌≡◌, ℕ, ◌+◌, ◌<◌, Bool, true, false, not, ◌&&◌, ◌||◌, List, [], ◌∷◌, ◌++◌, Option, Some, None, refl, sym, ap, ◌∙◌, subst, arith, inl, inr, append_assoc, suc, ◌*◌, ◌^◌, ◌≤◌, leb, length, length-append}
use Rattle.std.specs.Prelude.{◌==◌, if◌then◌else◌, ◌↔◌, count_by, filter, nat_lt}
use Rattle.std.specs.Char.{is_ascii_hexdigit, digit_value}
use Rattle.std.specs.List.{list_all, list_any, before_first}
use Rattle.std.proofs.lemmas.Bool.{and_parts, eqb-true, both_ways, false≢true, or_cases, or_right, or_left, and_from, leb-true, leb-false, le-leb}
use Rattle.std.proofs.lemmas.List.Folds.{list_any-append, list_all-append as all-append}
use Rattle.litrs_base.specs.Refusal.{Refusal, at_byte, spanning}
use Rattle.litrs_base.specs.declared.err.ParseErrorKind.TheVariants.{UnterminatedEscape, UnicodeEscapeInByteLiteral, UnicodeEscapeWithoutBrace, UnterminatedUnicodeEscape}
use Rattle.litrs_base.specs.Finality.{is_final}
use Rattle.litrs_base.specs.Text.{byte_len, first_passes}
use Rattle.litrs_base.specs.declared.quotes.Switches.{Switches}
use Rattle.litrs_grammar.specs.Escape.{escape_refusal, hex_refusal, unicode_refusal, inner_refusal, allows_value, allows_byte, pair_value, has_two_bytes, Escape, simple_escape, hex_escape, unicode_escape, escape_text, is_escape, is_hex_or_underscore, hex_value}
use Rattle.litrs_base.proofs.ByteLen.{byte_len_one_ascii}
use Rattle.litrs_base.proofs.ListTests.{before_first-split, split_first, Splits, if_false}
use Rattle.litrs_grammar.proofs.Laws.Escape.{hexdigit_ascii, inner_of, IsInner, hexdigit_no_underscore, refusal_escape}
use Rattle.std.proofs.lemmas.Bool.Decides.{nat_tests}
use Rattle.std.proofs.lemmas.List.{append-nil}
use Rattle.std.proofs.lemmas.List.Elements.{filter-append}
use Rattle.std.proofs.lemmas.List.Sums.{length-filter}
use Rattle.std.proofs.lemmas.Grind.{pow_more}
use Rattle.std.proofs.Math.Nat.{mul-le-mul_left, pow-le-pow_right}
use Rattle.litrs_base.specs.Characters.{is_scalar}
use Rattle.litrs_base.specs.Numeral.{place_sum, is_no_underscore}
use Rattle.litrs_base.proofs.Runs.{list_all-append}
use Rattle.litrs_grammar.specs.Laws.LongerTexts.{FinalEscapeRefusalsStay, RefusedEscapesGoOn}
use Rattle.litrs_grammar.specs.Laws.Escape.{BeginsWithEscape}
use Rattle.litrs_grammar.specs.GoesOn.Escape.{BeginsEscape, inner_goes_on, hex_goes_on, braces_go_on, escape_goes_on}

-- A final refusal of an escape stays.

-- a refusal that is not final is not equal to a final one
pub never : {A : Type 0} (k e : Refusal) → is_final k.kind ≡ false → is_final e.kind ≡ true → Some k ≡ Some e → A
never k e n f same = let at_byte : k ≡ e = cc in absurd (both_ways _ (subst (λ r. is_final r.kind ≡ false) at_byte n) f)

-- rows above which nothing changes
pub keep : (b : Bool) (x y x' y' : Option Refusal) (e : Refusal) → (x ≡ Some e → x' ≡ Some e) → (y ≡ Some e → y' ≡ Some e) →
    (if b then x else y) ≡ Some e → (if b then x' else y') ≡ Some e
keep true x y x' y' e f g h = f h
keep false x y x' y' e f g h = g h

no_hexdigit : (c : ℕ) → (byte_len (c ∷ []) == 2) ≡ true → is_ascii_hexdigit c ≡ false
no_hexdigit c h = go (is_ascii_hexdigit c) refl
  where
    go : (b : Bool) → is_ascii_hexdigit c ≡ b → b ≡ false
    go false e = refl
    go true e =
        let one : byte_len (c ∷ []) ≡ 1 = byte_len_one_ascii c [] (hexdigit_ascii c e) in
        absurd (false≢true (subst (λ n. (n == 2) ≡ true) one h))

hex_one : (w : Switches) (c d : ℕ) (x : List ℕ) (e : Refusal) → is_final e.kind ≡ true → (b : Bool) → (byte_len (c ∷ []) == 2) ≡ b →
    hex_refusal w (c ∷ []) ≡ Some e → hex_refusal w (c ∷ d ∷ x) ≡ Some e
hex_one w c d x e f false g h = never (spanning 0 (2 + byte_len (c ∷ [])) UnterminatedEscape) e refl f (rw g at h)
hex_one w c d x e f true g h =
    let no = no_hexdigit c g in
    rw (g, no) (rw (g, no) at h)

hex_final : (w : Switches) (t x : List ℕ) (e : Refusal) → is_final e.kind ≡ true → hex_refusal w t ≡ Some e → hex_refusal w (t ++ x) ≡ Some e
hex_final w [] x e f h = never (spanning 0 2 UnterminatedEscape) e refl f h
hex_final w (c ∷ []) [] e f h = h
hex_final w (c ∷ []) (d ∷ x) e f h = hex_one w c d x e f (byte_len (c ∷ []) == 2) refl h
hex_final w (c ∷ d ∷ t) x e f h =
    keep (not (has_two_bytes (c ∷ d ∷ t))) _ _ _ _ e (never (spanning 0 (2 + byte_len (c ∷ d ∷ t)) UnterminatedEscape) e refl f) (λ r. r) h

-- the text up to the first brace stays
inner_same : (t x : List ℕ) → list_any (λ c. c == 125) t ≡ true → before_first (λ c. c == 125) (t ++ x) ≡ before_first (λ c. c == 125) t
inner_same t x h = go (split_first (λ c. c == 125) t h)
  where
    go : Splits (λ c. c == 125) t → before_first (λ c. c == 125) (t ++ x) ≡ before_first (λ c. c == 125) t
    go (xs, c, ys, s) =
        ap (λ l. before_first (λ c. c == 125) (l ++ x)) (sym s.spells)
        ∙ ap (before_first (λ c. c == 125)) (append_assoc xs (c ∷ ys) x)
        ∙ before_first-split (λ c. c == 125) xs c (ys ++ x) s.before s.passes
        ∙ sym (before_first-split (λ c. c == 125) xs c ys s.before s.passes)
        ∙ ap (before_first (λ c. c == 125)) s.spells

any_same : (t x : List ℕ) → list_any (λ c. c == 125) t ≡ true → list_any (λ c. c == 125) (t ++ x) ≡ true
any_same t x h = list_any-append (λ c. c == 125) t x ∙ or_left _ _ h

brace_lacks : (u : Bool) (e : Refusal) (y : Option Refusal) → is_final e.kind ≡ true →
    (if not u then Some (spanning 0 2 UnicodeEscapeInByteLiteral) else Some (spanning 0 2 UnicodeEscapeWithoutBrace)) ≡ Some e →
    (if not u then Some (spanning 0 2 UnicodeEscapeInByteLiteral) else y) ≡ Some e
brace_lacks true e y f h = never (spanning 0 2 UnicodeEscapeWithoutBrace) e refl f h
brace_lacks false e y f h = h

inner_row : (w : Switches) (c : ℕ) (t x : List ℕ) (b : Bool) (e : Refusal) → list_any (λ c. c == 125) (c ∷ t) ≡ b → (c == 123) ≡ true → is_final e.kind ≡ true →
    (if not b then Some (spanning 0 (2 + byte_len (c ∷ t)) UnterminatedUnicodeEscape) else inner_refusal w (before_first (λ c. c == 125) t)) ≡ Some e →
    (if not (list_any (λ c. c == 125) (c ∷ (t ++ x))) then Some (spanning 0 (2 + byte_len (c ∷ (t ++ x))) UnterminatedUnicodeEscape)
    else inner_refusal w (before_first (λ c. c == 125) (t ++ x))) ≡ Some e
inner_row w c t x false e any brace f h = never (spanning 0 (2 + byte_len (c ∷ t)) UnterminatedUnicodeEscape) e refl f h
inner_row w c t x true e any brace f h =
    let other : (c == 125) ≡ false = rw (eqb-true c 123 brace) refl in
    let inside : list_any (λ c. c == 125) t ≡ true = rw other at any in
    rw (other, any_same t x inside) (ap (inner_refusal w) (inner_same t x inside) ∙ h)

unicode_final : (w : Switches) (t x : List ℕ) (e : Refusal) → is_final e.kind ≡ true → unicode_refusal w t ≡ Some e → unicode_refusal w (t ++ x) ≡ Some e
unicode_final w [] x e f h = brace_lacks w.unicode e _ f h
unicode_final w (c ∷ t) x e f h =
    keep (not w.unicode) _ _ _ _ e (λ r. r)
    (λ g. braced (c == 123) refl g) h
  where
    braced : (b : Bool) → (c == 123) ≡ b →
        (if not b then Some (spanning 0 2 UnicodeEscapeWithoutBrace) else (if not (list_any (λ c. c == 125) (c ∷ t)) then Some (spanning 0 (2 + byte_len (c ∷ t)) UnterminatedUnicodeEscape)
        else inner_refusal w (before_first (λ c. c == 125) t))) ≡ Some e →
        (if not (c == 123) then Some (spanning 0 2 UnicodeEscapeWithoutBrace) else (if not (list_any (λ c. c == 125) (c ∷ (t ++ x))) then Some (spanning 0 (2 + byte_len (c ∷ (t ++ x))) UnterminatedUnicodeEscape)
        else inner_refusal w (before_first (λ c. c == 125) (t ++ x)))) ≡ Some e
    braced false g r = never (spanning 0 2 UnicodeEscapeWithoutBrace) e refl f r
    braced true g r = if_false (not (c == 123)) _ _ (ap not g) ∙ inner_row w c t x (list_any (λ c. c == 125) (c ∷ t)) e refl g f r

-- an escape refused with a final kind is refused alike whatever is appended
pub escape_final : (w : Switches) (t x : List ℕ) (e : Refusal) → is_final e.kind ≡ true → escape_refusal w t ≡ Some e → escape_refusal w (t ++ x) ≡ Some e
unfolding escape_refusal
escape_final w [] x e f h = never (at_byte 0 UnterminatedEscape) e refl f h
escape_final w (c ∷ []) x e f h = never (at_byte 0 UnterminatedEscape) e refl f h
escape_final w (c ∷ d ∷ t) x e f h =
    keep ((d == 48) && not w.allow_nul) _ _ _ _ e (λ r. r)
    (keep (d == 120) _ _ _ _ e (hex_final w t x e f)
    (keep (d == 117) _ _ _ _ e (unicode_final w t x e f) (λ r. r))) h

-- after a final refusal no extension of the text begins with an escape
pub escape_finality : (w : Switches) (t : List ℕ) (e : Refusal) → is_final e.kind ≡ true → escape_refusal w t ≡ Some e → (more : List ℕ) → ¬ BeginsWithEscape w (t ++ more)
escape_finality w t e f h more (g, rest, spells, grammar) =
    let none : escape_refusal w (t ++ more) ≡ None = subst (λ (l : List ℕ). escape_refusal w l ≡ None) spells (refusal_escape w g rest grammar) in
    let some : escape_refusal w (t ++ more) ≡ Some e = escape_final w t more e f h in cc

-- `\u{` and what follows it, if no `}` follows

abbrev digits : List ℕ → ℕ
digits t = count_by is_ascii_hexdigit t

-- one more digit
place_one : (xs : List ℕ) → place_sum 16 (xs ++ 49 ∷ []) ≡ place_sum 16 xs * 16 + 1
unfolding place_sum
place_one [] = refl
place_one (c ∷ xs) =
    let more = place_one xs in
    let power : 16 ^ length (xs ++ 49 ∷ []) ≡ 16 ^ length xs * 16 = ap (λ n. 16 ^ n) (length-append xs (49 ∷ [])) ∙ pow_more 16 (length xs) in
    rw (power, more) (omega arith)

value_one : (t : List ℕ) → hex_value (t ++ 49 ∷ []) ≡ hex_value t * 16 + 1
value_one t = ap (place_sum 16) (filter-append is_no_underscore t (49 ∷ [])) ∙ place_one (filter is_no_underscore t)

-- the value of a number of digits is below that power of the base
digit_small : (c : ℕ) → is_ascii_hexdigit c ≡ true → digit_value c ≤ 15
digit_small c h = grind (arith, nat_tests)

place_step : (d p s : ℕ) → d ≤ 15 → s < p → d * p + s < p * 16
place_step d p s h g = let more : p * d ≤ p * 15 = mul-le-mul_left p h in omega arith

next : (n : ℕ) → suc n ≡ n + 1
next n = omega arith

place_small : (xs : List ℕ) → list_all is_ascii_hexdigit xs ≡ true → place_sum 16 xs < 16 ^ length xs
unfolding place_sum
place_small [] h = omega arith
place_small (c ∷ xs) h =
    let p = and_parts (is_ascii_hexdigit c) (list_all is_ascii_hexdigit xs) h in
    let rec = place_small xs p.1 in
    let power : 16 ^ suc (length xs) ≡ 16 ^ length xs * 16 = ap (λ n. 16 ^ n) (next (length xs)) ∙ pow_more 16 (length xs) in
    let step = place_step (digit_value c) (16 ^ length xs) (place_sum 16 xs) (digit_small c p.0) rec in
    rw power step

-- the digits that are kept
underscore_else : (c : ℕ) → is_hex_or_underscore c ≡ true → is_ascii_hexdigit c ≡ false → (c == 95) ≡ true
underscore_else c h e = subst (λ b. (b || (c == 95)) ≡ true) e h

kept_all_step : (c : ℕ) (t : List ℕ) (b : Bool) → is_ascii_hexdigit c ≡ b → is_hex_or_underscore c ≡ true → list_all is_ascii_hexdigit (filter is_no_underscore t) ≡ true →
    list_all is_ascii_hexdigit (filter is_no_underscore (c ∷ t)) ≡ true
kept_all_step c t true e h rec = rw (hexdigit_no_underscore c e) (and_from _ _ e rec)
kept_all_step c t false e h rec = rw (underscore_else c h e) rec

kept_all : (t : List ℕ) → list_all is_hex_or_underscore t ≡ true → list_all is_ascii_hexdigit (filter is_no_underscore t) ≡ true
kept_all [] h = refl
kept_all (c ∷ t) h =
    let both = and_parts (is_hex_or_underscore c) (list_all is_hex_or_underscore t) h in
    kept_all_step c t (is_ascii_hexdigit c) refl both.0 (kept_all t both.1)

kept_same_step : (c : ℕ) (t : List ℕ) (b : Bool) → is_ascii_hexdigit c ≡ b → is_hex_or_underscore c ≡ true → filter is_no_underscore t ≡ filter is_ascii_hexdigit t →
    filter is_no_underscore (c ∷ t) ≡ filter is_ascii_hexdigit (c ∷ t)
kept_same_step c t true e h rec = rw (hexdigit_no_underscore c e, e) (ap (λ l. c ∷ l) rec)
kept_same_step c t false e h rec = rw (underscore_else c h e, e) rec

kept_same : (t : List ℕ) → list_all is_hex_or_underscore t ≡ true → filter is_no_underscore t ≡ filter is_ascii_hexdigit t
kept_same [] h = refl
kept_same (c ∷ t) h =
    let both = and_parts (is_hex_or_underscore c) (list_all is_hex_or_underscore t) h in
    kept_same_step c t (is_ascii_hexdigit c) refl both.0 (kept_same t both.1)

kept_length : (t : List ℕ) → list_all is_hex_or_underscore t ≡ true → length (filter is_no_underscore t) ≡ digits t
kept_length t h = ap length (kept_same t h) ∙ length-filter is_ascii_hexdigit t

digits-append : (s t : List ℕ) → digits (s ++ t) ≡ digits s + digits t
digits-append s t =
    let a = length-filter is_ascii_hexdigit (s ++ t) in
    let b = length-filter is_ascii_hexdigit s in
    let c = length-filter is_ascii_hexdigit t in
    let d : length (filter is_ascii_hexdigit (s ++ t)) ≡ length (filter is_ascii_hexdigit s) + length (filter is_ascii_hexdigit t) =
    ap length (filter-append is_ascii_hexdigit s t) ∙ length-append (filter is_ascii_hexdigit s) (filter is_ascii_hexdigit t) in
    omega (arith, a, b, c, d)

value_small : (t : List ℕ) → list_all is_hex_or_underscore t ≡ true → leb (digits t) 5 ≡ true → hex_value t < 1048576
value_small t h few =
    let small = place_small (filter is_no_underscore t) (kept_all t h) in
    let len = kept_length t h in
    let le : length (filter is_no_underscore t) ≤ 5 = let f = leb-true _ _ few in omega arith in
    let pow : 16 ^ length (filter is_no_underscore t) ≤ 16 ^ 5 = pow-le-pow_right (omega arith) le in
    omega arith

-- a value of at most five digits is allowed, or the one with a further digit 1
allowed_one : (b : Bool) (v : ℕ) → (b || not ((v * 16 + 1) == 0)) ≡ true
allowed_one b v = or_right b _ (grind (arith, nat_tests))

scalar_one : (v : ℕ) → v < 1048576 → is_scalar v ≡ false → is_scalar (v * 16 + 1) ≡ true
scalar_one v h n = grind (arith, nat_tests)

scalar_zero : (b : Bool) (v : ℕ) → (b || not (v == 0)) ≡ false → is_scalar (v * 16 + 1) ≡ true
scalar_zero b v n = grind (arith, nat_tests)

first-append : (p : ℕ → Bool) (s t : List ℕ) → first_passes p s ≡ true → first_passes p (s ++ t) ≡ true
first-append p [] t h = cc
first-append p (c ∷ s) t h = h

-- a beginning of the inside of an escape is completed
complete_one : (w : Switches) (t : List ℕ) → w.unicode ≡ true → first_passes is_ascii_hexdigit t ≡ true → list_all is_hex_or_underscore t ≡ true →
    leb (digits t) 5 ≡ true → is_scalar (hex_value t * 16 + 1) ≡ true → BeginsEscape w (92 ∷ 117 ∷ 123 ∷ t)
complete_one w t u first all few scalar =
    let one : hex_value (t ++ 49 ∷ []) ≡ hex_value t * 16 + 1 = value_one t in
    let count : digits (t ++ 49 ∷ []) ≡ digits t + 1 = digits-append t (49 ∷ []) in
    let six : leb (digits (t ++ 49 ∷ [])) 6 ≡ true = le-leb _ _ (let f = leb-true _ _ few in omega arith) in
    let allowed : allows_value w (hex_value (t ++ 49 ∷ [])) ≡ true = subst (λ v. allows_value w v ≡ true) (sym one) (allowed_one w.allow_nul (hex_value t)) in
    let scalar' : is_scalar (hex_value (t ++ 49 ∷ [])) ≡ true = subst (λ v. is_scalar v ≡ true) (sym one) scalar in (
      unicode_escape (t ++ 49 ∷ []),
      49 ∷ 125 ∷ [],
      ap (λ l. 92 ∷ 117 ∷ 123 ∷ l) (sym (append_assoc t (49 ∷ []) (125 ∷ []))),
      and_from _ _ (and_from _ _ (and_from _ _ (and_from _ _ (and_from _ _ u (first-append is_ascii_hexdigit t (49 ∷ []) first)) (list_all-append is_hex_or_underscore t (49 ∷ []) all refl)) six) allowed) scalar',
    )

complete_few : (w : Switches) (t : List ℕ) (a s : Bool) → allows_value w (hex_value t) ≡ a → is_scalar (hex_value t) ≡ s → w.unicode ≡ true →
    first_passes is_ascii_hexdigit t ≡ true → list_all is_hex_or_underscore t ≡ true → leb (digits t) 5 ≡ true → BeginsEscape w (92 ∷ 117 ∷ 123 ∷ t)
complete_few w t true true allowed scalar u first all few =
    let six : leb (digits t) 6 ≡ true = le-leb _ _ (let f = leb-true _ _ few in omega arith) in
    (unicode_escape t, 125 ∷ [], refl, and_from _ _ (and_from _ _ (and_from _ _ (and_from _ _ (and_from _ _ u first) all) six) allowed) scalar)
complete_few w t true false allowed scalar u first all few = complete_one w t u first all few (scalar_one (hex_value t) (value_small t all few) scalar)
complete_few w t false s allowed scalar u first all few = complete_one w t u first all few (scalar_zero w.allow_nul (hex_value t) allowed)

complete_none : (w : Switches) → w.unicode ≡ true → BeginsEscape w (92 ∷ 117 ∷ 123 ∷ [])
unfolding place_sum
complete_none w u = (unicode_escape (52 ∷ 49 ∷ []), 52 ∷ 49 ∷ 125 ∷ [], refl, and_from _ _ (and_from _ _ (and_from _ _ (and_from _ _ (and_from _ _ u refl) refl) refl) (or_right w.allow_nul true refl)) refl)

pub inner_begins : (w : Switches) (t : List ℕ) → inner_goes_on w t ≡ true → BeginsEscape w (92 ∷ 117 ∷ 123 ∷ t)
inner_begins w [] h = complete_none w (and_parts w.unicode _ h).0
inner_begins w (c ∷ t) h =
    let p = and_parts w.unicode _ h in
    elim (or_cases _ (is_escape w (unicode_escape (c ∷ t))) p.1) [
      | inr whole ↦ (unicode_escape (c ∷ t), 125 ∷ [], refl, whole)
      | inl few ↦ (let q = and_parts _ (leb (digits (c ∷ t)) 5) few in
          let r = and_parts (first_passes is_ascii_hexdigit (c ∷ t)) (list_all is_hex_or_underscore (c ∷ t)) q.0 in
          complete_few w (c ∷ t) (allows_value w (hex_value (c ∷ t))) (is_scalar (hex_value (c ∷ t))) refl refl p.0 r.0 r.1 q.1)
    ]

no_length : (t : List ℕ) → length t ≡ 0 → t ≡ []
no_length [] h = refl
no_length (c ∷ t) h = absurd (omega arith)

-- underscores at the end do not change anything
value_same : (s z : List ℕ) → list_all is_hex_or_underscore z ≡ true → digits z ≡ 0 → hex_value (s ++ z) ≡ hex_value s
value_same s z h n =
    let none : filter is_no_underscore z ≡ [] = no_length _ (kept_length z h ∙ n) in
    ap (place_sum 16) (filter-append is_no_underscore s z ∙ ap (λ l. filter is_no_underscore s ++ l) none ∙ append-nil (filter is_no_underscore s))

pub inner_of_begun : (w : Switches) (c : ℕ) (t z : List ℕ) → IsInner w ((c ∷ t) ++ z) → inner_goes_on w (c ∷ t) ≡ true
inner_of_begun w c t z is = and_from _ _ is.unicode (go (leb (digits (c ∷ t)) 5) refl)
  where
    both : (list_all is_hex_or_underscore (c ∷ t) ≡ true) × (list_all is_hex_or_underscore z ≡ true)
    both = and_parts _ _ (sym (all-append is_hex_or_underscore (c ∷ t) z) ∙ is.all)

    go : (b : Bool) → leb (digits (c ∷ t)) 5 ≡ b →
        ((first_passes is_ascii_hexdigit (c ∷ t) && list_all is_hex_or_underscore (c ∷ t) && leb (digits (c ∷ t)) 5) || is_escape w (unicode_escape (c ∷ t))) ≡ true
    go true e = or_left _ _ (and_from _ _ (and_from _ _ is.first both.0) e)
    go false e =
        let many = leb-false (digits (c ∷ t)) 5 e in
        let few = leb-true (digits ((c ∷ t) ++ z)) 6 is.few in
        let sum = digits-append (c ∷ t) z in
        let none : digits z ≡ 0 = omega arith in
        let six : leb (digits (c ∷ t)) 6 ≡ true = le-leb _ _ (omega arith) in
        let value = value_same (c ∷ t) z both.1 none in
        let allowed : allows_value w (hex_value (c ∷ t)) ≡ true = subst (λ v. allows_value w v ≡ true) value is.allowed in
        let scalar : is_scalar (hex_value (c ∷ t)) ≡ true = subst (λ v. is_scalar v ≡ true) value is.scalar in
        or_right _ _ (and_from _ _ (and_from _ _ (and_from _ _ (and_from _ _ (and_from _ _ is.unicode is.first) both.0) six) allowed) scalar)

byte_one : (b : Bool) (d e : ℕ) → (b || nat_lt (16 * d + e) 128) ≡ true → (b || nat_lt (16 * d + 1) 128) ≡ true
byte_one true d e h = refl
byte_one false d e h = grind (arith, nat_tests)

-- a strict front of a text that ends with one more character
front_before : (t inner x : List ℕ) (k c : ℕ) → t ++ c ∷ x ≡ inner ++ k ∷ [] → (z : List ℕ) × (inner ≡ t ++ z)
front_before [] inner x k c same = (inner, refl)
front_before (d ∷ []) [] x k c same = cc
front_before (d ∷ e ∷ t) [] x k c same = cc
front_before (d ∷ t) (b ∷ inner) x k c same =
    let head : d ≡ b = cc in
    let tail : t ++ c ∷ x ≡ inner ++ k ∷ [] = cc in
    let rec = front_before t inner x k c tail in
    (rec.0, cc)

goes_on_of : (w : Switches) (t : List ℕ) (e : Escape) (c : ℕ) (x : List ℕ) → 92 ∷ (t ++ c ∷ x) ≡ escape_text e → is_escape w e ≡ true → escape_goes_on w t ≡ true
goes_on_of w [] e c x same h = refl
goes_on_of w (d ∷ []) (simple_escape b) c x same h = cc
goes_on_of w (d ∷ f ∷ t) (simple_escape b) c x same h = cc
goes_on_of w (d ∷ []) (hex_escape a b) c x same h = let at_byte : d ≡ 120 = cc in subst (λ n. escape_goes_on w (n ∷ []) ≡ true) (sym at_byte) refl
goes_on_of w (d ∷ f ∷ []) (hex_escape a b) c x same h =
    let p = and_parts _ (allows_value w (pair_value a b)) h in
    let q = and_parts _ (allows_byte w (pair_value a b)) p.0 in
    let r = and_parts (is_ascii_hexdigit a) (is_ascii_hexdigit b) q.0 in
    let at_byte : d ≡ 120 = cc in
    let same_digit : f ≡ a = cc in
    subst (λ n. escape_goes_on w (n ∷ f ∷ []) ≡ true) (sym at_byte) (subst (λ n. escape_goes_on w (120 ∷ n ∷ []) ≡ true) (sym same_digit)
    (or_left _ _ (and_from _ _ r.0 (byte_one w.byte_escapes (digit_value a) (digit_value b) q.1))))
goes_on_of w (d ∷ f ∷ g ∷ []) (hex_escape a b) c x same h = cc
goes_on_of w (d ∷ f ∷ g ∷ k ∷ t) (hex_escape a b) c x same h = cc
goes_on_of w (d ∷ []) (unicode_escape inner) c x same h =
    let at_byte : d ≡ 117 = cc in
    subst (λ n. escape_goes_on w (n ∷ []) ≡ true) (sym at_byte) (and_from _ _ (inner_of w inner h).unicode refl)
goes_on_of w (d ∷ f ∷ []) (unicode_escape inner) c x same h =
    let at_byte : d ≡ 117 = cc in
    let brace : f ≡ 123 = cc in
    subst (λ n. escape_goes_on w (n ∷ f ∷ []) ≡ true) (sym at_byte) (subst (λ n. escape_goes_on w (117 ∷ n ∷ []) ≡ true) (sym brace)
    (let u = (inner_of w inner h).unicode in and_from _ _ u (and_from _ _ u refl)))
goes_on_of w (d ∷ f ∷ g ∷ t) (unicode_escape inner) c x same h =
    let at_byte : d ≡ 117 = cc in
    let brace : f ≡ 123 = cc in
    let tails : (g ∷ t) ++ c ∷ x ≡ inner ++ 125 ∷ [] = cc in
    let z = front_before (g ∷ t) inner x 125 c tails in
    subst (λ n. escape_goes_on w (n ∷ f ∷ g ∷ t) ≡ true) (sym at_byte) (subst (λ n. escape_goes_on w (117 ∷ n ∷ g ∷ t) ≡ true) (sym brace)
    (and_from _ _ (inner_of w inner h).unicode (inner_of_begun w g t z.0 (subst (λ l. IsInner w l) z.1 (inner_of w inner h)))))

goes_on_from : (w : Switches) (t : List ℕ) (e : Refusal) → escape_refusal w (92 ∷ t) ≡ Some e → BeginsEscape w (92 ∷ t) → escape_goes_on w t ≡ true
goes_on_from w t e told (esc, [], same, h) = absurd (
    let whole : 92 ∷ t ≡ escape_text esc ++ [] = ap (λ l. 92 ∷ l) (sym (append-nil t)) ∙ same ∙ sym (append-nil (escape_text esc)) in
    let free : escape_refusal w (92 ∷ t) ≡ None = ap (escape_refusal w) whole ∙ refusal_escape w esc [] h in cc
    )
goes_on_from w t e told (esc, c ∷ x, same, h) = goes_on_of w t esc c x same h

not_zero : (b : Bool) (d : ℕ) → (b || not ((16 * d + 1) == 0)) ≡ true
not_zero b d = or_right b _ (grind (arith, nat_tests))

hex_completed : (w : Switches) (t : List ℕ) → hex_goes_on w t ≡ true → BeginsEscape w (92 ∷ 120 ∷ t)
hex_completed w [] h = (hex_escape 52 49, 52 ∷ 49 ∷ [], refl, and_from _ _ (and_from _ _ refl (or_right w.byte_escapes true refl)) (or_right w.allow_nul true refl))
hex_completed w (d ∷ []) h =
    let p = and_parts (is_ascii_hexdigit d) _ h in
    (hex_escape d 49, 49 ∷ [], refl, and_from _ _ (and_from _ _ (and_from _ _ p.0 refl) p.1) (not_zero w.allow_nul (digit_value d)))
hex_completed w (d ∷ l ∷ t) h = cc

braces_completed : (w : Switches) (t : List ℕ) → w.unicode ≡ true → braces_go_on w t ≡ true → BeginsEscape w (92 ∷ 117 ∷ t)
braces_completed w [] u h = let more = inner_begins w [] (and_from _ _ u refl) in (more.0, 123 ∷ more.1, more.2, more.3)
braces_completed w (c ∷ t) u h =
    let p = and_parts (c == 123) (inner_goes_on w t) h in
    subst (λ n. BeginsEscape w (92 ∷ 117 ∷ n ∷ t)) (sym (eqb-true c 123 p.0)) (inner_begins w t p.1)

completed : (w : Switches) (t : List ℕ) → escape_goes_on w t ≡ true → BeginsEscape w (92 ∷ t)
completed w [] h = (simple_escape 110, 110 ∷ [], refl, or_right w.allow_nul true refl)
completed w (c ∷ t) h = elim (or_cases _ ((c == 117) && (w.unicode && braces_go_on w t)) h) [
  | inl hex ↦ (let p = and_parts (c == 120) (hex_goes_on w t) hex in subst (λ n. BeginsEscape w (92 ∷ n ∷ t)) (sym (eqb-true c 120 p.0)) (hex_completed w t p.1))
  | inr uni ↦ (let p = and_parts (c == 117) _ uni in let q = and_parts w.unicode (braces_go_on w t) p.1 in
      subst (λ n. BeginsEscape w (92 ∷ n ∷ t)) (sym (eqb-true c 117 p.0)) (braces_completed w t q.0 q.1))
]

-- a refused escape is completed by some text if and only if its front is incomplete
pub refused_escape_begins : (w : Switches) (t : List ℕ) (e : Refusal) → escape_refusal w (92 ∷ t) ≡ Some e → BeginsEscape w (92 ∷ t) ↔ (escape_goes_on w t ≡ true)
refused_escape_begins w t e told = (goes_on_from w t e told, completed w t)

-- The laws

pub final_escape_refusals_stay : FinalEscapeRefusalsStay
final_escape_refusals_stay w t more r refused final = escape_final w t more r final refused

pub refused_escapes_go_on : RefusedEscapesGoOn
refused_escapes_go_on w t r refused = refused_escape_begins w t r refused
