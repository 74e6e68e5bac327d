-- Escapes at the front of a text.
use Rattle.std.proofs.Common.{◌≡◌, ℕ, ◌+◌, ◌<◌, Bool, true, false, not, ◌&&◌, ◌||◌, cond, ltb, leb, List, [], ◌∷◌, ◌++◌, length, Some, None, refl, sym, ap, ◌∙◌, subst, arith, inl, inr, ⊎_elim, append_assoc}
use Rattle.std.specs.Prelude.{◌==◌, if◌then◌else◌, count_by, take_while}
use Rattle.std.specs.Char.{is_ascii_hexdigit}
use Rattle.std.specs.List.{list_all, list_any, prefix_len, before_first}
use Rattle.std.proofs.lemmas.Bool.{and_parts, and_from, eqb-true, or_cases, and_cases, ltb-false, leb-true, le-ltb, le-leb, leb-false, or_right, and_left, both_ways, true≢false, false≢true}
use Rattle.std.proofs.lemmas.Bool.Decides.{nat_tests}
use Rattle.std.proofs.lemmas.List.Sums.{sum_by-take-le}
use Rattle.litrs_base.specs.Refusal.{Refusal}
use Rattle.litrs_base.specs.Text.{is_empty, byte_len, first_passes}
use Rattle.litrs_base.specs.declared.quotes.Switches.{Switches}
use Rattle.litrs_grammar.specs.Escape.{Escape, simple_escape, hex_escape, unicode_escape, escape_text, is_escape, is_simple, escape_refusal, hex_refusal, unicode_refusal, inner_refusal, allows_value, allows_byte, simple_value, pair_value, hex_value, has_two_bytes, is_hex_or_underscore}
use Rattle.litrs_base.specs.Characters.{is_scalar}
use Rattle.litrs_base.proofs.ByteLen.{byte_len_one_ascii}
use Rattle.litrs_base.proofs.Runs.{list_all-weaken}
use Rattle.litrs_base.proofs.ListTests.{none_if, none_unless, unless_none, take_while_all, take_while_whole, before_first-split, list_any-split, split_only, split_first, Splits}
use Rattle.litrs_base.proofs.Spans.{none_from}
use Rattle.litrs_grammar.specs.Laws.Escape.{BeginsWithEscape, EscapesAreDecided, EscapesAreUnique}

-- a fact about the seven simple escapes is one about each
pub by_simple : (P : ℕ → Type 0) (c : ℕ) → is_simple c ≡ true → P 39 → P 34 → P 110 → P 114 → P 116 → P 92 → P 48 → P c
by_simple P c h a b d e f g z =
    elim (or_cases _ (c == 48) h) [
      | inr r ↦ subst P (sym (eqb-true c 48 r)) z
      | inl h ↦
          elim (or_cases _ (c == 92) h) [
            | inr r ↦ subst P (sym (eqb-true c 92 r)) g
            | inl h ↦
                elim (or_cases _ (c == 116) h) [
                  | inr r ↦ subst P (sym (eqb-true c 116 r)) f
                  | inl h ↦
                      elim (or_cases _ (c == 114) h) [
                        | inr r ↦ subst P (sym (eqb-true c 114 r)) e
                        | inl h ↦
                            elim (or_cases _ (c == 110) h) [
                              | inr r ↦ subst P (sym (eqb-true c 110 r)) d
                              | inl h ↦
                                  elim (or_cases (c == 39) (c == 34) h) [ inr r ↦ subst P (sym (eqb-true c 34 r)) b | inl r ↦ subst P (sym (eqb-true c 39 r)) a ]
                            ]
                      ]
                ]
          ]
    ]

nul_refusal : (b : Bool) (x : Refusal) → (b || false) ≡ true → (if not b then Some x else None) ≡ None
nul_refusal true x h = refl
nul_refusal false x h = cc

pub refusal_simple : (w : Switches) (c : ℕ) (x : List ℕ) → is_simple c ≡ true → allows_value w (simple_value c) ≡ true → escape_refusal w (92 ∷ c ∷ x) ≡ None
unfolding escape_refusal
refusal_simple w c x h =
    by_simple (λ c. allows_value w (simple_value c) ≡ true → escape_refusal w (92 ∷ c ∷ x) ≡ None) c h
    (λ _. refl) (λ _. refl) (λ _. refl) (λ _. refl) (λ _. refl) (λ _. refl) (λ allowed. nul_refusal w.allow_nul _ allowed)

-- a hex digit or underscore is ASCII, and no closing brace
pub hex_or_underscore_ascii : (c : ℕ) → is_hex_or_underscore c ≡ true → c < 128
hex_or_underscore_ascii c h = grind (arith, nat_tests)

pub hexdigit_ascii : (c : ℕ) → is_ascii_hexdigit c ≡ true → c < 128
hexdigit_ascii c h = grind (arith, nat_tests)

pub not_brace : (c : ℕ) → is_hex_or_underscore c ≡ true → not (c == 125) ≡ true
not_brace c h = grind (arith, nat_tests)

pub hexdigit_no_underscore : (c : ℕ) → is_ascii_hexdigit c ≡ true → (c == 95) ≡ false
hexdigit_no_underscore c h = grind (arith, nat_tests)

-- two hex digits are two bytes
pub two_bytes : (c d : ℕ) (t : List ℕ) → is_ascii_hexdigit c ≡ true → is_ascii_hexdigit d ≡ true → has_two_bytes (c ∷ d ∷ t) ≡ true
two_bytes c d t h g =
    let e : byte_len (c ∷ d ∷ []) ≡ 2 =
    byte_len_one_ascii c (d ∷ []) (hexdigit_ascii c h) ∙ ap (λ n. 1 + n) (byte_len_one_ascii d [] (hexdigit_ascii d g)) in
    or_right _ _ (ap (λ n. n == 2) e)

pub refusal_hex : (w : Switches) (c d : ℕ) (x : List ℕ) → is_ascii_hexdigit c ≡ true → is_ascii_hexdigit d ≡ true →
    allows_byte w (pair_value c d) ≡ true → allows_value w (pair_value c d) ≡ true → escape_refusal w (92 ∷ 120 ∷ c ∷ d ∷ x) ≡ None
unfolding escape_refusal
refusal_hex w c d x h g b v = rw (two_bytes c d x h g, h, g, b, v) refl

-- a text that begins with a hex digit does not begin with an underscore
pub starts_inner : (inner : List ℕ) → first_passes is_ascii_hexdigit inner ≡ true → (is_empty inner || first_passes (λ c. c == 95) inner) ≡ false
starts_inner [] f = cc
starts_inner (c ∷ t) f = hexdigit_no_underscore c f

-- a character that is neither a hex digit nor an underscore, with at most six digits before it
abbrev pub has_stranger : List ℕ → Bool
has_stranger inner =
    ltb (length (take_while is_hex_or_underscore inner)) (length inner)
    && leb (count_by is_ascii_hexdigit (take_while is_hex_or_underscore inner)) 6

pub no_stranger : (inner : List ℕ) → list_all is_hex_or_underscore inner ≡ true → has_stranger inner ≡ false
no_stranger inner a =
    let e : length (take_while is_hex_or_underscore inner) ≡ length inner = ap length (take_while_all is_hex_or_underscore inner a) in
    and_left _ _ (le-ltb (length (take_while is_hex_or_underscore inner)) (length inner) (omega arith))

-- the text between the braces of an escape has no refusal
pub inner_none : (w : Switches) (inner : List ℕ) → first_passes is_ascii_hexdigit inner ≡ true → list_all is_hex_or_underscore inner ≡ true →
    leb (count_by is_ascii_hexdigit inner) 6 ≡ true → allows_value w (hex_value inner) ≡ true → is_scalar (hex_value inner) ≡ true → inner_refusal w inner ≡ None
inner_none w inner f a n v s =
    none_if _ _ _ (starts_inner inner f)
    (none_if _ _ _ (no_stranger inner a)
    (none_if _ _ _ (le-ltb _ _ (leb-true _ _ n))
    (none_unless _ _ _ v
    (none_unless _ _ _ s refl))))

-- the text after the opening brace
refusal_braced : (w : Switches) (inner x : List ℕ) → w.unicode ≡ true → list_all is_hex_or_underscore inner ≡ true → inner_refusal w inner ≡ None →
    unicode_refusal w (123 ∷ (inner ++ 125 ∷ x)) ≡ None
refusal_braced w inner x u a none =
    let open_inner : list_all (λ c. not (c == 125)) inner ≡ true = list_all-weaken _ _ not_brace inner a in
    none_unless _ _ _ u
    (none_unless _ _ _ (list_any-split (λ c. c == 125) inner 125 x refl)
    (subst (λ l. inner_refusal w l ≡ None) (sym (before_first-split (λ c. c == 125) inner 125 x open_inner refl)) none))

-- the text between the braces of an escape, test by test
pub record IsInner (w : Switches) (inner : List ℕ) : Type 0 where
  pub unicode : w.unicode ≡ true
  pub first : first_passes is_ascii_hexdigit inner ≡ true
  pub all : list_all is_hex_or_underscore inner ≡ true
  pub few : leb (count_by is_ascii_hexdigit inner) 6 ≡ true
  pub allowed : allows_value w (hex_value inner) ≡ true
  pub scalar : is_scalar (hex_value inner) ≡ true

pub inner_of : (w : Switches) (inner : List ℕ) → is_escape w (unicode_escape inner) ≡ true → IsInner w inner
inner_of w inner h =
    let a = and_parts _ (is_scalar (hex_value inner)) h in
    let b = and_parts _ (allows_value w (hex_value inner)) a.0 in
    let c = and_parts _ (leb (count_by is_ascii_hexdigit inner) 6) b.0 in
    let d = and_parts _ (list_all is_hex_or_underscore inner) c.0 in
    let e = and_parts w.unicode (first_passes is_ascii_hexdigit inner) d.0 in
    record { unicode = e.0; first = e.1; all = d.1; few = c.1; allowed = b.1; scalar = a.1 }

pub refusal_unicode : (w : Switches) (inner x : List ℕ) → is_escape w (unicode_escape inner) ≡ true →
    escape_refusal w (92 ∷ 117 ∷ 123 ∷ (inner ++ 125 ∷ x)) ≡ None
unfolding escape_refusal
refusal_unicode w inner x h =
    let is = inner_of w inner h in
    refusal_braced w inner x is.unicode is.all (inner_none w inner is.first is.all is.few is.allowed is.scalar)

-- an escape at the front of a text
pub refusal_escape : (w : Switches) (e : Escape) (x : List ℕ) → is_escape w e ≡ true → escape_refusal w (escape_text e ++ x) ≡ None
refusal_escape w (simple_escape c) x h = let p = and_parts (is_simple c) _ h in refusal_simple w c x p.0 p.1
refusal_escape w (hex_escape c d) x h =
    let p = and_parts _ (allows_value w (pair_value c d)) h in
    let q = and_parts _ (allows_byte w (pair_value c d)) p.0 in
    let r = and_parts (is_ascii_hexdigit c) (is_ascii_hexdigit d) q.0 in
    refusal_hex w c d x r.0 r.1 q.1 p.1
refusal_escape w (unicode_escape inner) x h =
    subst (λ l. escape_refusal w (92 ∷ 117 ∷ 123 ∷ l) ≡ None) (sym (append_assoc inner (125 ∷ []) x)) (refusal_unicode w inner x h)

-- If the table has no row, the text begins with an escape.
pub record HasEscape (w : Switches) (t : List ℕ) (e : Escape) (rest : List ℕ) : Type 0 where
  pub spells : escape_text e ++ rest ≡ t
  pub grammar : is_escape w e ≡ true

abbrev pub SomeEscape : Switches → List ℕ → Type 0
SomeEscape w t = (e : Escape) × (rest : List ℕ) × HasEscape w t e rest

-- the digits of a text without a stranger
pub no_stranger_all : (inner : List ℕ) → has_stranger inner ≡ false → ltb 6 (count_by is_ascii_hexdigit inner) ≡ false → list_all is_hex_or_underscore inner ≡ true
no_stranger_all inner h n =
    take_while_whole is_hex_or_underscore inner
    (⊎_elim (λ e. ltb-false _ _ e)
    (λ e. absurd (let few = leb-false (count_by is_ascii_hexdigit (take_while is_hex_or_underscore inner)) 6 e in
    let within = sum_by-take-le (λ c. cond (is_ascii_hexdigit c) 1 0) inner (prefix_len is_hex_or_underscore inner) in
    let all = ltb-false 6 (count_by is_ascii_hexdigit inner) n in omega arith))
    (and_cases _ _ h))

first_inner : (inner : List ℕ) → (is_empty inner || first_passes (λ c. c == 95) inner) ≡ false → list_all is_hex_or_underscore inner ≡ true →
    first_passes is_ascii_hexdigit inner ≡ true
first_inner [] h a = cc
first_inner (c ∷ t) h a =
    let p = and_parts (is_hex_or_underscore c) _ a in
    ⊎_elim (λ e. e) (λ e. absurd (both_ways (c == 95) h e)) (or_cases (is_ascii_hexdigit c) (c == 95) p.0)

inner_escape : (w : Switches) (inner : List ℕ) → w.unicode ≡ true → inner_refusal w inner ≡ None → is_escape w (unicode_escape inner) ≡ true
inner_escape w inner u h =
    let a = none_from _ _ _ h in
    let b = none_from _ _ _ a.1 in
    let c = none_from _ _ _ b.1 in
    let d = unless_none _ _ _ c.1 in
    let e = unless_none _ _ _ d.1 in
    let all = no_stranger_all inner b.0 c.0 in
    and_from _ _ (and_from _ _ (and_from _ _ (and_from _ _ (and_from _ _ u (first_inner inner a.0 all)) all) (le-leb _ _ (ltb-false _ _ c.0))) d.0) e.0

read_hex : (w : Switches) (t : List ℕ) → hex_refusal w t ≡ None → SomeEscape w (92 ∷ 120 ∷ t)
read_hex w [] h = cc
read_hex w (c ∷ []) h =
    let a = unless_none _ _ _ h in
    let b = unless_none _ _ _ a.1 in
    let low = and_parts (is_ascii_hexdigit c) _ b.0 in
    absurd (true≢false (sym low.1))
read_hex w (c ∷ d ∷ r) h =
    let a = unless_none (has_two_bytes (c ∷ d ∷ r)) _ _ h in
    let b = unless_none (is_ascii_hexdigit c && is_ascii_hexdigit d) _ _ a.1 in
    let e = unless_none (allows_byte w (pair_value c d)) _ _ b.1 in
    let f = unless_none (allows_value w (pair_value c d)) _ None e.1 in
    (hex_escape c d, r, record { spells = refl; grammar = and_from _ _ (and_from _ _ b.0 e.0) f.0 })

at_brace : (w : Switches) (r : List ℕ) → w.unicode ≡ true → Splits (λ c. c == 125) r → inner_refusal w (before_first (λ c. c == 125) r) ≡ None →
    SomeEscape w (92 ∷ 117 ∷ 123 ∷ r)
at_brace w r u (xs, c, ys, s) h =
    let brace : c ≡ 125 = eqb-true c 125 s.passes in
    let inner : before_first (λ c. c == 125) r ≡ xs =
    subst (λ l. before_first (λ c. c == 125) l ≡ xs) s.spells (before_first-split (λ c. c == 125) xs c ys s.before s.passes) in (
      unicode_escape xs,
      ys,
      record {
        spells = ap (λ l. 92 ∷ 117 ∷ 123 ∷ l) (append_assoc xs (125 ∷ []) ys ∙ ap (λ d. xs ++ d ∷ ys) (sym brace) ∙ s.spells);
        grammar = inner_escape w xs u (subst (λ l. inner_refusal w l ≡ None) inner h);
      },
    )

read_unicode : (w : Switches) (t : List ℕ) → unicode_refusal w t ≡ None → SomeEscape w (92 ∷ 117 ∷ t)
read_unicode w [] h = let a = unless_none _ _ _ h in absurd (brace a.1)
  where
    brace : {x : Refusal} → Some x ≡ None → ⊥
    brace h = cc
read_unicode w (c ∷ r) h =
    let a = unless_none _ _ _ h in
    let b = unless_none _ _ _ a.1 in
    let d = unless_none _ _ _ b.1 in
    let brace : c ≡ 123 = eqb-true c 123 b.0 in
    let any : list_any (λ c. c == 125) r ≡ true = subst (λ n. ((n == 125) || list_any (λ c. c == 125) r) ≡ true) brace d.0 in
    subst (λ n. SomeEscape w (92 ∷ 117 ∷ n ∷ r)) (sym brace) (at_brace w r a.0 (split_first _ r any) d.1)

read_simple : (w : Switches) (c : ℕ) (t : List ℕ) → is_simple c ≡ true → ((c == 48) && not w.allow_nul) ≡ false → SomeEscape w (92 ∷ c ∷ t)
read_simple w c t h n =
    (simple_escape c, t, record { spells = refl; grammar = and_from _ _ h (allowed n) })
  where
    keeps : (b : Bool) → not b ≡ false → (b || false) ≡ true
    keeps true e = refl
    keeps false e = cc

    allowed : ((c == 48) && not w.allow_nul) ≡ false → allows_value w (simple_value c) ≡ true
    allowed = by_simple (λ c. ((c == 48) && not w.allow_nul) ≡ false → allows_value w (simple_value c) ≡ true) c h
        (λ _. or_right _ _ refl) (λ _. or_right _ _ refl) (λ _. or_right _ _ refl) (λ _. or_right _ _ refl) (λ _. or_right _ _ refl) (λ _. or_right _ _ refl)
        (λ e. keeps w.allow_nul e)

-- by the letter after the backslash
read_letter : (w : Switches) (c : ℕ) (t : List ℕ) (x u : Bool) → (c == 120) ≡ x → (c == 117) ≡ u → ((c == 48) && not w.allow_nul) ≡ false → (e : Refusal) →
    (if x then hex_refusal w t else if u then unicode_refusal w t else if is_simple c then None else Some e) ≡ None → SomeEscape w (92 ∷ c ∷ t)
read_letter w c t true u x_is u_is n e h = subst (λ d. SomeEscape w (92 ∷ d ∷ t)) (sym (eqb-true c 120 x_is)) (read_hex w t h)
read_letter w c t false true x_is u_is n e h = subst (λ d. SomeEscape w (92 ∷ d ∷ t)) (sym (eqb-true c 117 u_is)) (read_unicode w t h)
read_letter w c t false false x_is u_is n e h = read_simple w c t (simple (is_simple c) h) n
  where
    simple : (b : Bool) → (if b then None else Some e) ≡ None → b ≡ true
    simple true h = refl
    simple false h = cc

pub read_escape : (w : Switches) (t : List ℕ) → escape_refusal w (92 ∷ t) ≡ None → SomeEscape w (92 ∷ t)
unfolding escape_refusal
read_escape w [] h = cc
read_escape w (c ∷ t) h =
    let a = none_from ((c == 48) && not w.allow_nul) _ _ h in
    read_letter w c t (c == 120) (c == 117) refl refl a.0 _ a.1

-- an escape does not contain a closing brace between its braces
pub unicode_parts : (w : Switches) (inner : List ℕ) → is_escape w (unicode_escape inner) ≡ true → list_all (λ c. not (c == 125)) inner ≡ true
unicode_parts w inner h = list_all-weaken _ _ not_brace inner (inner_of w inner h).all

second_same : (c d : ℕ) (x y : List ℕ) → 92 ∷ c ∷ x ≡ 92 ∷ d ∷ y → c ≡ d
second_same c d x y same = cc

-- a text begins with at most one escape
pub same_escape : (w : Switches) (e f : Escape) (x y : List ℕ) → is_escape w e ≡ true → is_escape w f ≡ true →
    escape_text e ++ x ≡ escape_text f ++ y → (e ≡ f) × (x ≡ y)
same_escape w (simple_escape c) (simple_escape d) x y h g same = (cc, cc)
same_escape w (simple_escape c) (hex_escape d1 d2) x y h g same =
    let at : c ≡ 120 = cc in let simple = and_parts (is_simple c) _ h in absurd (true≢false (sym (rw at at simple.0)))
same_escape w (simple_escape c) (unicode_escape inner) x y h g same =
    let at : c ≡ 117 = cc in let simple = and_parts (is_simple c) _ h in absurd (true≢false (sym (rw at at simple.0)))
same_escape w (hex_escape c1 c2) (simple_escape d) x y h g same =
    let at : d ≡ 120 = cc in let simple = and_parts (is_simple d) _ g in absurd (true≢false (sym (rw at at simple.0)))
same_escape w (hex_escape c1 c2) (hex_escape d1 d2) x y h g same = (cc, cc)
same_escape w (hex_escape c1 c2) (unicode_escape inner) x y h g same = absurd (false≢true (ap (λ n. n == 117) (second_same 120 117 _ _ same)))
same_escape w (unicode_escape inner) (simple_escape d) x y h g same =
    let at : d ≡ 117 = cc in let simple = and_parts (is_simple d) _ g in absurd (true≢false (sym (rw at at simple.0)))
same_escape w (unicode_escape inner) (hex_escape d1 d2) x y h g same = absurd (false≢true (ap (λ n. n == 120) (second_same 117 120 _ _ same)))
same_escape w (unicode_escape inner) (unicode_escape other) x y h g same =
    let parts = unicode_parts w inner h in
    let others = unicode_parts w other g in
    let tails : (inner ++ 125 ∷ []) ++ x ≡ (other ++ 125 ∷ []) ++ y = cc in
    let tails' : inner ++ 125 ∷ x ≡ other ++ 125 ∷ y = sym (append_assoc inner (125 ∷ []) x) ∙ tails ∙ append_assoc other (125 ∷ []) y in
    let both = split_only (λ c. c == 125) inner other 125 125 x y parts others refl refl tails' in
    (ap unicode_escape both.0, both.1)

-- The laws

pub escapes_are_unique : EscapesAreUnique
escapes_are_unique w e f x y h g same = same_escape w e f x y h g same

pub escapes_are_decided : EscapesAreDecided
escapes_are_decided w t = (read, refused_none)
  where
    read : escape_refusal w (92 ∷ t) ≡ None → BeginsWithEscape w (92 ∷ t)
    read h = let found = read_escape w t h in (found.0, found.1, found.2.spells, found.2.grammar)

    refused_none : BeginsWithEscape w (92 ∷ t) → escape_refusal w (92 ∷ t) ≡ None
    refused_none (e, rest, spells, grammar) = subst (λ l. escape_refusal w l ≡ None) spells (refusal_escape w e rest grammar)
