-- The class of the token at the front of a text, which its first characters decide: a number for its kind.
use Rattle.std.proofs.Common.{◌≡◌, ◌⊎◌, inl, inr, ℕ, ◌<◌, Bool, true, false, not, ◌&&◌, ◌||◌, List, [], ◌∷◌, refl, sym, ap, subst, ◌∙◌, arith}
use Rattle.std.specs.Prelude.{if◌then◌else◌, ◌==◌, nat_le}
use Rattle.std.specs.Char.{is_ascii_digit, is_ascii_alphabetic}
use Rattle.std.proofs.lemmas.Bool.{and_parts, and_from, or_cases, not-true, true≢false, false≢true, eqb-true, false_from_ne_true, agree_below, agree_below_at}
use Rattle.std.proofs.lemmas.Bool.Decides.{nat_tests}
use Rattle.unicode_ident.specs.Ident.{is_xid_continue}
use Rattle.unicode_ident.proofs.IdentLemmas.{is_xid_start-ascii, is_xid_continue-ascii}
use Rattle.unicode_ident.proofs.Computing.{unicode_ident}
use Rattle.litrs_base.specs.Text.{first_passes}
use Rattle.litrs_grammar.specs.Bool.{is_bool}
use Rattle.litrs_grammar.specs.Raw.{is_quote}
use Rattle.litrs_grammar.specs.Suffix.{starts_identifier}
use Rattle.litrs_grammar.proofs.SuffixStart.{starts_ascii}
use Rattle.litrs_base.proofs.ListTests.{if_true}
use Rattle.litrs_prefix.specs.Opens.{first_name, after_name, after_run, after_hashes, is_single_quote, begins_with_lifetime, opens_raw, opens_bytes, opens_c_string, opens}
use Rattle.litrs_prefix.specs.Prefix.{is_quote_or_hash}
use Rattle.litrs_lexer.specs.Identifier.{begins_name, begins_raw_name}
use Rattle.litrs_lexer.specs.Lifetime.{is_hash}
use Rattle.litrs_lexer.specs.Literal.{opens_quoted}
use Rattle.litrs_lexer.specs.Punctuation.{is_punctuation}
use Rattle.litrs_lexer.specs.Whitespace.{is_white_space}

-- after a name: 12 a raw identifier, 17 a literal, 13 a prefix, 11 an identifier
abbrev pub name_class : (marked raw quoted bool : Bool) → ℕ
name_class marked raw quoted bool =
    if marked then (if raw then 12 else (if quoted then 17 else 13)) else (if bool then 17 else 11)

-- after `'`
abbrev pub quote_class : (named quote hash raw : Bool) → ℕ
quote_class named quote hash raw =
    if named then (if quote then 17 else (if hash then (if raw then 15 else 16) else 14)) else 17

-- after `/`
abbrev pub slash_class : List ℕ → ℕ
slash_class [] = 19
slash_class (c ∷ t) = if c == 47 then 2 else if c == 42 then 5 else 19

abbrev pub other_class : (white digit quote single slash punctuation : Bool) (t : List ℕ) → ℕ
other_class white digit quote single slash punctuation t =
    if white then 1 else if digit then 17 else if quote then 17
    else if single then quote_class (begins_name t) (first_passes is_single_quote (after_name t)) (first_passes is_hash (after_name t)) (begins_raw_name t)
    else if slash then slash_class t else if punctuation then 19 else 20

abbrev pub class : List ℕ → ℕ
class [] = 0
class (c ∷ t) =
    if starts_identifier c
    then name_class (first_passes is_quote_or_hash (after_name (c ∷ t))) (begins_raw_name (c ∷ t)) (opens_quoted (c ∷ t)) (is_bool (first_name (c ∷ t)))
    else other_class (is_white_space c) (is_ascii_digit c) (c == 34) (c == 39) (c == 47) (is_punctuation c) t

-- characters that do not begin a name

pub both_no : (b : Bool) → b ≡ true → b ≡ false → ⊥
both_no b h g = true≢false (sym h ∙ g)

no_letter : (q : ℕ → Bool) (c : ℕ) → agree_below (λ x. (is_ascii_alphabetic x || (x == 95)) && q x) (λ x. false) 128 ≡ true → c < 128 → q c ≡ true → starts_identifier c ≡ false
no_letter q c table low h = false_from_ne_true (starts_identifier c) (λ e.
    both_no ((is_ascii_alphabetic c || (c == 95)) && q c) (and_from _ _ (starts_ascii c low e) h) (agree_below_at (λ x. (is_ascii_alphabetic x || (x == 95)) && q x) (λ x. false) 128 c table low))

pub digit_starts_none : (c : ℕ) → is_ascii_digit c ≡ true → starts_identifier c ≡ false
digit_starts_none c h = let low : c < 128 = grind (arith, nat_tests) in no_letter is_ascii_digit c refl low h

pub punctuation_starts_none : (c : ℕ) → is_punctuation c ≡ true → starts_identifier c ≡ false
punctuation_starts_none c h = let low : c < 128 = grind (arith, nat_tests) in no_letter is_punctuation c refl low h

pub quote_starts_none : starts_identifier 34 ≡ false
quote_starts_none = is_xid_start-ascii 34 (omega arith)

pub single_starts_none : starts_identifier 39 ≡ false
single_starts_none = is_xid_start-ascii 39 (omega arith)

pub hash_starts_none : starts_identifier 35 ≡ false
hash_starts_none = is_xid_start-ascii 35 (omega arith)

pub slash_starts_none : starts_identifier 47 ≡ false
slash_starts_none = is_xid_start-ascii 47 (omega arith)

wide_starts : (starts_identifier 133 ≡ false) × (starts_identifier 8206 ≡ false) × (starts_identifier 8207 ≡ false) × (starts_identifier 8232 ≡ false) × (starts_identifier 8233 ≡ false)
unfolding unicode_ident
wide_starts = (refl, refl, refl, refl, refl)

at_value : (c n : ℕ) → (c == n) ≡ true → starts_identifier n ≡ false → starts_identifier c ≡ false
at_value c n e h = ap starts_identifier (eqb-true c n e) ∙ h

white_six : (a b d e f g h : Bool) → (a || b || d || e || f || g || h) ≡ true → ((a || b) ≡ true) ⊎ ((d ≡ true) ⊎ ((e ≡ true) ⊎ ((f ≡ true) ⊎ ((g ≡ true) ⊎ (h ≡ true)))))
white_six true b d e f g h is = inl refl
white_six false true d e f g h is = inl refl
white_six false false true e f g h is = inr (inl refl)
white_six false false false true f g h is = inr (inr (inl refl))
white_six false false false false true g h is = inr (inr (inr (inl refl)))
white_six false false false false false true h is = inr (inr (inr (inr (inl refl))))
white_six false false false false false false h is = inr (inr (inr (inr (inr is))))

ascii_white_starts_none : (c : ℕ) → ((c == 32) || (nat_le 9 c && nat_le c 13)) ≡ true → starts_identifier c ≡ false
ascii_white_starts_none c h = let low : c < 128 = grind (arith, nat_tests) in no_letter (λ x. (x == 32) || (nat_le 9 x && nat_le x 13)) c refl low h

pub white_starts_none : (c : ℕ) → is_white_space c ≡ true → starts_identifier c ≡ false
white_starts_none c h = elim (white_six (c == 32) (nat_le 9 c && nat_le c 13) (c == 133) (c == 8206) (c == 8207) (c == 8232) (c == 8233) h) [
  | inl low ↦ ascii_white_starts_none c low
  | inr (inl e) ↦ at_value c 133 e wide_starts.0
  | inr (inr (inl e)) ↦ at_value c 8206 e wide_starts.1
  | inr (inr (inr (inl e))) ↦ at_value c 8207 e wide_starts.2
  | inr (inr (inr (inr (inl e)))) ↦ at_value c 8232 e wide_starts.3
  | inr (inr (inr (inr (inr e)))) ↦ at_value c 8233 e wide_starts.4
]

-- openings of literals that are not bools

abbrev Opening : ℕ → List ℕ → Type 0
Opening c t =
    (is_ascii_digit c ≡ true) ⊎ (((c == 34) ≡ true) ⊎ ((((c == 39) && not (begins_with_lifetime t)) ≡ true)
    ⊎ ((((c == 114) && opens_raw t) ≡ true) ⊎ ((((c == 98) && opens_bytes t) ≡ true) ⊎ (((c == 99) && opens_c_string t) ≡ true)))))

seven : (a b d e f g x : Bool) → (a || b || d || e || f || g || x) ≡ true → x ≡ false →
    (a ≡ true) ⊎ ((b ≡ true) ⊎ ((d ≡ true) ⊎ ((e ≡ true) ⊎ ((f ≡ true) ⊎ (g ≡ true)))))
seven true b d e f g x h k = inl refl
seven false true d e f g x h k = inr (inl refl)
seven false false true e f g x h k = inr (inr (inl refl))
seven false false false true f g x h k = inr (inr (inr (inl refl)))
seven false false false false true g x h k = inr (inr (inr (inr (inl refl))))
seven false false false false false true x h k = inr (inr (inr (inr (inr refl))))
seven false false false false false false x h k = absurd (both_no x h k)

opening : (c : ℕ) (t : List ℕ) → opens (c ∷ t) ≡ true → is_bool (first_name (c ∷ t)) ≡ false → Opening c t
opening c t h k =
    seven (is_ascii_digit c) (c == 34) ((c == 39) && not (begins_with_lifetime t)) ((c == 114) && opens_raw t) ((c == 98) && opens_bytes t) ((c == 99) && opens_c_string t)
    (is_bool (first_name (c ∷ t))) h k

-- a quote or a hash follows the name

stop_at : (d : ℕ) (u : List ℕ) → is_xid_continue d ≡ false → is_quote_or_hash d ≡ true → first_passes is_quote_or_hash (after_run (d ∷ u)) ≡ true
stop_at d u stops is = rw stops is

quote_stop : (d : ℕ) (u : List ℕ) → (d == 34) ≡ true → first_passes is_quote_or_hash (after_run (d ∷ u)) ≡ true
quote_stop d u e = let is = eqb-true d 34 e in
    stop_at d u (ap is_xid_continue is ∙ is_xid_continue-ascii 34 (omega arith)) (ap is_quote_or_hash is)

single_stop : (d : ℕ) (u : List ℕ) → (d == 39) ≡ true → first_passes is_quote_or_hash (after_run (d ∷ u)) ≡ true
single_stop d u e = let is = eqb-true d 39 e in
    stop_at d u (ap is_xid_continue is ∙ is_xid_continue-ascii 39 (omega arith)) (ap is_quote_or_hash is)

hash_stop : (d : ℕ) (u : List ℕ) → (d == 35) ≡ true → first_passes is_quote_or_hash (after_run (d ∷ u)) ≡ true
hash_stop d u e = let is = eqb-true d 35 e in
    stop_at d u (ap is_xid_continue is ∙ is_xid_continue-ascii 35 (omega arith)) (ap is_quote_or_hash is)

raw_mark : (t : List ℕ) → opens_raw t ≡ true → first_passes is_quote_or_hash (after_run t) ≡ true
raw_mark [] h = absurd (false≢true h)
raw_mark (d ∷ u) h = go (d == 35) refl h
  where
    go : (b : Bool) → (d == 35) ≡ b → first_passes is_quote (if b then after_hashes u else (d ∷ u)) ≡ true → first_passes is_quote_or_hash (after_run (d ∷ u)) ≡ true
    go true e h = hash_stop d u e
    go false e h = quote_stop d u h

r_goes_on : (d : ℕ) (u : List ℕ) → (d == 114) ≡ true → after_run (d ∷ u) ≡ after_run u
r_goes_on d u e = if_true (is_xid_continue d) (after_run u) (d ∷ u) (ap is_xid_continue (eqb-true d 114 e) ∙ is_xid_continue-ascii 114 (omega arith))

then_raw : (d : ℕ) (u : List ℕ) → ((d == 114) && opens_raw u) ≡ true → first_passes is_quote_or_hash (after_run (d ∷ u)) ≡ true
then_raw d u h =
    let p = and_parts (d == 114) (opens_raw u) h in
    ap (first_passes is_quote_or_hash) (r_goes_on d u p.0) ∙ raw_mark u p.1

three : (a b d : Bool) → (a || b || d) ≡ true → (a ≡ true) ⊎ ((b ≡ true) ⊎ (d ≡ true))
three true b d h = inl refl
three false true d h = inr (inl refl)
three false false d h = inr (inr h)

bytes_mark : (t : List ℕ) → opens_bytes t ≡ true → first_passes is_quote_or_hash (after_run t) ≡ true
bytes_mark [] h = absurd (false≢true h)
bytes_mark (d ∷ u) h = elim (three (d == 39) (d == 34) ((d == 114) && opens_raw u) h) [
  | inl e ↦ single_stop d u e
  | inr (inl e) ↦ quote_stop d u e
  | inr (inr e) ↦ then_raw d u e
]

c_mark : (t : List ℕ) → opens_c_string t ≡ true → first_passes is_quote_or_hash (after_run t) ≡ true
c_mark [] h = absurd (false≢true h)
c_mark (d ∷ u) h = elim (or_cases (d == 34) ((d == 114) && opens_raw u) h) [ inl e ↦ quote_stop d u e | inr e ↦ then_raw d u e ]

opens_mark : (c : ℕ) (t : List ℕ) → starts_identifier c ≡ true → Opening c t → first_passes is_quote_or_hash (after_name (c ∷ t)) ≡ true
opens_mark c t name how =
    let after : after_name (c ∷ t) ≡ after_run t = if_true (starts_identifier c) (after_run t) (c ∷ t) name in
    ap (first_passes is_quote_or_hash) after ∙ elim how [
      | inl e ↦ absurd (both_no (starts_identifier c) name (digit_starts_none c e))
      | inr (inl e) ↦ absurd (both_no (starts_identifier c) name (at_value c 34 e quote_starts_none))
      | inr (inr (inl e)) ↦ absurd (both_no (starts_identifier c) name (at_value c 39 (and_parts _ _ e).0 single_starts_none))
      | inr (inr (inr (inl e))) ↦ raw_mark t (and_parts _ _ e).1
      | inr (inr (inr (inr (inl e)))) ↦ bytes_mark t (and_parts _ _ e).1
      | inr (inr (inr (inr (inr e)))) ↦ c_mark t (and_parts _ _ e).1
    ]

-- a raw identifier does not begin a literal

name_no_raw : (t : List ℕ) → begins_name t ≡ true → opens_raw t ≡ false
name_no_raw [] h = absurd (false≢true h)
name_no_raw (x ∷ v) h = go (x == 35) refl
  where
    go : (b : Bool) → (x == 35) ≡ b → first_passes is_quote (if b then after_hashes v else (x ∷ v)) ≡ false
    go true e = absurd (both_no (starts_identifier x) h (at_value x 35 e hash_starts_none))
    go false e = false_from_ne_true (x == 34) (λ q. both_no (starts_identifier x) h (at_value x 34 q quote_starts_none))

raw_parts : (c d : ℕ) (t : List ℕ) → begins_raw_name (c ∷ d ∷ t) ≡ true → (c ≡ 114) × (d ≡ 35) × (begins_name t ≡ true)
raw_parts c d t h = go (c == 114) (d == 35) refl refl h
  where
    go : (a b : Bool) → (c == 114) ≡ a → (d == 35) ≡ b → (a && b && begins_name t) ≡ true → (c ≡ 114) × (d ≡ 35) × (begins_name t ≡ true)
    go true true e f h = (eqb-true c 114 e, eqb-true d 35 f, h)
    go true false e f h = absurd (false≢true h)
    go false b e f h = absurd (false≢true h)

raw_opens_none : (c d : ℕ) (t : List ℕ) → c ≡ 114 → d ≡ 35 → begins_name t ≡ true → Opening c (d ∷ t) → ⊥
raw_opens_none c d t e f name how =
    let at : Opening 114 (35 ∷ t) = subst (λ (x : ℕ). Opening x (35 ∷ t)) e (subst (λ (y : ℕ). Opening c (y ∷ t)) f how) in
    elim at [
      | inl h ↦ false≢true h
      | inr (inl h) ↦ false≢true h
      | inr (inr (inl h)) ↦ false≢true h
      | inr (inr (inr (inl h))) ↦ both_no (opens_raw t) h (name_no_raw t name)
      | inr (inr (inr (inr (inl h)))) ↦ false≢true h
      | inr (inr (inr (inr (inr h)))) ↦ false≢true h
    ]

opens_not_raw : (c : ℕ) (t : List ℕ) → Opening c t → begins_raw_name (c ∷ t) ≡ false
opens_not_raw c [] how = refl
opens_not_raw c (d ∷ t) how = false_from_ne_true (begins_raw_name (c ∷ d ∷ t)) (λ h. let p = raw_parts c d t h in raw_opens_none c d t p.0 p.1 p.2 how)

-- the class of a text that begins with a name

pub name_at : (c : ℕ) (t : List ℕ) (m r q b : Bool) → starts_identifier c ≡ true → first_passes is_quote_or_hash (after_name (c ∷ t)) ≡ m → begins_raw_name (c ∷ t) ≡ r →
    opens_quoted (c ∷ t) ≡ q → is_bool (first_name (c ∷ t)) ≡ b → class (c ∷ t) ≡ name_class m r q b
name_at c t m r q b name hm hr hq hb =
    if_true (starts_identifier c) (name_class (first_passes is_quote_or_hash (after_name (c ∷ t))) (begins_raw_name (c ∷ t)) (opens_quoted (c ∷ t)) (is_bool (first_name (c ∷ t))))
    (other_class (is_white_space c) (is_ascii_digit c) (c == 34) (c == 39) (c == 47) (is_punctuation c) t) name
    ∙ (λ i. name_class (hm i) (hr i) (hq i) (hb i))

-- the class of what opens

pub no_start : (c : ℕ) (t : List ℕ) → starts_identifier c ≡ false → class (c ∷ t) ≡ other_class (is_white_space c) (is_ascii_digit c) (c == 34) (c == 39) (c == 47) (is_punctuation c) t
no_start c t h = rw h refl

single_class : (a b h r : Bool) → not (a && not b) ≡ true → quote_class a b h r ≡ 17
single_class true true h r e = refl
single_class true false h r e = absurd (false≢true e)
single_class false b h r e = refl

other_opens : (c : ℕ) (t : List ℕ) → starts_identifier c ≡ false → Opening c t → other_class (is_white_space c) (is_ascii_digit c) (c == 34) (c == 39) (c == 47) (is_punctuation c) t ≡ 17
other_opens c t none how = elim how [
  | inl e ↦ (let white : is_white_space c ≡ false = grind (arith, nat_tests) in rw white (rw e refl))
  | inr (inl e) ↦ subst (λ (x : ℕ). other_class (is_white_space x) (is_ascii_digit x) (x == 34) (x == 39) (x == 47) (is_punctuation x) t ≡ 17) (sym (eqb-true c 34 e)) refl
  | inr (inr (inl e)) ↦ (let p = and_parts (c == 39) (not (begins_with_lifetime t)) e in
      subst (λ (x : ℕ). other_class (is_white_space x) (is_ascii_digit x) (x == 34) (x == 39) (x == 47) (is_punctuation x) t ≡ 17) (sym (eqb-true c 39 p.0))
      (single_class (begins_name t) (first_passes is_single_quote (after_name t)) (first_passes is_hash (after_name t)) (begins_raw_name t) p.1))
  | inr (inr (inr (inl e))) ↦ absurd (both_no (starts_identifier c) (ap starts_identifier (eqb-true c 114 (and_parts _ _ e).0) ∙ is_xid_start-ascii 114 (omega arith)) none)
  | inr (inr (inr (inr (inl e)))) ↦ absurd (both_no (starts_identifier c) (ap starts_identifier (eqb-true c 98 (and_parts _ _ e).0) ∙ is_xid_start-ascii 98 (omega arith)) none)
  | inr (inr (inr (inr (inr e)))) ↦ absurd (both_no (starts_identifier c) (ap starts_identifier (eqb-true c 99 (and_parts _ _ e).0) ∙ is_xid_start-ascii 99 (omega arith)) none)
]

pub quoted_class : (t : List ℕ) → opens_quoted t ≡ true → class t ≡ 17
quoted_class [] h = absurd (false≢true h)
quoted_class (c ∷ t) h =
    let both = and_parts (opens (c ∷ t)) (not (is_bool (first_name (c ∷ t)))) h in
    let how = opening c t both.0 (not-true (is_bool (first_name (c ∷ t))) both.1) in
    go (starts_identifier c) refl how
  where
    go : (b : Bool) → starts_identifier c ≡ b → Opening c t → class (c ∷ t) ≡ 17
    go true e how = name_at c t true false true (is_bool (first_name (c ∷ t))) e (opens_mark c t e how) (opens_not_raw c t how) h refl
    go false e how = no_start c t e ∙ other_opens c t e how
