-- Quoted bodies: the items of a text, and what follows them.
use Rattle.std.proofs.Common.{◌≡◌, ℕ, ◌+◌, ◌<◌, Bool, true, false, not, ◌&&◌, zero, suc, List, [], ◌∷◌, ◌++◌, length, Option, Some, None, refl, sym, ap, ◌∙◌, subst, arith, ◌⊎◌, inl, inr, append_assoc, length-append}
use Rattle.std.specs.Prelude.{◌==◌, if◌then◌else◌}
use Rattle.std.specs.List.{list_all}
use Rattle.std.proofs.lemmas.Bool.{and_parts, and_from, not-true, not-false, eqb-true, both_ways, true≢false, and_left, and_right, not_from_false, eq-eqb}
use Rattle.litrs_base.specs.Refusal.{Refusal, without_span}
use Rattle.litrs_base.specs.declared.err.ParseErrorKind.TheVariants.{UnterminatedString}
use Rattle.litrs_base.specs.Characters.{is_blank, fits_charset}
use Rattle.litrs_base.proofs.Runs.{last_passes, is_line_feed, last_passes-append, line_feed_last}
use Rattle.litrs_grammar.proofs.SuffixStart.{suffix_last}
use Rattle.litrs_grammar.specs.Suffix.{is_suffix}
use Rattle.litrs_base.specs.Text.{is_empty, first_passes}
use Rattle.litrs_base.specs.declared.quotes.Switches.{Switches}
use Rattle.litrs_grammar.specs.Escape.{Escape, simple_escape, hex_escape, unicode_escape, escape_text, is_escape, is_simple, escape_refusal, allows_value}
use Rattle.litrs_grammar.specs.Quoted.{Item, plain_item, escape_item, continuation, item_text, is_item, is_plain, body_text, is_body, takes_all_blanks, is_complete_before, is_item_list, without_last, backslash_refusal, item_refusal}
use Rattle.litrs_base.proofs.ListTests.{unless_none, none_if, none_unless, if_true, if_false}
use Rattle.litrs_base.proofs.Spans.{none_from}
use Rattle.litrs_grammar.proofs.Laws.Escape.{same_escape, refusal_escape, read_escape}

-- an escape begins with a backslash, and no LF follows it
pub escape_head : (e : Escape) (x : List ℕ) → (c : ℕ) × (t : List ℕ) × (escape_text e ++ x ≡ 92 ∷ c ∷ t)
escape_head (simple_escape c) x = (c, x, refl)
escape_head (hex_escape c d) x = (120, c ∷ d ∷ x, refl)
escape_head (unicode_escape inner) x = (117, 123 ∷ ((inner ++ 125 ∷ []) ++ x), refl)

pub escape_second : (w : Switches) (e : Escape) (x : List ℕ) (c : ℕ) (t : List ℕ) → is_escape w e ≡ true → escape_text e ++ x ≡ 92 ∷ c ∷ t → (c == 10) ≡ false
escape_second w (simple_escape d) x c t h same =
    let simple = and_parts (is_simple d) _ h in
    let at : d ≡ c = cc in
    other (c == 10) refl (rw at at simple.0)
  where
    other : (b : Bool) → (c == 10) ≡ b → is_simple c ≡ true → b ≡ false
    other false e s = refl
    other true e s = sym (rw (eqb-true c 10 e) at s)
escape_second w (hex_escape d f) x c t h same = let at : 120 ≡ c = cc in subst (λ n. (n == 10) ≡ false) at refl
escape_second w (unicode_escape inner) x c t h same = let at : 117 ≡ c = cc in subst (λ n. (n == 10) ≡ false) at refl

-- no plain character is a backslash or a quote
not_plain : (w : Switches) (c d : ℕ) → is_plain w c ≡ true → c ≡ d → is_plain w d ≡ false → ⊥
not_plain w c d h at none = both_ways (is_plain w d) none (subst (λ n. is_plain w n ≡ true) at h)

-- blanks end where none follows
blanks_same : (a b x y : List ℕ) → list_all is_blank a ≡ true → list_all is_blank b ≡ true → first_passes is_blank x ≡ false → first_passes is_blank y ≡ false →
    a ++ x ≡ b ++ y → (a ≡ b) × (x ≡ y)
blanks_same [] [] x y h g e f same = (refl, same)
blanks_same [] (d ∷ b) x y h g e f same =
    let blank = and_parts (is_blank d) _ g in
    absurd (both_ways (first_passes is_blank (d ∷ (b ++ y))) (subst (λ l. first_passes is_blank l ≡ false) same e) blank.0)
blanks_same (c ∷ a) [] x y h g e f same =
    let blank = and_parts (is_blank c) _ h in
    absurd (both_ways (first_passes is_blank (c ∷ (a ++ x))) (subst (λ l. first_passes is_blank l ≡ false) (sym same) f) blank.0)
blanks_same (c ∷ a) (d ∷ b) x y h g e f same =
    let left = and_parts (is_blank c) (list_all is_blank a) h in
    let right = and_parts (is_blank d) (list_all is_blank b) g in
    let head : c ≡ d = cc in
    let tail : a ++ x ≡ b ++ y = cc in
    let rec = blanks_same a b x y left.1 right.1 e f tail in
    (cc, rec.1)

-- the item at the front of a text
pub same_item : (w : Switches) (a b : Item) (x y : List ℕ) → is_item w a ≡ true → is_item w b ≡ true → is_complete_before x a ≡ true → is_complete_before y b ≡ true →
    item_text a ++ x ≡ item_text b ++ y → (a ≡ b) × (x ≡ y)
same_item w (plain_item c) (plain_item d) x y h g k l same = (cc, cc)
same_item w (plain_item c) (escape_item e) x y h g k l same =
    let head = escape_head e y in
    absurd (let both : c ∷ x ≡ 92 ∷ head.0 ∷ head.1 = same ∙ head.2 in let at : c ≡ 92 = cc in not_plain w c 92 h at refl)
same_item w (plain_item c) (continuation b) x y h g k l same = absurd (let at : c ≡ 92 = cc in not_plain w c 92 h at refl)
same_item w (escape_item e) (plain_item d) x y h g k l same =
    let head = escape_head e x in
    absurd (let both : d ∷ y ≡ 92 ∷ head.0 ∷ head.1 = sym same ∙ head.2 in let at : d ≡ 92 = cc in not_plain w d 92 g at refl)
same_item w (escape_item e) (escape_item f) x y h g k l same =
    let both = same_escape w e f x y h g same in (ap escape_item both.0, both.1)
same_item w (escape_item e) (continuation b) x y h g k l same = absurd (true≢false (escape_second w e x 10 (b ++ y) h same))
same_item w (continuation a) (plain_item d) x y h g k l same = absurd (let at : d ≡ 92 = cc in not_plain w d 92 g at refl)
same_item w (continuation a) (escape_item f) x y h g k l same = absurd (true≢false (escape_second w f y 10 (a ++ x) g (sym same)))
same_item w (continuation a) (continuation b) x y h g k l same =
    let left = and_parts (not (is_empty x)) (not (first_passes is_blank x)) k in
    let right = and_parts (not (is_empty y)) (not (first_passes is_blank y)) l in
    let tails : a ++ x ≡ b ++ y = cc in
    let both = blanks_same a b x y h g (not-true _ left.1) (not-true _ right.1) tails in
    (ap continuation both.0, both.1)

-- the text begins with no item
abbrev pub NoItem : Switches → List ℕ → Type 0
NoItem w x = (a : Item) (after : List ℕ) → is_item w a ≡ true → is_complete_before after a ≡ true → item_text a ++ after ≡ x → ⊥

-- a text is divided in at most one way into items and a rest if none follows
pub same_items : (w : Switches) (L M : List Item) (x y : List ℕ) → is_item_list w x L ≡ true → is_item_list w y M ≡ true → NoItem w x → NoItem w y →
    body_text L ++ x ≡ body_text M ++ y → (L ≡ M) × (x ≡ y)
same_items w [] [] x y h g ends ends' same = (refl, same)
same_items w [] (b ∷ M) x y h g ends ends' same =
    let p = and_parts _ (is_item_list w y M) g in
    let q = and_parts (is_item w b) _ p.0 in
    absurd (ends b (body_text M ++ y) q.0 q.1 (sym (append_assoc (item_text b) (body_text M) y) ∙ sym same))
same_items w (a ∷ L) [] x y h g ends ends' same =
    let p = and_parts _ (is_item_list w x L) h in
    let q = and_parts (is_item w a) _ p.0 in
    absurd (ends' a (body_text L ++ x) q.0 q.1 (sym (append_assoc (item_text a) (body_text L) x) ∙ same))
same_items w (a ∷ L) (b ∷ M) x y h g ends ends' same =
    let p = and_parts _ (is_item_list w x L) h in
    let q = and_parts (is_item w a) _ p.0 in
    let p' = and_parts _ (is_item_list w y M) g in
    let q' = and_parts (is_item w b) _ p'.0 in
    let first = same_item w a b (body_text L ++ x) (body_text M ++ y) q.0 q'.0 q.1 q'.1
    (sym (append_assoc (item_text a) (body_text L) x) ∙ same ∙ append_assoc (item_text b) (body_text M) y) in
    let rest = same_items w L M x y p.1 p'.1 ends ends' first.1 in
    (cc, rest.1)

-- two lists that begin differently
pub heads_differ : (c d : ℕ) (x y : List ℕ) → c ∷ x ≡ d ∷ y → (c == d) ≡ false → ⊥
heads_differ c d x y same differ = let at : c ≡ d = cc in both_ways (c == d) differ (eq-eqb c d at)

-- the closing quote is not an item
pub quote_no_item : (w : Switches) (s : List ℕ) → NoItem w (34 ∷ s)
quote_no_item w s (plain_item c) after h k same = let at : c ≡ 34 = cc in not_plain w c 34 h at refl
quote_no_item w s (escape_item e) after h k same = let head = escape_head e after in heads_differ 92 34 _ _ (sym head.2 ∙ same) refl
quote_no_item w s (continuation b) after h k same = heads_differ 92 34 _ _ same refl

-- the last character of a text that is longer than a part
pub without_last-append : (t : List ℕ) (c : ℕ) (x : List ℕ) → without_last (t ++ c ∷ x) ≡ t ++ without_last (c ∷ x)
without_last-append [] c x = refl
without_last-append (d ∷ []) c x = refl
without_last-append (d ∷ f ∷ t) c x = ap (λ l. d ∷ l) (without_last-append (f ∷ t) c x)

pub last_of : (c : ℕ) (t : List ℕ) → (d : ℕ) × (without_last (c ∷ t) ++ d ∷ [] ≡ c ∷ t)
last_of c [] = (c, refl)
last_of c (d ∷ t) = let rec = last_of d t in (rec.0, ap (λ l. c ∷ l) rec.1)

-- the rest may begin with an item that text follows
plain_no_refusal : (w : Switches) (c : ℕ) (t : List ℕ) → is_plain w c ≡ true → item_refusal w (c ∷ t) ≡ None
unfolding item_refusal
plain_no_refusal w c t h =
    let a = and_parts _ (allows_value w c) h in
    let b = and_parts _ (fits_charset w.unicode c) a.0 in
    let d = and_parts _ (not (c == 13)) b.0 in
    let e = and_parts (not (c == 34)) (not (c == 92)) d.0 in
    if_false (c == 92) _ _ (not-true _ e.1)
    ∙ none_if (c == 13) _ _ (not-true _ d.1)
    (none_unless (allows_value w c) _ _ a.1
    (none_unless (fits_charset w.unicode c) _ _ b.1
    (none_if _ _ _ (and_left _ _ (not-true _ e.0)) refl)))

pub escape_no_refusal : (w : Switches) (e : Escape) (c : ℕ) (t : List ℕ) → is_escape w e ≡ true → item_refusal w (escape_text e ++ c ∷ t) ≡ None
unfolding item_refusal
escape_no_refusal w e c t h =
    let head = escape_head e (c ∷ t) in
    let cut : without_last (92 ∷ head.0 ∷ head.1) ≡ escape_text e ++ without_last (c ∷ t) =
    ap without_last (sym head.2) ∙ without_last-append (escape_text e) c t in
    subst (λ l. item_refusal w l ≡ None) (sym head.2)
    (if_false (head.0 == 10) _ _ (escape_second w e (c ∷ t) head.0 head.1 h head.2)
    ∙ ap (escape_refusal w) cut ∙ refusal_escape w e (without_last (c ∷ t)) h)

list_all-stop : (a : List ℕ) (c : ℕ) (t : List ℕ) → is_blank c ≡ false → list_all is_blank (a ++ c ∷ t) ≡ false
list_all-stop [] c t h = rw h refl
list_all-stop (d ∷ a) c t h = and_right _ _ (list_all-stop a c t h)

continuation_no_refusal : (w : Switches) (a : List ℕ) (c : ℕ) (t : List ℕ) → is_blank c ≡ false → item_refusal w (92 ∷ 10 ∷ (a ++ c ∷ t)) ≡ None
unfolding item_refusal
continuation_no_refusal w a c t h = none_if _ _ _ (list_all-stop a c t h) refl

pub item_no_refusal : (w : Switches) (a : Item) (after : List ℕ) → is_item w a ≡ true → is_complete_before after a ≡ true → item_refusal w (item_text a ++ after) ≡ None
item_no_refusal w (plain_item c) after h k = plain_no_refusal w c after h
item_no_refusal w (escape_item e) [] h k = cc
item_no_refusal w (escape_item e) (c ∷ t) h k = escape_no_refusal w e c t h
item_no_refusal w (continuation a) [] h k = cc
item_no_refusal w (continuation a) (c ∷ t) h k = continuation_no_refusal w a c t (not-true _ k)

-- a refused rest begins with no item
pub refused_no_item : (w : Switches) (x : List ℕ) (e : Refusal) → item_refusal w x ≡ Some e → NoItem w x
refused_no_item w x e told a after h k same =
    let none : item_refusal w x ≡ None = subst (λ l. item_refusal w l ≡ None) same (item_no_refusal w a after h k) in
    cc

-- The front of a text: an item, a reason to refuse it, or the closing quote and a suffix.
pub record HasItem (w : Switches) (t : List ℕ) (a : Item) (after : List ℕ) : Type 0 where
  pub spells : item_text a ++ after ≡ t
  pub grammar : is_item w a ≡ true
  pub taken : is_complete_before after a ≡ true

abbrev pub SomeItem : Switches → List ℕ → Type 0
SomeItem w t = (a : Item) × (after : List ℕ) × HasItem w t a after

abbrev pub Closes : List ℕ → Type 0
Closes t = (s : List ℕ) × (34 ∷ s ≡ t) × (is_suffix s ≡ true)

-- the blanks at the front of a text
blanks_off : (t : List ℕ) → list_all is_blank t ≡ false →
    (a : List ℕ) × (c : ℕ) × (x : List ℕ) × (a ++ c ∷ x ≡ t) × (list_all is_blank a ≡ true) × (is_blank c ≡ false)
blanks_off [] h = cc
blanks_off (c ∷ t) h = go (is_blank c) refl (blanks_off t)
  where
    go : (b : Bool) → is_blank c ≡ b →
        (list_all is_blank t ≡ false → (a : List ℕ) × (d : ℕ) × (x : List ℕ) × (a ++ d ∷ x ≡ t) × (list_all is_blank a ≡ true) × (is_blank d ≡ false)) →
        (a : List ℕ) × (d : ℕ) × (x : List ℕ) × (a ++ d ∷ x ≡ c ∷ t) × (list_all is_blank a ≡ true) × (is_blank d ≡ false)
    go false e rec = ([], c, t, refl, refl, e)
    go true e rec =
        let later = rec (subst (λ b. (b && list_all is_blank t) ≡ false) e h) in
        (c ∷ later.0, later.1, later.2, ap (λ l. c ∷ l) later.3, and_from _ _ e later.4, later.5)

continuation_here : (w : Switches) (t : List ℕ) → list_all is_blank t ≡ false → SomeItem w (92 ∷ 10 ∷ t)
continuation_here w t h =
    let off = blanks_off t h in (
      continuation off.0,
      off.1 ∷ off.2,
      record {
        spells = ap (λ l. 92 ∷ 10 ∷ l) off.3;
        grammar = off.4;
        taken = not_from_false _ off.5;
      },
    )

-- an escape that text follows
escape_here : (w : Switches) (t : List ℕ) → escape_refusal w (without_last (92 ∷ t)) ≡ None → SomeItem w (92 ∷ t)
unfolding escape_refusal
escape_here w [] h = cc
escape_here w (c ∷ t) h =
    let read = read_escape w (without_last (c ∷ t)) h in
    let last = last_of c t in (
      escape_item read.0,
      read.1 ++ last.0 ∷ [],
      record {
        spells = sym (append_assoc (escape_text read.0) read.1 (last.0 ∷ [])) ∙ ap (λ l. l ++ last.0 ∷ []) read.2.spells ∙ ap (λ l. 92 ∷ l) last.1;
        grammar = read.2.grammar;
        taken = more read.1;
      },
    )
  where
    more : (x : List ℕ) → not (is_empty (x ++ (last_of c t).0 ∷ [])) ≡ true
    more [] = refl
    more (d ∷ x) = refl

abbrev pub Front : Switches → List ℕ → Type 0
Front w t = SomeItem w t ⊎ (((e : Refusal) × (item_refusal w t ≡ Some e)) ⊎ Closes t)

after_backslash : (w : Switches) (t : List ℕ) → backslash_refusal w t ≡ None → SomeItem w (92 ∷ t)
after_backslash w [] h = escape_here w [] h
after_backslash w (c ∷ t) h = go (c == 10) refl h
  where
    go : (b : Bool) → (c == 10) ≡ b →
        (if b then (if list_all is_blank (c ∷ t) then Some (without_span UnterminatedString) else None) else escape_refusal w (without_last (92 ∷ c ∷ t))) ≡ None →
        SomeItem w (92 ∷ c ∷ t)
    go false e g = escape_here w (c ∷ t) g
    go true e g =
        let at = eqb-true c 10 e in
        let stops = none_from _ _ _ g in
        subst (λ n. SomeItem w (92 ∷ n ∷ t)) (sym at) (continuation_here w t (subst (λ n. (is_blank n && list_all is_blank t) ≡ false) at stops.0))

front_cons : (w : Switches) (c : ℕ) (t : List ℕ) (b q : Bool) → (c == 92) ≡ b → (c == 34) ≡ q → item_refusal w (c ∷ t) ≡ None → Front w (c ∷ t)
unfolding item_refusal
front_cons w c t true q b_is q_is h =
    let at = eqb-true c 92 b_is in
    inl (subst (λ n. SomeItem w (n ∷ t)) (sym at) (after_backslash w t (sym (if_true _ _ _ b_is) ∙ h)))
front_cons w c t false true b_is q_is h =
    let a = none_from (c == 13) _ _ (sym (if_false _ _ _ b_is) ∙ h) in
    let b = unless_none (allows_value w c) _ _ a.1 in
    let d = unless_none (fits_charset w.unicode c) _ _ b.1 in
    let e = none_from ((c == 34) && not (is_suffix t)) _ _ d.1 in
    inr (inr (t, ap (λ n. n ∷ t) (sym (eqb-true c 34 q_is)), not-false _ (subst (λ b. (b && not (is_suffix t)) ≡ false) q_is e.0)))
front_cons w c t false false b_is q_is h =
    let a = none_from (c == 13) _ _ (sym (if_false _ _ _ b_is) ∙ h) in
    let b = unless_none (allows_value w c) _ _ a.1 in
    let d = unless_none (fits_charset w.unicode c) _ _ b.1 in
    inl (
      plain_item c,
      t,
      record {
        spells = refl;
        grammar = and_from _ _ (and_from _ _ (and_from _ _ (and_from _ _ (not_from_false _ q_is) (not_from_false _ b_is)) (not_from_false _ a.0)) d.0) b.0;
        taken = refl;
      },
    )

at_end : (w : Switches) → item_refusal w [] ≡ None → ⊥
unfolding item_refusal
at_end w h = cc

pub front : (w : Switches) (t : List ℕ) → Front w t
front w t = go t (item_refusal w t) refl
  where
    none : (t : List ℕ) → item_refusal w t ≡ None → Front w t
    none [] h = absurd (at_end w h)
    none (c ∷ t) h = front_cons w c t (c == 92) (c == 34) refl refl h

    go : (t : List ℕ) (o : Option Refusal) → item_refusal w t ≡ o → Front w t
    go t (Some e) told = inr (inl (e, told))
    go t None told = none t told

-- the items of a text, and the refused rest or the closing quote with a suffix after them
pub record Derives (w : Switches) (t : List ℕ) (items : List Item) (rest : List ℕ) : Type 0 where
  pub spells : body_text items ++ rest ≡ t
  pub taken : is_item_list w rest items ≡ true
  pub ends : ((e : Refusal) × (item_refusal w rest ≡ Some e)) ⊎ Closes rest

abbrev pub SomeReading : Switches → List ℕ → Type 0
SomeReading w t = (items : List Item) × (rest : List ℕ) × Derives w t items rest

item_longer : (a : Item) (after : List ℕ) → length after < length (item_text a ++ after)
item_longer (plain_item c) after = omega arith
item_longer (escape_item (simple_escape c)) after = omega arith
item_longer (escape_item (hex_escape c d)) after = omega arith
item_longer (escape_item (unicode_escape inner)) after = omega (arith, length-append (inner ++ 125 ∷ []) after)
item_longer (continuation a) after = omega (arith, length-append a after)

read_item : (w : Switches) (t : List ℕ) (a : Item) (after : List ℕ) → HasItem w t a after → SomeReading w after → SomeReading w t
read_item w t a after here (items, rest, later) = (
  a ∷ items,
  rest,
  record {
    spells = append_assoc (item_text a) (body_text items) rest ∙ ap (λ l. item_text a ++ l) later.spells ∙ here.spells;
    taken = and_from _ _ (and_from _ _ here.grammar (subst (λ l. is_complete_before l a ≡ true) (sym later.spells) here.taken)) later.taken;
    ends = later.ends;
  },
)

read_within : (n : ℕ) (w : Switches) (t : List ℕ) → length t < n → SomeReading w t
read_within zero w t h = absurd (omega arith)
read_within (suc n) w t h = go (front w t) (read_within n w)
  where
    go : Front w t → ((x : List ℕ) → length x < n → SomeReading w x) → SomeReading w t
    go (inl (a, after, here)) rec =
        let longer = item_longer a after in
        let size : length (item_text a ++ after) ≡ length t = ap length here.spells in
        read_item w t a after here (rec after (omega arith))
    go (inr ends) rec = ([], t, record { spells = refl; taken = refl; ends = ends })

-- each text has items and a rest
pub read_items : (w : Switches) (t : List ℕ) → SomeReading w t
read_items w t = read_within (length t + 1) w t (omega arith)

-- a body precedes its closing quote, and the text before that quote is a body
stands_item : (a : Item) (t s : List ℕ) → takes_all_blanks a t ≡ true → is_complete_before (t ++ 34 ∷ s) a ≡ true
stands_item (plain_item c) t s h = refl
stands_item (escape_item e) [] s h = refl
stands_item (escape_item e) (c ∷ t) s h = refl
stands_item (continuation b) [] s h = refl
stands_item (continuation b) (c ∷ t) s h = h

item_stands : (a : Item) (t s : List ℕ) → is_complete_before (t ++ 34 ∷ s) a ≡ true → takes_all_blanks a t ≡ true
item_stands (plain_item c) t s h = refl
item_stands (escape_item e) t s h = refl
item_stands (continuation b) [] s h = refl
item_stands (continuation b) (c ∷ t) s h = h

pub body_stands : (w : Switches) (items : List Item) (s : List ℕ) → is_body w items ≡ true → is_item_list w (34 ∷ s) items ≡ true
body_stands w [] s h = refl
body_stands w (a ∷ items) s h =
    let p = and_parts _ (is_body w items) h in
    let q = and_parts (is_item w a) _ p.0 in
    and_from _ _ (and_from _ _ q.0 (stands_item a (body_text items) s q.1)) (body_stands w items s p.1)

pub stands_body : (w : Switches) (items : List Item) (s : List ℕ) → is_item_list w (34 ∷ s) items ≡ true → is_body w items ≡ true
stands_body w [] s h = refl
stands_body w (a ∷ items) s h =
    let p = and_parts _ (is_item_list w (34 ∷ s) items) h in
    let q = and_parts (is_item w a) _ p.0 in
    and_from _ _ (and_from _ _ q.0 (item_stands a (body_text items) s q.1)) (stands_body w items s p.1)

-- a text that ends with a quote and a suffix does not end with LF
after_quote_last : (x : List ℕ) (q : ℕ) (s : List ℕ) → is_line_feed q ≡ false → is_suffix s ≡ true → last_passes is_line_feed (x ++ q ∷ s) ≡ false
after_quote_last x q [] other h = last_passes-append is_line_feed x q [] ∙ other
after_quote_last x q (c ∷ s) other h = last_passes-append is_line_feed x q (c ∷ s) ∙ suffix_last (c ∷ s) h

pub closed_before_line_feed : (x : List ℕ) (q : ℕ) (s t : List ℕ) → is_line_feed q ≡ false → is_suffix s ≡ true → x ++ q ∷ s ≡ t ++ 10 ∷ [] → ⊥
closed_before_line_feed x q s t other h same =
    both_ways _ (after_quote_last x q s other h) (ap (last_passes is_line_feed) same ∙ line_feed_last t)
