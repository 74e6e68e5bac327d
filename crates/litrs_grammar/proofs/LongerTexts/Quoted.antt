-- Refused quoted literals under every appended text: which stay refused, which close, and which some text completes.
use Rattle.std.proofs.Common.{◌≡◌, ℕ, Bool, true, false, not, ◌&&◌, List, [], ◌∷◌, ◌++◌, Option, Some, None, refl, sym, ap, ◌∙◌, subst, arith, inl, inr, append_assoc, ◌⊎◌}
use Rattle.std.specs.Prelude.{◌==◌, if◌then◌else◌, ◌↔◌}
use Rattle.std.specs.List.{list_all}
use Rattle.std.proofs.lemmas.Bool.{and_parts, and_from, eqb-true, both_ways, false≢true, or_right}
use Rattle.std.proofs.lemmas.List.{append-nil}
use Rattle.litrs_base.specs.Refusal.{Refusal, at_byte, without_span, shifted}
use Rattle.litrs_base.specs.declared.err.ParseErrorKind.TheVariants.{UnterminatedEscape, UnterminatedString, InvalidSuffix, UnexpectedChar, CarriageReturn, NulByte, NonAsciiInByteLiteral}
use Rattle.litrs_base.specs.Characters.{is_blank, fits_charset, is_scalar}
use Rattle.litrs_base.specs.Finality.{is_final, is_open}
use Rattle.litrs_grammar.specs.Suffix.{is_suffix, suffix_kind, is_ascii_symbol}
use Rattle.litrs_base.specs.Text.{byte_len, first_passes}
use Rattle.litrs_base.specs.declared.quotes.Switches.{Switches}
use Rattle.litrs_grammar.specs.Escape.{escape_refusal, allows_value, hex_refusal, unicode_refusal, inner_refusal, Escape, simple_escape, hex_escape, unicode_escape, escape_text, is_escape, is_simple, allows_byte, pair_value, is_hex_or_underscore}
use Rattle.litrs_grammar.specs.Quoted.{Item, plain_item, escape_item, continuation, is_item, body_text, is_body, is_complete_before, is_item_list, without_last, backslash_refusal, item_refusal, IsQuoted, IsQuotedRefusal, takes_all_blanks, IsBodyOf}
use Rattle.litrs_grammar.proofs.QuotedItems.{without_last-append, last_of, escape_head}
use Rattle.std.proofs.lemmas.Bool.Decides.{nat_tests}
use Rattle.litrs_grammar.proofs.LongerTexts.Escape.{never, keep, escape_final}
use Rattle.litrs_base.specs.declared.err.ParseErrorKind.{ParseErrorKind}
use Rattle.litrs_base.proofs.ListTests.{if_true, if_false}
use Rattle.litrs_grammar.proofs.Laws.Quoted.{quoted_bodies_join, quoted_texts_are_not_refused}
use Rattle.std.specs.Char.{is_ascii_hexdigit}
use Rattle.std.proofs.lemmas.List.Folds.{list_all-append as all-append}
use Rattle.litrs_base.proofs.Runs.{list_all-append, list_all-weaken, last_passes, is_line_feed, last_passes-append, line_feed_last}
use Rattle.litrs_grammar.proofs.Laws.Escape.{inner_of, read_escape, refusal_escape, SomeEscape}
use Rattle.litrs_grammar.specs.LongerTexts.{BeginsBy, EndsBy}
use Rattle.litrs_grammar.proofs.LineFeeds.{is_other, escape_other, no_line_feed_last}
use Rattle.litrs_grammar.specs.Laws.LongerTexts.{QuotedItemsStay, FinalQuotedRefusalsStay}
use Rattle.litrs_grammar.specs.GoesOn.Quoted.{IsOpenRest, RestGoesOn, IsClosedQuoted, QuotedGoesOn}
use Rattle.litrs_grammar.specs.GoesOn.Escape.{BeginsEscape}
use Rattle.litrs_grammar.proofs.LongerTexts.Suffix.{is_suffix-nil, underscore_x, front_of, suffix_final, suffix_freed}

-- an item that is taken before a text is taken before a longer one
taken_more : (a : Item) (b : List ℕ) (c : ℕ) (r x : List ℕ) → is_complete_before (b ++ c ∷ r) a ≡ true → is_complete_before (b ++ c ∷ (r ++ x)) a ≡ true
taken_more (plain_item d) b c r x h = refl
taken_more (escape_item e) [] c r x h = refl
taken_more (escape_item e) (d ∷ b) c r x h = refl
taken_more (continuation a) [] c r x h = h
taken_more (continuation a) (d ∷ b) c r x h = h

pub stand_more : (w : Switches) (items : List Item) (c : ℕ) (r x : List ℕ) → is_item_list w (c ∷ r) items ≡ true → is_item_list w (c ∷ (r ++ x)) items ≡ true
stand_more w [] c r x h = refl
stand_more w (a ∷ items) c r x h =
    let p = and_parts _ (is_item_list w (c ∷ r) items) h in
    let q = and_parts (is_item w a) _ p.0 in
    and_from _ _ (and_from _ _ q.0 (taken_more a (body_text items) c r x q.1)) (stand_more w items c r x p.1)

-- an item that is taken at the end of a text is taken before every rest
taken_anywhere : (a : Item) (b x : List ℕ) → is_complete_before (b ++ []) a ≡ true → is_complete_before (b ++ x) a ≡ true
taken_anywhere (plain_item d) b x h = refl
taken_anywhere (escape_item e) [] x h = cc
taken_anywhere (escape_item e) (d ∷ b) x h = refl
taken_anywhere (continuation a) [] x h = cc
taken_anywhere (continuation a) (d ∷ b) x h = h

stand_anywhere : (w : Switches) (items : List Item) (x : List ℕ) → is_item_list w [] items ≡ true → is_item_list w x items ≡ true
stand_anywhere w [] x h = refl
stand_anywhere w (a ∷ items) x h =
    let p = and_parts _ (is_item_list w [] items) h in
    let q = and_parts (is_item w a) _ p.0 in
    and_from _ _ (and_from _ _ q.0 (taken_anywhere a (body_text items) x q.1)) (stand_anywhere w items x p.1)

-- without its last character a longer text begins with the shorter one without its last character
pub cut_more : (c : ℕ) (t x : List ℕ) → (y : List ℕ) × (without_last (c ∷ (t ++ x)) ≡ without_last (c ∷ t) ++ y)
cut_more c t [] = ([], ap (λ l. without_last (c ∷ l)) (append-nil t) ∙ sym (append-nil (without_last (c ∷ t))))
cut_more c t (m ∷ x) =
    let last = last_of c t in (
      last.0 ∷ without_last (m ∷ x),
      without_last-append (c ∷ t) m x
          ∙ ap (λ l. l ++ without_last (m ∷ x)) (sym last.1)
          ∙ append_assoc (without_last (c ∷ t)) (last.0 ∷ []) (without_last (m ∷ x)),
    )

backslash_row : (w : Switches) (c : ℕ) (t x : List ℕ) (e : Refusal) (b : Bool) → is_final e.kind ≡ true →
    (if b then (if list_all is_blank (c ∷ t) then Some (without_span UnterminatedString) else None) else escape_refusal w (without_last (92 ∷ c ∷ t))) ≡ Some e →
    (if b then (if list_all is_blank (c ∷ (t ++ x)) then Some (without_span UnterminatedString) else None) else escape_refusal w (without_last (92 ∷ c ∷ (t ++ x)))) ≡ Some e
backslash_row w c t x e false f h =
    let more = cut_more 92 (c ∷ t) x in
    ap (escape_refusal w) more.1 ∙ escape_final w (without_last (92 ∷ c ∷ t)) more.0 e f h
backslash_row w c t x e true f h = blank (list_all is_blank (c ∷ t)) h
  where
    blank : {A : Type 0} (b : Bool) → (if b then Some (without_span UnterminatedString) else None) ≡ Some e → A
    blank true g = never (without_span UnterminatedString) e refl f g
    blank false g = cc

no_escape : (w : Switches) (e : Refusal) → {A : Type 0} → is_final e.kind ≡ true → escape_refusal w [] ≡ Some e → A
unfolding escape_refusal
no_escape w e f h = never (at_byte 0 UnterminatedEscape) e refl f h

backslash_final : (w : Switches) (t x : List ℕ) (e : Refusal) → is_final e.kind ≡ true → backslash_refusal w t ≡ Some e → backslash_refusal w (t ++ x) ≡ Some e
backslash_final w [] x e f h = no_escape w e f h
backslash_final w (c ∷ t) x e f h = backslash_row w c t x e (c == 10) f h

suffix_row : (q b : Bool) (t x : List ℕ) (e : Refusal) → is_suffix t ≡ b → is_final e.kind ≡ true →
    (if q && not b then Some (at_byte 1 (suffix_kind t)) else None) ≡ Some e →
    (if q && not (is_suffix (t ++ x)) then Some (at_byte 1 (suffix_kind (t ++ x))) else None) ≡ Some e
suffix_row false b t x e s f h = cc
suffix_row true true t x e s f h = cc
suffix_row true false t x e s f h =
    let same : at_byte 1 (suffix_kind t) ≡ e = cc in
    let more = suffix_final t x s (subst (λ r. is_final r.kind ≡ true) (sym same) f) in
    rw more.0 (ap (λ k. Some (at_byte 1 k)) more.1 ∙ h)

-- a rest refused with a final kind is refused alike whatever is appended
pub rest_final : (w : Switches) (c : ℕ) (t x : List ℕ) (e : Refusal) → is_final e.kind ≡ true → item_refusal w (c ∷ t) ≡ Some e → item_refusal w (c ∷ (t ++ x)) ≡ Some e
unfolding item_refusal
rest_final w c t x e f h =
    keep (c == 92) _ _ _ _ e (backslash_final w t x e f)
    (keep (c == 13) _ _ _ _ e (λ r. r)
    (keep (not (allows_value w c)) _ _ _ _ e (λ r. r)
    (keep (not (fits_charset w.unicode c)) _ _ _ _ e (λ r. r)
    (suffix_row (c == 34) (is_suffix t) t x e refl f)))) h

at_end : {A : Type 0} (w : Switches) (e : Refusal) → is_final e.kind ≡ true → item_refusal w [] ≡ Some e → A
unfolding item_refusal
at_end w e f h = never (without_span UnterminatedString) e refl f h

-- a refusal of the rest with more after it refuses the text with more after it
pub refused_more : (front : List ℕ) (w : Switches) (t x : List ℕ) (items : List Item) (c : ℕ) (r : List ℕ) (cause : Refusal) →
    front ++ (body_text items ++ c ∷ r) ≡ t → is_item_list w (c ∷ r) items ≡ true → item_refusal w (c ∷ (r ++ x)) ≡ Some cause →
    IsQuotedRefusal front w (t ++ x) (shifted (byte_len (front ++ body_text items)) cause)
refused_more front w t x items c r cause spells taken told = record {
  items = items;
  rest = c ∷ (r ++ x);
  cause = cause;
  spells = ap (λ l. front ++ l) (sym (append_assoc (body_text items) (c ∷ r) x)) ∙ sym (append_assoc front (body_text items ++ c ∷ r) x) ∙ ap (λ l. l ++ x) spells;
  taken = stand_more w items c r x taken;
  decided = told;
  placed = refl;
}

-- a quoted text refused with a final kind is refused alike whatever is appended
pub quoted_final : (front : List ℕ) (w : Switches) (t x : List ℕ) (e : Refusal) → is_final e.kind ≡ true → IsQuotedRefusal front w t e → IsQuotedRefusal front w (t ++ x) e
quoted_final front w t x e f h = go h.rest h.spells h.taken h.decided
  where
    final_cause : is_final h.cause.kind ≡ true
    final_cause = subst (λ r. is_final r.kind ≡ true) (sym h.placed) f

    go : (rest : List ℕ) → front ++ (body_text h.items ++ rest) ≡ t → is_item_list w rest h.items ≡ true → item_refusal w rest ≡ Some h.cause → IsQuotedRefusal front w (t ++ x) e
    go [] spells taken told = at_end w h.cause final_cause told
    go (c ∷ r) spells taken told =
        subst (λ r. IsQuotedRefusal front w (t ++ x) r) h.placed (refused_more front w t x h.items c r h.cause spells taken (rest_final w c r x h.cause final_cause told))

-- the kind that a table gives is not open
abbrev is_closed : Option Refusal → Bool
is_closed None = true
is_closed (Some e) = not (is_open e.kind)

closed_if : (b : Bool) (x y : Option Refusal) → is_closed x ≡ true → is_closed y ≡ true → is_closed (if b then x else y) ≡ true
closed_if true x y f g = f
closed_if false x y f g = g

closed_kind_if : (b : Bool) (x y : ParseErrorKind) → not (is_open x) ≡ true → not (is_open y) ≡ true → not (is_open (if b then x else y)) ≡ true
closed_kind_if true x y f g = f
closed_kind_if false x y f g = g

closed_hex : (w : Switches) (t : List ℕ) → is_closed (hex_refusal w t) ≡ true
closed_hex w t = search closed_if

closed_inner : (w : Switches) (inner : List ℕ) → is_closed (inner_refusal w inner) ≡ true
closed_inner w inner = search closed_if

closed_unicode : (w : Switches) (t : List ℕ) → is_closed (unicode_refusal w t) ≡ true
closed_unicode w t = search (closed_if, closed_inner)

closed_escape : (w : Switches) (t : List ℕ) → is_closed (escape_refusal w t) ≡ true
unfolding escape_refusal
closed_escape w [] = refl
closed_escape w (c ∷ []) = refl
closed_escape w (c ∷ letter ∷ t) = search (closed_if, closed_hex, closed_unicode)

closed_suffix : (t : List ℕ) → not (is_open (suffix_kind t)) ≡ true
closed_suffix t = closed_kind_if (first_passes is_ascii_symbol t) UnexpectedChar InvalidSuffix refl refl

never_open : {A : Type 0} (o : Option Refusal) (e : Refusal) → is_closed o ≡ true → is_open e.kind ≡ true → o ≡ Some e → A
never_open o e c f same = absurd (both_ways (not (is_open e.kind)) (rw f refl) (subst (λ r. is_closed r ≡ true) same c))

open_backslash : (w : Switches) (t : List ℕ) (e : Refusal) → is_open e.kind ≡ true → backslash_refusal w t ≡ Some e → IsOpenRest (92 ∷ t)
open_backslash w [] e f h = never_open _ e (closed_escape w (without_last (92 ∷ []))) f h
open_backslash w (c ∷ t) e f h = go (c == 10) refl h
  where
    blank : (b : Bool) → list_all is_blank (c ∷ t) ≡ b → c ≡ 10 → (if b then Some (without_span UnterminatedString) else None) ≡ Some e → IsOpenRest (92 ∷ c ∷ t)
    blank false g at_byte h = cc
    blank true g at_byte h = inr (t, ap (λ n. 92 ∷ n ∷ t) at_byte, (and_parts (is_blank c) (list_all is_blank t) g).1)

    go : (b : Bool) → (c == 10) ≡ b →
        (if b then (if list_all is_blank (c ∷ t) then Some (without_span UnterminatedString) else None) else escape_refusal w (without_last (92 ∷ c ∷ t))) ≡ Some e → IsOpenRest (92 ∷ c ∷ t)
    go false g h = never_open _ e (closed_escape w (without_last (92 ∷ c ∷ t))) f h
    go true g h = blank (list_all is_blank (c ∷ t)) refl (eqb-true c 10 g) h

closed_rows : (w : Switches) (c : ℕ) (t : List ℕ) →
    is_closed (if c == 13 then Some (at_byte 0 CarriageReturn)
    else if not (allows_value w c) then Some (at_byte 0 NulByte)
    else if not (fits_charset w.unicode c) then Some (at_byte 0 NonAsciiInByteLiteral)
    else if (c == 34) && not (is_suffix t) then Some (at_byte 1 (suffix_kind t))
    else None) ≡ true
closed_rows w c t = search (closed_if, closed_suffix) depth 8

pub open_rest : (w : Switches) (rest : List ℕ) (e : Refusal) → is_open e.kind ≡ true → item_refusal w rest ≡ Some e → IsOpenRest rest
unfolding item_refusal
open_rest w [] e f h = inl refl
open_rest w (c ∷ t) e f h = go (c == 92) refl
  where
    go : (b : Bool) → (c == 92) ≡ b → IsOpenRest (c ∷ t)
    go true g = subst (λ n. IsOpenRest (n ∷ t)) (sym (eqb-true c 92 g)) (open_backslash w t e f (sym (if_true _ _ _ g) ∙ h))
    go false g = never_open _ e (closed_rows w c t) f (sym (if_false _ _ _ g) ∙ h)

-- the items before a rest are a body
item_body : (a : Item) (t rest : List ℕ) → is_complete_before (t ++ rest) a ≡ true → takes_all_blanks a t ≡ true
item_body (plain_item c) t rest h = refl
item_body (escape_item e) t rest h = refl
item_body (continuation b) [] rest h = refl
item_body (continuation b) (c ∷ t) rest h = h

pub stands_is_body : (w : Switches) (items : List Item) (rest : List ℕ) → is_item_list w rest items ≡ true → is_body w items ≡ true
stands_is_body w [] rest h = refl
stands_is_body w (a ∷ items) rest h =
    let p = and_parts _ (is_item_list w rest items) h in
    let q = and_parts (is_item w a) _ p.0 in
    and_from _ _ (and_from _ _ q.0 (item_body a (body_text items) rest q.1)) (stands_is_body w items rest p.1)

closed_by : (front : List ℕ) (w : Switches) (t : List ℕ) (items : List Item) → is_body w items ≡ true → front ++ body_text items ≡ t → IsClosedQuoted front w t
closed_by front w t items body spells = record {
  items = items;
  literal = record {
    spells = sym (append_assoc front (body_text items) (34 ∷ [])) ∙ ap (λ l. l ++ 34 ∷ []) spells;
    body = body;
    suffix = is_suffix-nil;
  };
  body = spells;
}

pub closes : (front : List ℕ) (w : Switches) (t : List ℕ) (items : List Item) (rest : List ℕ) → front ++ (body_text items ++ rest) ≡ t → is_item_list w rest items ≡ true → IsOpenRest rest → IsClosedQuoted front w t
closes front w t items rest spelled taken shape = go shape
  where
    whole : is_body w items ≡ true
    whole = stands_is_body w items rest taken

    go : IsOpenRest rest → IsClosedQuoted front w t
    go (inl none) = closed_by front w t items whole (ap (λ l. front ++ l) (sym (append-nil (body_text items)) ∙ ap (λ l. body_text items ++ l) (sym none)) ∙ spelled)
    go (inr (blanks, is, all)) =
        let last : IsBodyOf w (92 ∷ 10 ∷ blanks) (continuation blanks ∷ []) =
        record { spells = append-nil (92 ∷ 10 ∷ blanks); body = and_from _ _ (and_from _ _ all refl) refl } in
        let both = (quoted_bodies_join w (body_text items) (92 ∷ 10 ∷ blanks) items (continuation blanks ∷ []) (record { spells = refl; body = whole }) last refl).0 in
        closed_by front w t (items ++ continuation blanks ∷ []) both.body
        (ap (λ l. front ++ l) (both.spells ∙ ap (λ l. body_text items ++ l) (sym is)) ∙ spelled)

pub quoted_open : (front : List ℕ) (w : Switches) (t : List ℕ) (e : Refusal) → is_open e.kind ≡ true → IsQuotedRefusal front w t e → IsClosedQuoted front w t
quoted_open front w t e f h =
    let open_cause : is_open h.cause.kind ≡ true = subst (λ r. is_open r.kind ≡ true) (sym h.placed) f in
    closes front w t h.items h.rest h.spells h.taken (open_rest w h.rest h.cause open_cause h.decided)

-- Rests that are incomplete

-- an escape is a text
simple_scalar : (c : ℕ) → is_simple c ≡ true → is_scalar c ≡ true
simple_scalar c h = grind (arith, nat_tests)

digit_scalar : (c : ℕ) → is_ascii_hexdigit c ≡ true → is_scalar c ≡ true
digit_scalar c h = grind (arith, nat_tests)

inner_scalar : (c : ℕ) → is_hex_or_underscore c ≡ true → is_scalar c ≡ true
inner_scalar c h = grind (arith, nat_tests)

pub escape_is_text : (w : Switches) (e : Escape) → is_escape w e ≡ true → list_all is_scalar (escape_text e) ≡ true
escape_is_text w (simple_escape c) h = let p = and_parts (is_simple c) _ h in and_from _ _ (simple_scalar c p.0) refl
escape_is_text w (hex_escape c d) h =
    let p = and_parts _ (allows_value w (pair_value c d)) h in
    let q = and_parts _ (allows_byte w (pair_value c d)) p.0 in
    let r = and_parts (is_ascii_hexdigit c) (is_ascii_hexdigit d) q.0 in
    and_from _ _ (digit_scalar c r.0) (and_from _ _ (digit_scalar d r.1) refl)
escape_is_text w (unicode_escape inner) h =
    list_all-append is_scalar inner (125 ∷ []) (list_all-weaken _ _ inner_scalar inner (inner_of w inner h).all) refl

cut_or_more : (c : ℕ) (t x : List ℕ) →
    (without_last (c ∷ (t ++ x)) ≡ without_last (c ∷ t)) ⊎ ((y : List ℕ) × (without_last (c ∷ (t ++ x)) ≡ (c ∷ t) ++ y))
cut_or_more c t [] = inl (ap (λ l. without_last (c ∷ l)) (append-nil t))
cut_or_more c t (m ∷ x) = inr (without_last (m ∷ x), without_last-append (c ∷ t) m x)

-- an escape that is refused without the last character, and is whole once more is appended, is begun
escape_freed : (w : Switches) (t x : List ℕ) (e : Refusal) → escape_refusal w (without_last (92 ∷ t)) ≡ Some e → escape_refusal w (without_last (92 ∷ (t ++ x))) ≡ None →
    BeginsEscape w (92 ∷ t)
escape_freed w t x e h none = elim (cut_or_more 92 t x) [
  | inl same ↦ absurd (let told : escape_refusal w (without_last (92 ∷ t)) ≡ None = ap (escape_refusal w) (sym same) ∙ none in cc)
  | inr (y, same) ↦ go y (read_escape w (t ++ y) (ap (escape_refusal w) (sym same) ∙ none))
]
  where
    go : (y : List ℕ) → SomeEscape w (92 ∷ (t ++ y)) → BeginsEscape w (92 ∷ t)
    go y (esc, rest, has) = elim (front_of (escape_text esc) (92 ∷ t) rest y has.spells) [
      | inl (z, s) ↦ (esc, z, sym s, has.grammar)
      | inr (c, z, s) ↦ absurd (let told : escape_refusal w (without_last (92 ∷ t)) ≡ None =
          ap (λ l. escape_refusal w (without_last l)) s ∙ ap (escape_refusal w) (without_last-append (escape_text esc) c z) ∙ refusal_escape w esc (without_last (c ∷ z)) has.grammar in cc)
    ]

backslash_begins : (w : Switches) → BeginsEscape w (92 ∷ [])
backslash_begins w = (simple_escape 110, 110 ∷ [], refl, or_right w.allow_nul true refl)

backslash_freed : (w : Switches) (t x : List ℕ) (e : Refusal) → backslash_refusal w t ≡ Some e → backslash_refusal w (t ++ x) ≡ None → RestGoesOn w (92 ∷ t)
backslash_freed w [] x e h none = inr (inl (backslash_begins w))
backslash_freed w (c ∷ t) x e h none = go (c == 10) refl h none
  where
    blank : (b : Bool) → list_all is_blank (c ∷ t) ≡ b → c ≡ 10 → (if b then Some (without_span UnterminatedString) else None) ≡ Some e → RestGoesOn w (92 ∷ c ∷ t)
    blank false g at_byte h = cc
    blank true g at_byte h = inl (inr (t, ap (λ n. 92 ∷ n ∷ t) at_byte, (and_parts (is_blank c) (list_all is_blank t) g).1))

    go : (b : Bool) → (c == 10) ≡ b →
        (if b then (if list_all is_blank (c ∷ t) then Some (without_span UnterminatedString) else None) else escape_refusal w (without_last (92 ∷ c ∷ t))) ≡ Some e →
        (if b then (if list_all is_blank (c ∷ (t ++ x)) then Some (without_span UnterminatedString) else None) else escape_refusal w (without_last (92 ∷ c ∷ (t ++ x)))) ≡ None →
        RestGoesOn w (92 ∷ c ∷ t)
    go true g r n = blank (list_all is_blank (c ∷ t)) refl (eqb-true c 10 g) r
    go false g r n = inr (inl (escape_freed w (c ∷ t) x e r n))

gone : (b : Bool) (x : Refusal) (y y' : Option Refusal) (e : Refusal) → (if b then Some x else y) ≡ Some e → (if b then Some x else y') ≡ None → (y ≡ Some e) × (y' ≡ None)
gone true x y y' e h n = cc
gone false x y y' e h n = (h, n)

quote_freed : (q a b : Bool) (c : ℕ) (t x : List ℕ) (e : Refusal) → (c == 34) ≡ q → is_suffix t ≡ a → is_suffix (t ++ x) ≡ b →
    (if q && not a then Some (at_byte 1 (suffix_kind t)) else None) ≡ Some e →
    (if q && not b then Some (at_byte 1 (suffix_kind (t ++ x))) else None) ≡ None → c ∷ t ≡ 34 ∷ 95 ∷ []
quote_freed false a b c t x e q s s' h n = cc
quote_freed true true b c t x e q s s' h n = cc
quote_freed true false false c t x e q s s' h n = cc
quote_freed true false true c t x e q s s' h n =
    let at_byte : c ≡ 34 = eqb-true c 34 q in
    let more : t ≡ 95 ∷ [] = suffix_freed t x s s' in cc

rest_freed : (w : Switches) (c : ℕ) (t x : List ℕ) (e : Refusal) → item_refusal w (c ∷ t) ≡ Some e → item_refusal w (c ∷ (t ++ x)) ≡ None → RestGoesOn w (c ∷ t)
unfolding item_refusal
rest_freed w c t x e h none = go (c == 92) refl h none
  where
    go : (b : Bool) → (c == 92) ≡ b →
        (if b then backslash_refusal w t else (if c == 13 then Some (at_byte 0 CarriageReturn)
        else if not (allows_value w c) then Some (at_byte 0 NulByte)
        else if not (fits_charset w.unicode c) then Some (at_byte 0 NonAsciiInByteLiteral)
        else if (c == 34) && not (is_suffix t) then Some (at_byte 1 (suffix_kind t))
        else None)) ≡ Some e →
        (if b then backslash_refusal w (t ++ x) else (if c == 13 then Some (at_byte 0 CarriageReturn)
        else if not (allows_value w c) then Some (at_byte 0 NulByte)
        else if not (fits_charset w.unicode c) then Some (at_byte 0 NonAsciiInByteLiteral)
        else if (c == 34) && not (is_suffix (t ++ x)) then Some (at_byte 1 (suffix_kind (t ++ x)))
        else None)) ≡ None → RestGoesOn w (c ∷ t)
    go true g r n = subst (λ m. RestGoesOn w (m ∷ t)) (sym (eqb-true c 92 g)) (backslash_freed w t x e r n)
    go false g r n =
        let a = gone (c == 13) _ _ _ e r n in
        let b = gone (not (allows_value w c)) _ _ _ e a.0 a.1 in
        let d = gone (not (fits_charset w.unicode c)) _ _ _ e b.0 b.1 in
        inr (inr (quote_freed (c == 34) (is_suffix t) (is_suffix (t ++ x)) c t x e refl refl refl d.0 d.1))

pub begins_rest : (front : List ℕ) (w : Switches) (t : List ℕ) (e : Refusal) (h : IsQuotedRefusal front w t e) → BeginsBy (IsQuoted front w) t → RestGoesOn w h.rest
begins_rest front w t e h (x, q, text, quoted) = go h.rest h.spells h.taken h.decided
  where
    go : (rest : List ℕ) → front ++ (body_text h.items ++ rest) ≡ t → is_item_list w rest h.items ≡ true → item_refusal w rest ≡ Some h.cause → RestGoesOn w rest
    go [] spells taken told = inl (inl refl)
    go (c ∷ r) spells taken told = by (item_refusal w (c ∷ (r ++ x))) refl
      where
        by : (o : Option Refusal) → item_refusal w (c ∷ (r ++ x)) ≡ o → RestGoesOn w (c ∷ r)
        by (Some e') more = absurd (quoted_texts_are_not_refused front w (t ++ x) q _ quoted (refused_more front w t x h.items c r e' spells taken more))
        by None more = rest_freed w c r x h.cause told more

pub rest_begins : (front : List ℕ) (w : Switches) (t : List ℕ) (items : List Item) (rest : List ℕ) → front ++ (body_text items ++ rest) ≡ t → is_item_list w rest items ≡ true → RestGoesOn w rest → BeginsBy (IsQuoted front w) t
rest_begins front w t items rest spelled taken (inl shape) = let closed = closes front w t items rest spelled taken shape in (34 ∷ [], record { items = closed.items; suffix = [] }, refl, closed.literal)
rest_begins front w t items rest spelled taken (inr (inl (esc, x, spells, grammar))) =
    let last : IsBodyOf w (escape_text esc) (escape_item esc ∷ []) = record { spells = append-nil (escape_text esc); body = and_from _ _ (and_from _ _ grammar refl) refl } in
    let head = escape_head esc [] in
    let unblank : first_passes is_blank (escape_text esc) ≡ false = ap (first_passes is_blank) (sym (append-nil (escape_text esc)) ∙ head.2) in
    let both = (quoted_bodies_join w (body_text items) (escape_text esc) items (escape_item esc ∷ [])
    (record { spells = refl; body = stands_is_body w items rest taken }) last unblank).0 in
    let parts = and_parts _ _ (sym (all-append is_scalar rest x) ∙ ap (list_all is_scalar) spells ∙ escape_is_text w esc grammar) in (
      x ++ 34 ∷ [],
      record { items = items ++ escape_item esc ∷ []; suffix = [] },
      list_all-append is_scalar x (34 ∷ []) parts.1 refl,
      record {
        spells = ap (λ l. front ++ (l ++ 34 ∷ [])) (both.spells ∙ ap (λ l. body_text items ++ l) (sym spells) ∙ sym (append_assoc (body_text items) rest x))
            ∙ ap (λ l. front ++ l) (append_assoc (body_text items ++ rest) x (34 ∷ []))
            ∙ sym (append_assoc front (body_text items ++ rest) (x ++ 34 ∷ []))
            ∙ ap (λ l. l ++ (x ++ 34 ∷ [])) spelled;
        body = both.body;
        suffix = is_suffix-nil;
      },
    )
rest_begins front w t items rest spelled taken (inr (inr lone)) = (
  120 ∷ [],
  record { items = items; suffix = 95 ∷ 120 ∷ [] },
  refl,
  record {
    spells = ap (λ l. front ++ l) (ap (λ l. body_text items ++ (l ++ 120 ∷ [])) (sym lone) ∙ sym (append_assoc (body_text items) rest (120 ∷ [])))
        ∙ sym (append_assoc front (body_text items ++ rest) (120 ∷ []))
        ∙ ap (λ l. l ++ 120 ∷ []) spelled;
    body = stands_is_body w items rest taken;
    suffix = underscore_x;
  },
)

-- a refused quoted text begins a literal if and only if its rest is incomplete
pub quoted_begins : (front : List ℕ) (w : Switches) (t : List ℕ) (e : Refusal) → IsQuotedRefusal front w t e → BeginsBy (IsQuoted front w) t ↔ QuotedGoesOn front w t
quoted_begins front w t e h = (
  λ begins. record { items = h.items; rest = h.rest; spells = h.spells; taken = h.taken; goes_on = begins_rest front w t e h begins },
  λ goes. rest_begins front w t goes.items goes.rest goes.spells goes.taken goes.goes_on,
)

-- Texts that end with LF

open_kind : (w : Switches) (rest : List ℕ) (e : Refusal) → IsOpenRest rest → item_refusal w rest ≡ Some e → without_span UnterminatedString ≡ e
unfolding item_refusal
open_kind w rest e (inl none) told = let h : Some (without_span UnterminatedString) ≡ Some e = ap (item_refusal w) (sym none) ∙ told in cc
open_kind w rest e (inr (blanks, is, all)) told =
    let h : (if list_all is_blank blanks then Some (without_span UnterminatedString) else None) ≡ Some e = ap (item_refusal w) (sym is) ∙ told in
    let g : Some (without_span UnterminatedString) ≡ Some e = rw all at h in cc

-- a refused quoted text that ends with LF begins a literal if and only if its refusal is open
pub quoted_line_end : (front : List ℕ) (w : Switches) (t : List ℕ) (e : Refusal) → IsQuotedRefusal front w (t ++ 10 ∷ []) e →
    (is_open e.kind ≡ true) ↔ BeginsBy (IsQuoted front w) (t ++ 10 ∷ [])
quoted_line_end front w t e h = (shut, λ begins. go h.rest h.spells h.decided (begins_rest front w (t ++ 10 ∷ []) e h begins))
  where
    shut : is_open e.kind ≡ true → BeginsBy (IsQuoted front w) (t ++ 10 ∷ [])
    shut f = let closed = quoted_open front w (t ++ 10 ∷ []) e f h in (34 ∷ [], record { items = closed.items; suffix = [] }, refl, closed.literal)

    feed : (c : ℕ) (r : List ℕ) → front ++ (body_text h.items ++ c ∷ r) ≡ t ++ 10 ∷ [] → last_passes is_line_feed (c ∷ r) ≡ true
    feed c r spells = sym (last_passes-append is_line_feed (front ++ body_text h.items) c r)
        ∙ ap (last_passes is_line_feed) (append_assoc front (body_text h.items) (c ∷ r) ∙ spells) ∙ line_feed_last t

    by_shape : (rest : List ℕ) → item_refusal w rest ≡ Some h.cause → IsOpenRest rest → is_open e.kind ≡ true
    by_shape rest told shape =
        let same : without_span UnterminatedString ≡ h.cause = open_kind w rest h.cause shape told in
        subst (λ r. is_open r.kind ≡ true) h.placed (subst (λ r. is_open r.kind ≡ true) same refl)

    go : (rest : List ℕ) → front ++ (body_text h.items ++ rest) ≡ t ++ 10 ∷ [] → item_refusal w rest ≡ Some h.cause → RestGoesOn w rest → is_open e.kind ≡ true
    go rest spells told (inl shape) = by_shape rest told shape
    go [] spells told (inr goes) = by_shape [] told (inl refl)
    go (c ∷ r) spells told (inr (inl (esc, x, same, grammar))) =
        absurd (no_line_feed_last (c ∷ r) x (ap (list_all is_other) same ∙ escape_other w esc grammar) (feed c r spells))
    go (c ∷ r) spells told (inr (inr lone)) = absurd (false≢true (ap (last_passes is_line_feed) (sym lone) ∙ feed c r spells))

-- after a final refusal no extension of the text is a literal
pub quoted_finality : (front : List ℕ) (w : Switches) (t : List ℕ) (e : Refusal) → IsQuotedRefusal front w t e → is_final e.kind ≡ true → EndsBy (IsQuoted front w) t
quoted_finality front w t e h f x q quoted = quoted_texts_are_not_refused front w (t ++ x) q e quoted (quoted_final front w t x e f h)

-- the kind of an open refusal
pub quoted_open_kind : (front : List ℕ) (w : Switches) (t : List ℕ) (e : Refusal) → is_open e.kind ≡ true → IsQuotedRefusal front w t e → UnterminatedString ≡ e.kind
quoted_open_kind front w t e f h =
    let open_cause : is_open h.cause.kind ≡ true = subst (λ r. is_open r.kind ≡ true) (sym h.placed) f in
    ap (λ r. r.kind) (open_kind w h.rest h.cause (open_rest w h.rest h.cause open_cause h.decided) h.decided) ∙ ap (λ r. r.kind) h.placed

-- The laws

pub quoted_items_stay : QuotedItemsStay
quoted_items_stay w [] more items stands = stand_anywhere w items more stands
quoted_items_stay w (c ∷ rest) more items stands = stand_more w items c rest more stands

pub final_quoted_refusals_stay : FinalQuotedRefusalsStay
final_quoted_refusals_stay front w t more r refused final = quoted_final front w t more r final refused
