-- The spans of refusals lie within the text.
use Rattle.std.proofs.Common.{◌≡◌, ℕ, ◌+◌, ◌<◌, ◌≤◌, Bool, true, false, not, ◌&&◌, ◌||◌, cond, zero, suc, leb, ltb, List, [], ◌∷◌, ◌++◌, length, drop, Option, Some, None, refl, sym, ap, ◌∙◌, subst, arith, ⊎_elim, append_assoc, length-append, append-nil, take-append-drop, lit<}
use Rattle.std.specs.Prelude.{◌==◌, if◌then◌else◌, IfSome, count_by, take_while, slice_index}
use Rattle.std.specs.Char.{is_ascii_hexdigit}
use Rattle.std.specs.List.{list_all, list_any, prefix_len, before_first}
use Rattle.std.proofs.lemmas.Bool.{and_parts, and_from, and_cases, eqb-true, ltb-true, ltb-false, leb-false}
use Rattle.std.proofs.lemmas.List.Folds.{list_all-append}
use Rattle.std.proofs.lemmas.List.Sums.{take_while-cons, sum_by-cons}
use Rattle.litrs_base.specs.Refusal.{Refusal, IsInText, shifted, shifted_span}
use Rattle.litrs_base.specs.Characters.{is_scalar}
use Rattle.std.specs.declared.ops.Range.{Range}
use Rattle.litrs_base.specs.Text.{is_empty, PointsInto, byte_len, first_passes}
use Rattle.litrs_base.specs.declared.quotes.Switches.{Switches}
use Rattle.litrs_grammar.specs.Escape.{escape_refusal, hex_refusal, unicode_refusal, inner_refusal, is_simple, is_hex_or_underscore, has_two_bytes, place_after, allows_value, allows_byte, pair_value, hex_value}
use Rattle.litrs_grammar.specs.Laws.Escape.{EscapeSpansLieInText}
use Rattle.litrs_base.proofs.Spans.{byte_len-append}
use Rattle.litrs_base.proofs.ByteLen.{byte_len_one_ascii, byte_len_all_ascii, length-le-byte_len}
use Rattle.litrs_base.proofs.ListTests.{Splits, split_first, before_first-split, take_while_whole, if_true, if_false}
use Rattle.litrs_grammar.proofs.Laws.Escape.{hex_or_underscore_ascii, has_stranger}

-- the bytes from start up to end lie within the text, and start is a character boundary
abbrev pub Marks : List ℕ → ℕ → ℕ → Type 0
Marks t start end = PointsInto t (record { start = start; end = end })

-- a span from the start
pub marks_start : (t : List ℕ) (end : ℕ) → end ≤ byte_len t → Marks t 0 end
marks_start t end h = record { front = []; rest = t; cut = refl; start = refl; in_order = omega arith; within = h }

-- the byte after some front
pub marks_byte : (before after t : List ℕ) (place : ℕ) → before ++ after ≡ t → byte_len before ≡ place → 0 < length after → Marks t place (place + 1)
marks_byte before after t place spells starts some =
    let size : byte_len (before ++ after) ≡ byte_len t = ap byte_len spells in
    let more = length-le-byte_len after in
    record { front = before; rest = after; cut = spells; start = sym starts; in_order = omega arith; within = omega (arith, byte_len-append before after) }

-- the same span in a longer text, and in one that begins earlier
pub marks_on : (t more : List ℕ) (start end : ℕ) → Marks t start end → Marks (t ++ more) start end
marks_on t more start end m =
    let within : end ≤ byte_len t = m.within in
    record {
      front = m.front;
      rest = m.rest ++ more;
      cut = sym (append_assoc m.front m.rest more) ∙ ap (λ l. l ++ more) m.cut;
      start = m.start;
      in_order = m.in_order;
      within = omega (arith, byte_len-append t more);
    }

pub marks_later : (front t : List ℕ) (start end : ℕ) → Marks t start end → Marks (front ++ t) (start + byte_len front) (end + byte_len front)
marks_later front t start end m =
    let starts : start ≡ byte_len m.front = m.start in
    let within : end ≤ byte_len t = m.within in
    let in_order : start ≤ end = m.in_order in
    record {
      front = front ++ m.front;
      rest = m.rest;
      cut = append_assoc front m.front m.rest ∙ ap (λ l. front ++ l) m.cut;
      start = (let both = byte_len-append front m.front in omega arith);
      in_order = omega arith;
      within = omega (arith, byte_len-append front t);
    }

-- each refusal that a table may give
abbrev pub AllFit : List ℕ → Option Refusal → Type 0
AllFit t o = IfSome o (λ e. IsInText t e)

pub fit_if : (t : List ℕ) (b : Bool) (x : Refusal) (y : Option Refusal) → (b ≡ true → IsInText t x) → (b ≡ false → AllFit t y) → AllFit t (if b then Some x else y)
fit_if t true x y f g = f refl
fit_if t false x y f g = g refl

pub fit_unless : (t : List ℕ) (b : Bool) (x : Refusal) (y : Option Refusal) → (b ≡ false → IsInText t x) → (b ≡ true → AllFit t y) → AllFit t (if not b then Some x else y)
fit_unless t true x y f g = g refl
fit_unless t false x y f g = f refl

pub fit_either : (t : List ℕ) (b : Bool) (x y : Option Refusal) → (b ≡ true → AllFit t x) → (b ≡ false → AllFit t y) → AllFit t (if b then x else y)
fit_either t true x y f g = f refl
fit_either t false x y f g = g refl

pub fit_some : (t : List ℕ) (o : Option Refusal) (e : Refusal) → AllFit t o → o ≡ Some e → IsInText t e
fit_some t o e all is = let P : Option Refusal → Type 0 = λ o. AllFit t o in subst P is all

pub fit_on : (t more : List ℕ) (o : Option Refusal) → AllFit t o → AllFit (t ++ more) o
fit_on t more None h = h
fit_on t more (Some e) h = go e.span h
  where
    go : (s : Option (Range ℕ)) → IfSome s (PointsInto t) → IfSome s (PointsInto (t ++ more))
    go None h = h
    go (Some span) h = marks_on t more span.start span.end h

pub fit_later : (front t : List ℕ) (e : Refusal) → IsInText t e → IsInText (front ++ t) (shifted (byte_len front) e)
fit_later front t e h = go e.span h
  where
    go : (s : Option (Range ℕ)) → IfSome s (PointsInto t) → IfSome (shifted_span (byte_len front) s) (PointsInto (front ++ t))
    go None h = h
    go (Some span) h = marks_later front t span.start span.end h

-- after `\x`
two_bytes_there : (t : List ℕ) → has_two_bytes t ≡ true → 2 ≤ byte_len t
two_bytes_there [] h = cc
two_bytes_there (c ∷ []) h = let two = eqb-true (byte_len (c ∷ [])) 2 h in omega arith
two_bytes_there (c ∷ d ∷ t) h = length_two (length-le-byte_len (c ∷ d ∷ t))
  where
    length_two : length (c ∷ d ∷ t) ≤ byte_len (c ∷ d ∷ t) → 2 ≤ byte_len (c ∷ d ∷ t)
    length_two le = omega arith

prefixed : (c : ℕ) (t : List ℕ) → c < 128 → byte_len (92 ∷ c ∷ t) ≡ 2 + byte_len t
prefixed c t h =
    let one = byte_len_one_ascii 92 (c ∷ t) (lit< tt) in
    let two = byte_len_one_ascii c t h in
    omega arith

hex_fits : (w : Switches) (t : List ℕ) → AllFit (92 ∷ 120 ∷ t) (hex_refusal w t)
hex_fits w t =
    let size = prefixed 120 t (lit< tt) in
    fit_unless _ (has_two_bytes t) _ _ (λ _. marks_start (92 ∷ 120 ∷ t) (2 + byte_len t) (omega arith))
    (λ there. let two = two_bytes_there t there in
    let four : Marks (92 ∷ 120 ∷ t) 0 4 = marks_start (92 ∷ 120 ∷ t) 4 (omega arith) in
    fit_unless _ (is_ascii_hexdigit (slice_index t 0) && is_ascii_hexdigit (slice_index t 1)) _ _ (λ _. four)
    (λ _. fit_unless _ (allows_byte w (pair_value (slice_index t 0) (slice_index t 1))) _ _ (λ _. four)
    (λ _. fit_unless _ (allows_value w (pair_value (slice_index t 0) (slice_index t 1))) _ None (λ _. four) (λ _. tt))))

-- after `\u{`, up to the first `}`
take_while_passes : (p : ℕ → Bool) (xs : List ℕ) → list_all p (take_while p xs) ≡ true
take_while_passes p [] = refl
take_while_passes p (x ∷ xs) = rw (take_while-cons p x xs) (go (p x) refl (take_while_passes p xs))
  where
    go : (b : Bool) → p x ≡ b → list_all p (take_while p xs) ≡ true → list_all p (cond b (x ∷ take_while p xs) []) ≡ true
    go true e rec = and_from _ _ e rec
    go false e rec = refl

-- the place after n digits, if the front of the text has more
abbrev PlaceIn : ℕ → List ℕ → List ℕ → Type 0
PlaceIn n front more = (a : List ℕ) × (c : ℕ) × (b : List ℕ) × (a ++ c ∷ b ≡ front) × (length a ≡ place_after n is_ascii_hexdigit (front ++ more))

count_yes : (c : ℕ) (t : List ℕ) → is_ascii_hexdigit c ≡ true → count_by is_ascii_hexdigit (c ∷ t) ≡ 1 + count_by is_ascii_hexdigit t
count_yes c t e = sum_by-cons (λ c. cond (is_ascii_hexdigit c) 1 0) c t ∙ ap (λ b. cond b 1 0 + count_by is_ascii_hexdigit t) e

count_no : (c : ℕ) (t : List ℕ) → is_ascii_hexdigit c ≡ false → count_by is_ascii_hexdigit (c ∷ t) ≡ 0 + count_by is_ascii_hexdigit t
count_no c t e = sum_by-cons (λ c. cond (is_ascii_hexdigit c) 1 0) c t ∙ ap (λ b. cond b 1 0 + count_by is_ascii_hexdigit t) e

place_in : (n : ℕ) (front more : List ℕ) → n < count_by is_ascii_hexdigit front → PlaceIn n front more
place_in n [] more h = absurd (omega arith)
place_in zero (c ∷ front) more h = go (is_ascii_hexdigit c) refl (place_in zero front more)
  where
    go : (b : Bool) → is_ascii_hexdigit c ≡ b → (0 < count_by is_ascii_hexdigit front → PlaceIn 0 front more) → PlaceIn 0 (c ∷ front) more
    go true e rec = ([], c, front, refl, sym (if_true _ _ _ e))
    go false e rec =
        let count = count_no c front e in
        let later = rec (omega arith) in
        (c ∷ later.0, later.1, later.2, ap (λ l. c ∷ l) later.3, (let at = later.4 in let here : length (c ∷ later.0) ≡ 1 + place_after 0 is_ascii_hexdigit (front ++ more) = omega arith in here ∙ sym (if_false _ _ _ e)))
place_in (suc n) (c ∷ front) more h = go (is_ascii_hexdigit c) refl (place_in n front more) (place_in (suc n) front more)
  where
    go : (b : Bool) → is_ascii_hexdigit c ≡ b → (n < count_by is_ascii_hexdigit front → PlaceIn n front more) →
        (suc n < count_by is_ascii_hexdigit front → PlaceIn (suc n) front more) → PlaceIn (suc n) (c ∷ front) more
    go true e rec other =
        let count = count_yes c front e in
        let later = rec (omega arith) in
        let m : (if is_ascii_hexdigit c then n else suc n) ≡ n = if_true _ _ _ e in (
          c ∷ later.0,
          later.1,
          later.2,
          ap (λ l. c ∷ l) later.3,
          (let at = later.4 in let here : length (c ∷ later.0) ≡ 1 + place_after n is_ascii_hexdigit (front ++ more) = omega arith in
              here ∙ ap (λ k. 1 + place_after k is_ascii_hexdigit (front ++ more)) (sym m)),
        )
    go false e rec other =
        let count = count_no c front e in
        let later = other (omega arith) in
        let m : (if is_ascii_hexdigit c then n else suc n) ≡ suc n = if_false _ _ _ e in (
          c ∷ later.0,
          later.1,
          later.2,
          ap (λ l. c ∷ l) later.3,
          (let at = later.4 in let here : length (c ∷ later.0) ≡ 1 + place_after (suc n) is_ascii_hexdigit (front ++ more) = omega arith in
              here ∙ ap (λ k. 1 + place_after k is_ascii_hexdigit (front ++ more)) (sym m)),
        )

opening : (t : List ℕ) → byte_len (92 ∷ 117 ∷ 123 ∷ t) ≡ 3 + byte_len t
opening t =
    let a = prefixed 117 (123 ∷ t) (lit< tt) in
    let b = byte_len_one_ascii 123 t (lit< tt) in
    omega arith

-- a byte after hex digits and underscores
marks_inner : (inner : List ℕ) (c : ℕ) (ys r a b : List ℕ) → inner ++ c ∷ ys ≡ r → a ++ b ≡ inner → list_all is_hex_or_underscore a ≡ true →
    Marks (92 ∷ 117 ∷ 123 ∷ r) (3 + length a) (3 + length a + 1)
marks_inner inner c ys r a b spells cut passes =
    let size = byte_len_all_ascii is_hex_or_underscore hex_or_underscore_ascii a passes in
    let start : byte_len (92 ∷ 117 ∷ 123 ∷ a) ≡ 3 + length a = opening a ∙ ap (λ n. 3 + n) size in
    marks_byte (92 ∷ 117 ∷ 123 ∷ a) (b ++ c ∷ ys) (92 ∷ 117 ∷ 123 ∷ r) (3 + length a)
    (ap (λ l. 92 ∷ 117 ∷ 123 ∷ l) (sym (append_assoc a b (c ∷ ys)) ∙ ap (λ l. l ++ c ∷ ys) cut ∙ spells))
    start (omega (arith, length-append b (c ∷ ys)))

-- the front of hex digits and underscores that has the seventh digit
seventh : (inner : List ℕ) (c : ℕ) (ys r : List ℕ) → inner ++ c ∷ ys ≡ r → (front more : List ℕ) → front ++ more ≡ inner → list_all is_hex_or_underscore front ≡ true →
    6 < count_by is_ascii_hexdigit front →
    Marks (92 ∷ 117 ∷ 123 ∷ r) (3 + place_after 6 is_ascii_hexdigit inner) (3 + place_after 6 is_ascii_hexdigit inner + 1)
seventh inner c ys r spells front more cut passes many =
    let at = place_in 6 front more many in
    let before = and_parts (list_all is_hex_or_underscore at.0) _ (sym (list_all-append is_hex_or_underscore at.0 (at.1 ∷ at.2)) ∙ ap (list_all is_hex_or_underscore) at.3 ∙ passes) in
    let place : length at.0 ≡ place_after 6 is_ascii_hexdigit inner = at.4 ∙ ap (place_after 6 is_ascii_hexdigit) cut in
    subst (λ n. Marks (92 ∷ 117 ∷ 123 ∷ r) (3 + n) (3 + n + 1)) place
    (marks_inner inner c ys r at.0 (at.1 ∷ at.2 ++ more) spells
    (sym (append_assoc at.0 (at.1 ∷ at.2) more) ∙ ap (λ l. l ++ more) at.3 ∙ cut) before.0)

seventh_somewhere : (inner : List ℕ) (c : ℕ) (ys r : List ℕ) → inner ++ c ∷ ys ≡ r → has_stranger inner ≡ false → 6 < count_by is_ascii_hexdigit inner →
    Marks (92 ∷ 117 ∷ 123 ∷ r) (3 + place_after 6 is_ascii_hexdigit inner) (3 + place_after 6 is_ascii_hexdigit inner + 1)
seventh_somewhere inner c ys r spells none many =
    let digits = take_while is_hex_or_underscore inner in
    ⊎_elim
    (λ e. seventh inner c ys r spells inner [] (append-nil inner) (take_while_whole is_hex_or_underscore inner (ltb-false (length digits) (length inner) e)) many)
    (λ e. seventh inner c ys r spells digits (drop (prefix_len is_hex_or_underscore inner) inner) (take-append-drop (prefix_len is_hex_or_underscore inner) inner)
    (take_while_passes is_hex_or_underscore inner) (leb-false (count_by is_ascii_hexdigit digits) 6 e))
    (and_cases (ltb (length digits) (length inner)) (leb (count_by is_ascii_hexdigit digits) 6) none)

inner_fits : (w : Switches) (inner : List ℕ) (c : ℕ) (ys r : List ℕ) → inner ++ c ∷ ys ≡ r → AllFit (92 ∷ 117 ∷ 123 ∷ r) (inner_refusal w inner)
inner_fits w inner c ys r spells =
    let size : length (inner ++ c ∷ ys) ≡ length r = ap length spells in
    let more = length-le-byte_len (92 ∷ 117 ∷ 123 ∷ r) in
    let whole : Marks (92 ∷ 117 ∷ 123 ∷ r) 0 (4 + length inner) = marks_start (92 ∷ 117 ∷ 123 ∷ r) (4 + length inner) (omega (arith, length-append inner (c ∷ ys))) in
    let digits = take_while is_hex_or_underscore inner in
    fit_if _ (is_empty inner || first_passes (λ c. c == 95) inner) _ _ (λ _. marks_inner inner c ys r [] inner spells refl refl)
    (λ _. fit_if _ (has_stranger inner) _ _
    (λ _. marks_inner inner c ys r digits (drop (prefix_len is_hex_or_underscore inner) inner) spells (take-append-drop (prefix_len is_hex_or_underscore inner) inner) (take_while_passes is_hex_or_underscore inner))
    (λ none. fit_if _ (ltb 6 (count_by is_ascii_hexdigit inner)) _ _ (λ e. seventh_somewhere inner c ys r spells none (ltb-true 6 (count_by is_ascii_hexdigit inner) e))
    (λ _. fit_unless _ (allows_value w (hex_value inner)) _ _ (λ _. whole)
    (λ _. fit_unless _ (is_scalar (hex_value inner)) _ None (λ _. whole) (λ _. tt)))))

braced_fits : (w : Switches) (r : List ℕ) → Splits (λ c. c == 125) r → AllFit (92 ∷ 117 ∷ 123 ∷ r) (inner_refusal w (before_first (λ c. c == 125) r))
braced_fits w r (inner, c, ys, s) =
    let same : before_first (λ c. c == 125) r ≡ inner =
    subst (λ l. before_first (λ c. c == 125) l ≡ inner) s.spells (before_first-split (λ c. c == 125) inner c ys s.before s.passes) in
    subst (λ l. AllFit (92 ∷ 117 ∷ 123 ∷ r) (inner_refusal w l)) (sym same) (inner_fits w inner c ys r s.spells)

two_long : (c : ℕ) (t : List ℕ) → Marks (92 ∷ c ∷ t) 0 2
two_long c t = let size = length-le-byte_len (92 ∷ c ∷ t) in marks_start (92 ∷ c ∷ t) 2 (omega arith)

unicode_fits : (w : Switches) (t : List ℕ) → AllFit (92 ∷ 117 ∷ t) (unicode_refusal w t)
unicode_fits w [] = fit_unless _ w.unicode _ _ (λ _. two_long 117 []) (λ _. two_long 117 [])
unicode_fits w (c ∷ r) =
    let size = prefixed 117 (c ∷ r) (lit< tt) in
    fit_unless _ w.unicode _ _ (λ _. two_long 117 (c ∷ r))
    (λ _. fit_unless _ (c == 123) _ _ (λ _. two_long 117 (c ∷ r))
    (λ brace. let at : c ≡ 123 = eqb-true c 123 brace in
    fit_unless _ (list_any (λ c. c == 125) (c ∷ r)) _ _ (λ _. marks_start (92 ∷ 117 ∷ c ∷ r) (2 + byte_len (c ∷ r)) (omega arith))
    (λ any. subst (λ n. AllFit (92 ∷ 117 ∷ n ∷ r) (inner_refusal w (before_first (λ c. c == 125) r))) (sym at)
    (braced_fits w r (split_first _ r (subst (λ n. ((n == 125) || list_any (λ c. c == 125) r) ≡ true) at any))))))

pub escape_fits : (w : Switches) (t : List ℕ) → AllFit (92 ∷ t) (escape_refusal w (92 ∷ t))
unfolding escape_refusal
escape_fits w [] = marks_start (92 ∷ []) 1 (length-le-byte_len (92 ∷ []))
escape_fits w (c ∷ t) =
    fit_if _ ((c == 48) && not w.allow_nul) _ _ (λ _. two_long c t)
    (λ _. fit_either _ (c == 120) (hex_refusal w t) _ (λ e. subst (λ n. AllFit (92 ∷ n ∷ t) (hex_refusal w t)) (sym (eqb-true c 120 e)) (hex_fits w t))
    (λ _. fit_either _ (c == 117) (unicode_refusal w t) _ (λ e. subst (λ n. AllFit (92 ∷ n ∷ t) (unicode_refusal w t)) (sym (eqb-true c 117 e)) (unicode_fits w t))
    (λ _. fit_either _ (is_simple c) None _ (λ _. tt) (λ _. two_long c t))))

pub escape_spans_lie_in_text : EscapeSpansLieInText
escape_spans_lie_in_text w t e told = fit_some (92 ∷ t) (escape_refusal w (92 ∷ t)) e (escape_fits w t) told
