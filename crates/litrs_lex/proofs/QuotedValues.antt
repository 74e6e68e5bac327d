-- The value of a quoted literal, from what is read of its body.
use Rattle.std.proofs.Common.{◌≡◌, ℕ, ◌+◌, ◌-◌, ◌≤◌, ◌<◌, ◌^◌, ◌==◌, Bool, true, false, not, ◌||◌, List, [], ◌∷◌, ◌++◌, length, drop, take, refl, sym, ap, subst, ◌∙◌, append_assoc, length-append, arith, inl, inr, Some, None, Option}
use Rattle.std.specs.List.{list_all}
use Rattle.std.specs.Prelude.{◌⊎◌, ◌≢◌, Result, Ok, Err, IfOk, IfErr, if◌then◌else◌, option_map}
use Rattle.std.specs.Str.{chars, IsUtf8, IsCharBoundary}
use Rattle.std.proofs.Math.Utf8.{scalars}
use Rattle.std.proofs.lemmas.Bool.{true≢false, and_parts, and_from, ne_eqb, eq-eqb}
use Rattle.std.proofs.lemmas.List.{length-take-le, length-drop, append_cancel_left}
use Rattle.std.proofs.lemmas.Str.{scalars-chars}
use Rattle.litrs_base.specs.declared.err.ParseError.{ParseError}
use Rattle.litrs_base.specs.Characters.{is_scalar}
use Rattle.litrs_base.specs.Refusal.{Refusal, refusal_of, shifted, shifted_span, char_span_of, MovesWithin}
use Rattle.litrs_base.specs.Text.{is_empty, first_passes}
use Rattle.litrs_base.specs.declared.quotes.Switches.{Switches}
use Rattle.litrs_grammar.specs.Quoted.{Item, plain_item, escape_item, continuation, item_text, item_value, is_item, is_complete_before, takes_all_blanks, is_plain, is_body, body_text, body_value, is_item_list, QuotedParts, IsQuoted, item_refusal}
use Rattle.litrs_grammar.proofs.QuotedItems.{stands_body, body_stands, same_item, quote_no_item}
use Rattle.litrs_grammar.proofs.Laws.Quoted.{quoted_texts_are_unique, quoted_texts_are_not_refused}
use Rattle.litrs_grammar.proofs.Laws.Value.{values_without_byte_escapes_are_utf8, part_is_text}
use Rattle.litrs_lex.specs.QuotedCut.{IsQuotedRefused, IsQuotedValue, IsOutOfMemory, IsQuotedOutOfMemory}
use Rattle.litrs_lex.specs.QuotedItems.{IsPlainRun}
use Rattle.litrs_lex.specs.Reading.{IsReadTo, IsReadBody, IsBodyRefused, IsRestRefused, IsReadAsValue, IsLongerThan, HasValueWithin}
use Rattle.litrs_lex.proofs.QuotedBytes.{closed_of}
use Rattle.litrs_lex.proofs.QuotedCuts.{cut_of, refused_of, refuses}
use Rattle.litrs_lex.proofs.Readings.{read_none, read_run}
use Rattle.litrs_lex.proofs.Sinks.{room_of}

-- if the text is a literal, the items read are its own
value_by : (w : Switches) (bytes : List ℕ) (offset place : ℕ) (h : List ℕ → Type 0) (q : QuotedParts) (o : Option Refusal) → (b : IsReadBody w bytes offset h place) →
    IsQuoted (chars (take offset bytes)) w (chars bytes) q → item_refusal w (chars (drop place bytes)) ≡ o → body_value b.read.items ≡ body_value q.items
value_by w bytes offset place h q None b is free =
    let front = chars (take offset bytes) in
    let rest = chars (drop place bytes) in
    let closed = closed_of w rest (inl b.quote) free in
    let mine : IsQuoted front w (chars bytes) (record { items = b.read.items; suffix = drop 1 rest }) = record {
      spells = ap (λ l. front ++ (body_text b.read.items ++ l)) closed.0 ∙ b.read.spells;
      body = stands_body w b.read.items (drop 1 rest) (subst (λ l. is_item_list w l b.read.items ≡ true) (sym closed.0) b.read.taken);
      suffix = closed.1;
    } in
    ap (λ (p : QuotedParts). body_value p.items) (quoted_texts_are_unique front w (chars bytes) _ q mine is)
value_by w bytes offset place h q (Some e) b is told =
    absurd (quoted_texts_are_not_refused (chars (take offset bytes)) w (chars bytes) q _ is (record {
      items = b.read.items;
      rest = chars (drop place bytes);
      cause = e;
      spells = b.read.spells;
      taken = b.read.taken;
      decided = told;
      placed = refl;
    }))

pub whole_value : (w : Switches) (bytes : List ℕ) (offset place : ℕ) (h : List ℕ → Type 0) (q : QuotedParts) → (b : IsReadBody w bytes offset h place) →
    IsQuoted (chars (take offset bytes)) w (chars bytes) q → body_value b.read.items ≡ body_value q.items
whole_value w bytes offset place h q b is = value_by w bytes offset place h q (item_refusal w (chars (drop place bytes))) b is refl

pub whole_held : (w : Switches) (bytes value : List ℕ) (offset place : ℕ) (q : QuotedParts) → (b : IsReadBody w bytes offset (λ v. value ≡ v) place) →
    IsQuoted (chars (take offset bytes)) w (chars bytes) q → value ≡ body_value q.items
whole_held w bytes value offset place q b is = b.read.held ∙ whole_value w bytes offset place _ q b is

-- Items at the front of a body are its first ones, so their value is at most as long as its value
first_items : (w : Switches) (items others : List Item) (x s : List ℕ) → is_item_list w x items ≡ true → is_item_list w (34 ∷ s) others ≡ true →
    body_text items ++ x ≡ body_text others ++ 34 ∷ s → length (body_value items) ≤ length (body_value others)
first_items w [] others x s h g same = omega arith
first_items w (a ∷ items) [] x s h g same =
    let p = and_parts _ (is_item_list w x items) h in
    let q = and_parts (is_item w a) _ p.0 in
    absurd (quote_no_item w s a (body_text items ++ x) q.0 q.1 (sym (append_assoc (item_text a) (body_text items) x) ∙ same))
first_items w (a ∷ items) (b ∷ others) x s h g same =
    let p = and_parts _ (is_item_list w x items) h in
    let q = and_parts (is_item w a) _ p.0 in
    let p' = and_parts _ (is_item_list w (34 ∷ s) others) g in
    let q' = and_parts (is_item w b) _ p'.0 in
    let first = same_item w a b (body_text items ++ x) (body_text others ++ 34 ∷ s) q.0 q'.0 q.1 q'.1
    (sym (append_assoc (item_text a) (body_text items) x) ∙ same ∙ append_assoc (item_text b) (body_text others) (34 ∷ s)) in
    let rest = first_items w items others x s p.1 p'.1 first.1 in
    omega (arith, ap (λ i. length (item_value i)) first.0, length-append (item_value a) (body_value items), length-append (item_value b) (body_value others))

pub begun_value : (w : Switches) (bytes : List ℕ) (offset place : ℕ) (h : List ℕ → Type 0) (q : QuotedParts) → (r : IsReadTo w bytes offset place h) →
    IsQuoted (chars (take offset bytes)) w (chars bytes) q → length (body_value r.items) ≤ length (body_value q.items)
begun_value w bytes offset place h q r is =
    first_items w r.items q.items (chars (drop place bytes)) q.suffix r.taken (body_stands w q.items q.suffix is.body)
    (append_cancel_left (chars (take offset bytes)) _ _ (r.spells ∙ sym is.spells))

-- a value that fits is at most as long as the room, and as a greater one
pub within_is_not_longer : (w : Switches) (bytes : List ℕ) (offset room more : ℕ) → HasValueWithin w bytes offset room → room ≤ more → IsLongerThan w bytes offset more → ⊥
within_is_not_longer w bytes offset room more within kept (place, read) =
    let most = begun_value w bytes offset place _ within.parts read within.grammar in let longer = read.held in let fits = within.fits in omega arith

-- a refused text is not a literal
pub none_refused : (w : Switches) (bytes : List ℕ) (offset : ℕ) (e : ParseError) (q : QuotedParts) → IsBodyRefused w bytes offset e →
    IsQuoted (chars (take offset bytes)) w (chars bytes) q → ⊥
none_refused w bytes offset e q refused is = quoted_texts_are_not_refused (chars (take offset bytes)) w (chars bytes) q _ is refused.table

-- the body has no backslash
pub none_of : (w : Switches) (bytes : List ℕ) (offset place n : ℕ) (h : List ℕ → Type 0) → IsUtf8 bytes → IsCharBoundary bytes offset → (b : IsReadBody w bytes offset h place) →
    n ≡ length (body_value b.read.items) → item_refusal w (chars (drop place bytes)) ≡ None → n ≡ place - offset → IsQuotedValue w bytes offset None (place + 1)
none_of w bytes offset place n h u at b is free same = record {
  cut = record { value_len = n; has_escape = not (n == place - offset); start_suffix = place + 1 };
  is_cut = cut_of w bytes offset place n h u at b is free;
  place = refl;
  given = sym (ap not (eq-eqb n (place - offset) same));
  is_value = tt;
}

-- the body has one
pub some_of : (w : Switches) (bytes : List ℕ) (offset place n : ℕ) (h : List ℕ → Type 0) → IsUtf8 bytes → IsCharBoundary bytes offset → (b : IsReadBody w bytes offset h place) →
    n ≡ length (body_value b.read.items) → item_refusal w (chars (drop place bytes)) ≡ None → (n ≡ place - offset → ⊥) → (v : List ℕ) →
    ((q : QuotedParts) → IsQuoted (chars (take offset bytes)) w (chars bytes) q → v ≡ body_value q.items) → IsQuotedValue w bytes offset (Some v) (place + 1)
some_of w bytes offset place n h u at b is free other v held =
    let cut = cut_of w bytes offset place n h u at b is free in record {
      cut = record { value_len = n; has_escape = not (n == place - offset); start_suffix = place + 1 };
      is_cut = cut;
      place = refl;
      given = sym (ap not (ne_eqb n (place - offset) other));
      is_value = held cut.parts cut.only.0;
    }

-- it has one, and its value cannot be allocated
pub no_memory_of : (w : Switches) (bytes : List ℕ) (offset place n : ℕ) (h : List ℕ → Type 0) (e : ParseError) → IsUtf8 bytes → IsCharBoundary bytes offset →
    (b : IsReadBody w bytes offset h place) → n ≡ length (body_value b.read.items) → item_refusal w (chars (drop place bytes)) ≡ None → (n ≡ place - offset → ⊥) → (w.allow_nul ≡ true → n ≢ 0) → IsOutOfMemory e →
    IsQuotedOutOfMemory w bytes offset e
no_memory_of w bytes offset place n h e u at b is free other takes error = record {
  cut = record { value_len = n; has_escape = not (n == place - offset); start_suffix = place + 1 };
  is_cut = cut_of w bytes offset place n h u at b is free;
  has_escape = ap not (ne_eqb n (place - offset) other);
  takes = takes;
  error = error;
}

-- its value fits into a container that is made for its length
pub within_of : (w : Switches) (bytes : List ℕ) (offset place n : ℕ) (h : List ℕ → Type 0) (no_zero : Bool) (capacity : ℕ) → IsUtf8 bytes → IsCharBoundary bytes offset →
    (b : IsReadBody w bytes offset h place) → n ≡ length (body_value b.read.items) → item_refusal w (chars (drop place bytes)) ≡ None →
    capacity ≡ (if no_zero then n else (n + 1)) → HasValueWithin w bytes offset capacity
within_of w bytes offset place n h no_zero capacity u at b is free room =
    let cut = cut_of w bytes offset place n h u at b is free in
    let size : n ≡ length (body_value cut.parts.items) = cut.value_len in
    let fits : n ≤ capacity = room_of no_zero n capacity room in record {
      parts = cut.parts;
      grammar = cut.only.0;
      fits = omega arith;
    }

-- plain characters alone are read
pub plain_read : (w : Switches) (bytes : List ℕ) (offset place : ℕ) → IsUtf8 bytes → IsCharBoundary bytes offset → IsPlainRun w bytes offset place →
    IsReadTo w bytes offset place (λ v. place - offset ≡ length v)
plain_read w bytes offset place u at run =
    let size = run.size in let within = run.boundary.0 in
    let len : length (take (place - offset) (drop offset bytes)) ≡ place - offset = length-take-le (place - offset) (drop offset bytes) (omega (arith, length-drop offset bytes)) in
    read_run w bytes offset offset place (λ v. v ≡ []) (λ v. place - offset ≡ length v) u (read_none w bytes offset (λ v. v ≡ []) u at refl) run
    (λ v none. sym (ap (λ l. length (l ++ take (place - offset) (drop offset bytes))) none ∙ len))

-- and then the quote
pub plain_body : (w : Switches) (bytes : List ℕ) (offset place : ℕ) → IsUtf8 bytes → IsCharBoundary bytes offset → IsPlainRun w bytes offset place →
    first_passes (λ c. c == 34) (chars (drop place bytes)) ≡ true → IsReadBody w bytes offset (λ v. place - offset ≡ length v) place
plain_body w bytes offset place u at run quote = record {
  read = plain_read w bytes offset place u at run;
  quote = quote;
  stops = run.stops;
}

pub plain_of : (w : Switches) (bytes : List ℕ) (offset place : ℕ) → IsUtf8 bytes → IsCharBoundary bytes offset → IsPlainRun w bytes offset place →
    first_passes (λ c. c == 34) (chars (drop place bytes)) ≡ true → item_refusal w (chars (drop place bytes)) ≡ None → IsQuotedValue w bytes offset None (place + 1)
plain_of w bytes offset place u at run quote free =
    let b = plain_body w bytes offset place u at run quote in
    none_of w bytes offset place (place - offset) _ u at b b.read.held free refl

-- and then what is refused
pub plain_refused : (w : Switches) (bytes rest : List ℕ) (offset place : ℕ) (e : ParseError) → IsUtf8 bytes → length bytes < 2 ^ 64 → IsCharBoundary bytes offset →
    IsPlainRun w bytes offset place → rest ≡ drop place bytes → ((v : Switches) → first_passes (is_plain v) (chars rest) ≡ false → IsRestRefused v (chars rest) e) →
    MovesWithin place e × ((f : ParseError) → refusal_of f ≡ shifted place (refusal_of e) → char_span_of f ≡ shifted_span place (char_span_of e) → IsBodyRefused w bytes offset f)
plain_refused w bytes rest offset place e u small at run is told =
    refuses w bytes rest offset place _ e u small (plain_read w bytes offset place u at run) is
    (told w (subst (λ (l : List ℕ). first_passes (is_plain w) (chars l) ≡ false) (sym is) run.stops))

-- The items read so far are a body of their own, whose value is UTF-8 if byte escapes are off

alone : (a : Item) (x rest : List ℕ) → is_complete_before (x ++ rest) a ≡ true → takes_all_blanks a x ≡ true
alone (plain_item c) x rest h = refl
alone (escape_item e) x rest h = refl
alone (continuation blanks) [] rest h = refl
alone (continuation blanks) (c ∷ x) rest h = (and_parts (not (is_empty (c ∷ (x ++ rest)))) _ h).1

body_alone : (w : Switches) (rest : List ℕ) (items : List Item) → is_item_list w rest items ≡ true → is_body w items ≡ true
body_alone w rest [] h = refl
body_alone w rest (a ∷ items) h =
    let p = and_parts _ (is_item_list w rest items) h in
    let q = and_parts (is_item w a) _ p.0 in
    and_from _ _ (and_from _ _ q.0 (alone a (body_text items) rest q.1)) (body_alone w rest items p.1)

scalars_are_text : (t : List ℕ) → scalars t ≡ true → list_all is_scalar t ≡ true
scalars_are_text [] h = refl
scalars_are_text (c ∷ t) h = let p = and_parts _ (scalars t) h in and_from _ _ p.0 (scalars_are_text t p.1)

off_by : (bytes takes : Bool) → (not bytes || takes) ≡ true → takes ≡ false → bytes ≡ false
off_by false takes h g = refl
off_by true takes h g = absurd (true≢false (sym h ∙ g))

pub held_is_utf8 : (w : Switches) (bytes value : List ℕ) (offset at : ℕ) (takes : Bool) → IsUtf8 bytes → IsReadTo w bytes offset at (λ v. value ≡ v) →
    (not w.byte_escapes || takes) ≡ true → takes ≡ false → IsUtf8 value
held_is_utf8 w bytes value offset at takes u r fits none =
    subst IsUtf8 (sym r.held)
    (values_without_byte_escapes_are_utf8 w (body_text r.items) r.items (part_is_text _ (body_text r.items) _ (chars bytes) r.spells (scalars_are_text (chars bytes) (scalars-chars bytes u)))
    (off_by w.byte_escapes takes fits none) (record { spells = refl; body = body_alone w (chars (drop at bytes)) r.items r.taken }))

-- The value, and the refusal in full

pub value_read : {C : Type 0} (contents : C → List ℕ) (w : Switches) (bytes : List ℕ) (offset : ℕ) (r : Result (Option C × ℕ) ParseError) → IsReadAsValue contents w bytes offset r →
    IfOk r (λ read. IsQuotedValue w bytes offset (option_map contents read.0) read.1)
value_read contents w bytes offset (Ok read) is = is
value_read contents w bytes offset (Err e) is = tt

pub refusal_read : {C : Type 0} (contents : C → List ℕ) (w : Switches) (bytes : List ℕ) (offset : ℕ) (r : Result (Option C × ℕ) ParseError) → IsReadAsValue contents w bytes offset r →
    IfErr r (λ e. IsQuotedRefused w bytes offset e ⊎ IsQuotedOutOfMemory w bytes offset e)
refusal_read contents w bytes offset (Ok read) is = tt
refusal_read contents w bytes offset (Err e) (inl refused) = inl (refused_of w bytes offset e refused)
refusal_read contents w bytes offset (Err e) (inr memory) = inr memory
