-- The cut of a quoted literal, and its refusal, from where its items end.
use Rattle.std.proofs.Common.{◌≡◌, inl, ℕ, ◌+◌, ◌-◌, ◌≤◌, ◌<◌, ◌^◌, ◌==◌, Bool, true, false, not, List, [], ◌∷◌, ◌++◌, length, drop, take, refl, sym, ap, subst, ◌∙◌, append_assoc, arith, Some, None, inr}
use Rattle.std.specs.Prelude.{encode_utf8_all, slice_range}
use Rattle.std.specs.Str.{chars, IsUtf8, IsCharBoundary}
use Rattle.std.proofs.lemmas.Bool.{ne_eqb, eq-eqb, true≢false}
use Rattle.std.proofs.lemmas.Str.{chars-nil, encodes-chars, encodes-append, chars_from_encodes, IsUtf8-drop, IsUtf8-take}
use Rattle.std.proofs.Math.Seq.{take-append_seam}
use Rattle.litrs_base.specs.declared.err.ParseError.{ParseError}
use Rattle.litrs_base.specs.declared.err.ParseErrorKind.{ParseErrorKind}
use Rattle.litrs_base.specs.Refusal.{Refusal, refusal_of, at_byte, IsInText, shifted, shifted_span, char_span_of, HasCharSpan, MovesWithin}
use Rattle.litrs_base.specs.Text.{byte_len, first_passes}
use Rattle.litrs_base.proofs.ByteLen.{byte_len_one_ascii}
use Rattle.litrs_base.proofs.CharEnds.{char_span_points, char_span_moved, moves_within}
use Rattle.litrs_base.proofs.Spans.{byte_len-append}
use Rattle.litrs_base.specs.declared.quotes.Switches.{Switches}
use Rattle.litrs_grammar.specs.Allocation.{has_backslash}
use Rattle.litrs_grammar.specs.Suffix.{is_suffix, suffix_kind}
use Rattle.litrs_grammar.proofs.LongerTexts.Suffix.{is_suffix-nil}
use Rattle.litrs_grammar.specs.Quoted.{Item, body_text, body_value, is_item_list, is_body, is_plain, QuotedParts, IsQuoted, IsQuotedRefusal, item_refusal}
use Rattle.litrs_grammar.proofs.QuotedItems.{body_stands, stands_body}
use Rattle.litrs_grammar.proofs.Laws.Quoted.{quoted_texts_are_unique, quoted_texts_are_not_refused, quoted_refusals_are_unique, quoted_values_fit_bodies}
use Rattle.litrs_grammar.proofs.LongerTexts.Quoted.{quoted_final, quoted_finality, quoted_items_stay, quoted_open}
use Rattle.litrs_grammar.proofs.Spans.Quoted.{quoted_spans_lie_in_text}
use Rattle.litrs_grammar.proofs.RefusalKinds.{quoted_of_text}
use Rattle.litrs_grammar.proofs.Laws.Value.{plain_bodies_are_their_values}
use Rattle.litrs_lex.specs.QuotedCut.{IsQuotedCut, IsQuotedRefused}
use Rattle.litrs_lex.specs.Reading.{IsReadTo, IsReadBody, IsItemsEnd, IsBodyRefused, IsRestRefused}
use Rattle.litrs_lex.proofs.CharCuts.{cut_at}
use Rattle.litrs_lex.proofs.QuotedBytes.{closed_of, quote_free, quote_byte, quote_refused}
use Rattle.litrs_lex.proofs.QuotedScan.{front_splits}

-- The refusal

pub refused_of : (w : Switches) (bytes : List ℕ) (offset : ℕ) (e : ParseError) → IsBodyRefused w bytes offset e → IsQuotedRefused w bytes offset e
refused_of w bytes offset e is =
    let table = is.table in let ends = is.char_span in
    let front = chars (take offset bytes) in let t = chars bytes in record {
      none = λ q is. quoted_texts_are_not_refused front w t q (refusal_of e) is table;
      table = table;
      only = λ r other. quoted_refusals_are_unique front w t r (refusal_of e) other table;
      span = quoted_spans_lie_in_text front w t (refusal_of e) table;
      char_span = ends;
      char_ends = char_span_points t e (quoted_spans_lie_in_text front w t (refusal_of e) table) ends;
      of_text = quoted_of_text front w t (refusal_of e) table;
      items_stay = λ more. quoted_items_stay w table.rest more table.items table.taken;
      final = quoted_finality front w t (refusal_of e) table;
      stays = λ final more. quoted_final front w t more (refusal_of e) final table;
      closes = λ shut. quoted_open front w t (refusal_of e) shut table;
    }

-- If the rest after some items is refused, so is the text

pub refused_at : (w : Switches) (bytes : List ℕ) (offset place : ℕ) (h : List ℕ → Type 0) (e f : Refusal) → IsReadTo w bytes offset place h →
    item_refusal w (chars (drop place bytes)) ≡ Some e → f ≡ shifted place e → IsQuotedRefusal (chars (take offset bytes)) w (chars bytes) f
refused_at w bytes offset place h e f read told is = record {
  items = read.items;
  rest = chars (drop place bytes);
  cause = e;
  spells = read.spells;
  taken = read.taken;
  decided = told;
  placed = ap (λ n. shifted n e) (sym read.size) ∙ sym is;
}

-- the bytes before the place are those of the front and of the items
pub front_of : (w : Switches) (bytes : List ℕ) (offset place : ℕ) (h : List ℕ → Type 0) → (read : IsReadTo w bytes offset place h) →
    (chars (take offset bytes) ++ body_text read.items) ++ chars (drop place bytes) ≡ chars bytes
front_of w bytes offset place h read = append_assoc (chars (take offset bytes)) (body_text read.items) (chars (drop place bytes)) ∙ read.spells

-- the refusal of the rest may be moved so far, and is then that of the text
pub refuses : (w : Switches) (bytes rest : List ℕ) (offset place : ℕ) (h : List ℕ → Type 0) (e : ParseError) → IsUtf8 bytes → length bytes < 2 ^ 64 →
    IsReadTo w bytes offset place h → rest ≡ drop place bytes → IsRestRefused w (chars rest) e →
    MovesWithin place e × ((f : ParseError) → refusal_of f ≡ shifted place (refusal_of e) → char_span_of f ≡ shifted_span place (char_span_of e) → IsBodyRefused w bytes offset f)
refuses w bytes rest offset place h e u small read is told =
    let front = chars (take offset bytes) ++ body_text read.items in
    let rest_chars = chars (drop place bytes) in
    let here : item_refusal w rest_chars ≡ Some (refusal_of e) = ap (λ (l : List ℕ). item_refusal w (chars l)) (sym is) ∙ told.table in
    let ends : HasCharSpan rest_chars e = subst (λ (l : List ℕ). HasCharSpan (chars l) e) is told.char_span in
    let whole = front_of w bytes offset place h read in
    let table = refused_at w bytes offset place h (refusal_of e) (shifted (byte_len front) (refusal_of e)) read here (ap (λ n. shifted n (refusal_of e)) (sym read.size)) in
    let inside : IsInText (front ++ rest_chars) (shifted (byte_len front) (refusal_of e)) =
    subst (λ (l : List ℕ). IsInText l (shifted (byte_len front) (refusal_of e))) (sym whole)
    (quoted_spans_lie_in_text (chars (take offset bytes)) w (chars bytes) (shifted (byte_len front) (refusal_of e)) table) in
    let size : byte_len (front ++ rest_chars) ≡ length bytes = ap byte_len whole ∙ ap length (encodes-chars bytes u) in (
      subst (λ (n : ℕ). MovesWithin n e) (sym read.size) (moves_within front rest_chars e inside ends (omega arith)),
      λ f same span. record {
        table = refused_at w bytes offset place h (refusal_of e) (refusal_of f) read here same;
        char_span = subst (λ (l : List ℕ). HasCharSpan l f) whole
            (char_span_moved front rest_chars e f (same ∙ ap (λ n. shifted n (refusal_of e)) read.size) (span ∙ ap (λ n. shifted_span n (char_span_of e)) read.size) ends);
      },
    )

-- and the items end there
pub ends_here : (w : Switches) (bytes rest : List ℕ) (offset place : ℕ) (h : List ℕ → Type 0) (e : ParseError) → IsReadTo w bytes offset place h →
    first_passes (is_plain w) (chars (drop place bytes)) ≡ false → rest ≡ drop place bytes → IsRestRefused w (chars rest) e → IsItemsEnd w bytes offset h place
ends_here w bytes rest offset place h e read stops is told = record {
  read = read;
  stops = stops;
  ends = inr (_, ap (λ (l : List ℕ). item_refusal w (chars l)) (sym is) ∙ told.table);
}

-- the text after a body that is read begins with the quote
pub at_quote : (w : Switches) (bytes rest : List ℕ) (offset place : ℕ) (h : List ℕ → Type 0) → IsUtf8 bytes → IsReadBody w bytes offset h place → rest ≡ drop place bytes →
    IsUtf8 rest × (first_passes (λ c. c == 34) (chars rest) ≡ true)
at_quote w bytes rest offset place h u b is = (
  subst (λ (l : List ℕ). IsUtf8 l) (sym is) (IsUtf8-drop bytes place u b.read.boundary),
  subst (λ (l : List ℕ). first_passes (λ c. c == 34) (chars l) ≡ true) (sym is) b.quote,
)

pub closed_free : (w : Switches) (bytes rest after : List ℕ) (offset place : ℕ) (h : List ℕ → Type 0) → IsUtf8 bytes → IsReadBody w bytes offset h place →
    rest ≡ drop place bytes → after ≡ drop 1 rest → is_suffix (chars after) ≡ true → item_refusal w (chars (drop place bytes)) ≡ None
closed_free w bytes rest after offset place h u b is more suffix =
    let quote = at_quote w bytes rest offset place h u b is in
    ap (λ (l : List ℕ). item_refusal w (chars l)) (sym is) ∙ quote_free w rest _ after (quote_byte rest quote.0 quote.1) more suffix

pub closed_refused : (w : Switches) (bytes rest after : List ℕ) (offset place : ℕ) (h : List ℕ → Type 0) (kind : ParseErrorKind) (e : ParseError) → IsUtf8 bytes →
    IsReadBody w bytes offset h place → rest ≡ drop place bytes → after ≡ drop 1 rest → is_suffix (chars after) ≡ false → kind ≡ suffix_kind (chars after) →
    refusal_of e ≡ at_byte 1 kind → HasCharSpan (chars rest) e → IsRestRefused w (chars rest) e
closed_refused w bytes rest after offset place h kind e u b is more other told same span =
    let quote = at_quote w bytes rest offset place h u b is in record {
      table = quote_refused w rest _ after (quote_byte rest quote.0 quote.1) more other ∙ ap Some (ap (at_byte 1) (sym told) ∙ sym same);
      char_span = span;
    }

pub from_offset : (w : Switches) (bytes : List ℕ) (offset place : ℕ) (h : List ℕ → Type 0) → IsUtf8 bytes → IsCharBoundary bytes offset → IsReadTo w bytes offset place h → offset ≤ place
from_offset w bytes offset place h u start read =
    let cut = front_splits bytes offset u start in let size = cut.1 in
    omega (arith, read.size, byte_len-append (chars (take offset bytes)) (body_text read.items))

-- The cut

-- a value is shorter than its body if and only if the body has a backslash
size_test : (w : Switches) (items : List Item) (v n : ℕ) → is_body w items ≡ true → v ≡ length (body_value items) → n ≡ byte_len (body_text items) →
    not (v == n) ≡ has_backslash (body_text items)
size_test w items v n body is_value is_text =
    let law = (quoted_values_fit_bodies w (body_text items) items (record { spells = refl; body = body })).1 in
    by (has_backslash (body_text items)) refl law
  where
    by : (b : Bool) → has_backslash (body_text items) ≡ b →
        ((length (body_value items) ≡ byte_len (body_text items) → has_backslash (body_text items) ≡ false)
        × (has_backslash (body_text items) ≡ false → length (body_value items) ≡ byte_len (body_text items))) → not (v == n) ≡ b
    by true is law = ap not (ne_eqb v n (λ e. true≢false (sym is ∙ law.0 (omega arith))))
    by false is law = ap not (eq-eqb v n (let same = law.1 is in omega arith))

-- the bytes of a slice whose characters are these
pub record IsSlice (bytes : List ℕ) (from : ℕ) (t : List ℕ) : Type 0 where
  pub is_bytes : take (byte_len t) (drop from bytes) ≡ encode_utf8_all t
  pub is_chars : chars (take (byte_len t) (drop from bytes)) ≡ t

pub slice_of : (bytes t rest : List ℕ) (from : ℕ) → IsUtf8 bytes → IsCharBoundary bytes from → chars (drop from bytes) ≡ t ++ rest → IsSlice bytes from t
slice_of bytes t rest from u start split =
    let v = IsUtf8-drop bytes from u start in
    let cut = cut_at (drop from bytes) t rest v split in
    let both : drop from bytes ≡ encode_utf8_all t ++ encode_utf8_all rest =
    sym (encodes-chars (drop from bytes) v) ∙ (ap encode_utf8_all split ∙ encodes-append t rest) in
    let same : take (byte_len t) (drop from bytes) ≡ encode_utf8_all t = ap (take (byte_len t)) both ∙ take-append_seam (encode_utf8_all t) (encode_utf8_all rest) in record {
      is_bytes = same;
      is_chars = sym (chars_from_encodes t (take (byte_len t) (drop from bytes)) (IsUtf8-take (drop from bytes) (byte_len t) v cut.boundary) (sym same));
    }

after_front : (front x y : List ℕ) → front ++ x ≡ front ++ y → x ≡ y
after_front [] x y h = h
after_front (c ∷ front) x y h = after_front front x y (let same : front ++ x ≡ front ++ y = cc in same)

-- the closing quote ends the text, and the empty text is a suffix
pub lone_quote_free : (w : Switches) (rest : List ℕ) → rest ≡ 34 ∷ [] → item_refusal w (chars rest) ≡ None
lone_quote_free w rest is = quote_free w rest _ _ is refl (ap is_suffix chars-nil ∙ is_suffix-nil)

-- the cut of a body that is read and closed
pub cut_of : (w : Switches) (bytes : List ℕ) (offset place n : ℕ) (h : List ℕ → Type 0) → IsUtf8 bytes → IsCharBoundary bytes offset → (b : IsReadBody w bytes offset h place) →
    n ≡ length (body_value b.read.items) → item_refusal w (chars (drop place bytes)) ≡ None →
    IsQuotedCut w bytes offset (record { value_len = n; has_escape = not (n == place - offset); start_suffix = place + 1 })
cut_of w bytes offset place n h u start b value_len free =
    let read = b.read in
    let front = chars (take offset bytes) in
    let rest = chars (drop place bytes) in
    let s = drop 1 rest in
    let items = read.items in
    let body = body_text items in
    let closed = closed_of w rest (inl b.quote) free in
    let front_cut = front_splits bytes offset u start in
    let q : QuotedParts = record { items = items; suffix = s } in
    let good : is_body w items ≡ true = stands_body w items s (subst (λ l. is_item_list w l items ≡ true) (sym closed.0) read.taken) in
    let mine : IsQuoted front w (chars bytes) q = record {
      spells = ap (λ l. front ++ (body ++ l)) closed.0 ∙ read.spells;
      body = good;
      suffix = closed.1;
    } in
    let at_place : place ≡ offset + byte_len body = read.size ∙ (byte_len-append front body ∙ ap (λ n. n + byte_len body) front_cut.1) in
    let back : place + 1 - 1 ≡ place = omega arith in
    let size : place - offset ≡ byte_len body = omega arith in
    let told : not (n == place - offset) ≡ has_backslash body = size_test w items n (place - offset) good value_len size in
    let whole : chars bytes ≡ (front ++ (body ++ 34 ∷ [])) ++ s =
    sym (append_assoc front (body ++ 34 ∷ []) s ∙ (ap (λ l. front ++ l) (append_assoc body (34 ∷ []) s) ∙ mine.spells)) in
    let at : byte_len (front ++ (body ++ 34 ∷ [])) ≡ place + 1 =
    byte_len-append front (body ++ 34 ∷ []) ∙ (ap (λ n. byte_len front + n) (byte_len-append body (34 ∷ [])) ∙ (let f = front_cut.1 in let one = byte_len_one_ascii 34 [] (omega arith) in omega arith)) in
    let cut = cut_at bytes (front ++ (body ++ 34 ∷ [])) s u whole in
    let split : chars (drop offset bytes) ≡ body ++ rest =
    after_front front (chars (drop offset bytes)) (body ++ rest) (front_cut.0 ∙ sym read.spells) in
    let slice = slice_of bytes body rest offset u start split in
    let taken : slice_range bytes offset (place + 1 - 1) ≡ take (byte_len body) (drop offset bytes) =
    ap (λ n. take n (drop offset bytes)) (let e : place + 1 - 1 - offset ≡ byte_len body = omega arith in e) in record {
      parts = q;
      only = (mine, λ r is. quoted_texts_are_unique front w (chars bytes) r q is mine);
      value_len = value_len;
      has_escape = told;
      start_suffix = ap (λ m. m + 1) at_place;
      end_body = subst (λ (n : ℕ). IsCharBoundary bytes n) (sym back) read.boundary;
      boundary = subst (λ (n : ℕ). IsCharBoundary bytes n) at cut.boundary;
      body = ap chars taken ∙ slice.is_chars;
      suffix = ap (λ n. chars (drop n bytes)) (sym at) ∙ cut.rest;
      plain = λ none. taken ∙ (slice.is_bytes ∙ sym (plain_bodies_are_their_values w body items (record { spells = refl; body = good }) (sym told ∙ none)));
      items_stay = λ more. body_stands w items (s ++ more) good;
    }
