-- The laws of quoted literals.
use Rattle.std.proofs.Common.{◌≡◌, ℕ, ◌<◌, ◌≤◌, true, false, not, ◌||◌, List, [], ◌∷◌, ◌++◌, length, Some, None, refl, sym, ap, ◌∙◌, subst, arith, ◌⊎◌, inl, inr, append_assoc, length-append, append-nil}
use Rattle.std.specs.Prelude.{◌==◌, ◌↔◌}
use Rattle.std.specs.List.{list_any}
use Rattle.std.proofs.lemmas.Bool.{false≢true, and_parts, and_from, not-true, both_ways, or_right, or_left, or_from, not_from_false}
use Rattle.std.proofs.lemmas.List.{append_cancel_left}
use Rattle.std.specs.Char.{encode_utf8}
use Rattle.std.proofs.lemmas.List.Folds.{list_any-append}
use Rattle.std.proofs.lemmas.Str.{length-encode, len_utf8_bounds}
use Rattle.litrs_base.specs.declared.quotes.StringKind.TheVariants.{String as string_kind, ByteString as byte_string_kind, CString as c_string_kind}
use Rattle.litrs_base.specs.declared.quotes.Switches.{Switches}
use Rattle.litrs_base.specs.Characters.{is_blank, fits_charset}
use Rattle.litrs_base.specs.Refusal.{Refusal, shifted}
use Rattle.litrs_grammar.specs.Suffix.{is_suffix}
use Rattle.litrs_base.specs.Text.{first_passes, byte_len}
use Rattle.litrs_grammar.specs.Escape.{Escape, simple_escape, hex_escape, unicode_escape, escape_text, escape_value, value_bytes, is_escape, is_simple, hex_value, pair_value, allows_value}
use Rattle.litrs_grammar.specs.Quoted.{Item, plain_item, escape_item, continuation, item_text, item_value, is_item, is_item_list, body_text, body_value, is_body, takes_all_blanks, item_refusal, QuotedParts, IsQuoted, IsQuotedRefusal}
use Rattle.litrs_grammar.specs.Raw.{is_nul}
use Rattle.litrs_grammar.specs.Laws.Quoted.{QuotedBodiesAreUnique, QuotedTextsAreUnique, QuotedRefusalsAreUnique, QuotedTextsAreDecided, QuotedTextsAreNotRefused, QuotedBodiesJoin, QuotedValuesFitBodies, NoNulInQuotedCStrings, NoQuotedTextEndsWithLineFeed, QuotedLiteralsAreUnique}
use Rattle.litrs_base.proofs.Spans.{byte_len-append}
use Rattle.litrs_grammar.proofs.NoNul.{encode_no_nul}
use Rattle.litrs_base.proofs.ByteLen.{length-le-byte_len}
use Rattle.litrs_base.proofs.ListTests.{none_unless}
use Rattle.litrs_grammar.proofs.Laws.Escape.{inner_of}
use Rattle.litrs_grammar.proofs.QuotedItems.{closed_before_line_feed, heads_differ, same_items, quote_no_item, refused_no_item, read_items, Derives, SomeReading, Closes, body_stands, stands_body}

-- two quoted texts after one front
same_parts : (w : Switches) (items others : List Item) (s r : List ℕ) → is_body w items ≡ true → is_body w others ≡ true →
    body_text items ++ 34 ∷ s ≡ body_text others ++ 34 ∷ r → (items ≡ others) × (34 ∷ s ≡ 34 ∷ r)
same_parts w items others s r h g same =
    same_items w items others (34 ∷ s) (34 ∷ r) (body_stands w items s h) (body_stands w others r g) (quote_no_item w s) (quote_no_item w r) same

pub quoted_bodies_are_unique : QuotedBodiesAreUnique
quoted_bodies_are_unique w t items others p q =
    (same_parts w items others [] [] p.body q.body (ap (λ l. l ++ 34 ∷ []) (p.spells ∙ sym q.spells))).0

pub quoted_texts_are_unique : QuotedTextsAreUnique
quoted_texts_are_unique front w t q r h g =
    let both = same_parts w q.items r.items q.suffix r.suffix h.body g.body (append_cancel_left front _ _ (h.spells ∙ sym g.spells)) in
    let suffixes : q.suffix ≡ r.suffix = cc in
    λ i. record { items = both.0 i; suffix = suffixes i }

pub quoted_refusals_are_unique : QuotedRefusalsAreUnique
quoted_refusals_are_unique front w t e f h g =
    let both = same_items w h.items g.items h.rest g.rest h.taken g.taken (refused_no_item w h.rest h.cause h.decided) (refused_no_item w g.rest g.cause g.decided)
    (append_cancel_left front _ _ (h.spells ∙ sym g.spells)) in
    let told : item_refusal w h.rest ≡ Some g.cause = ap (item_refusal w) both.1 ∙ g.decided in
    let causes : h.cause ≡ g.cause = cc in
    let places : byte_len (front ++ body_text h.items) ≡ byte_len (front ++ body_text g.items) = ap (λ l. byte_len (front ++ body_text l)) both.0 in
    sym h.placed ∙ ap (λ n. shifted n h.cause) places ∙ ap (λ c. shifted (byte_len (front ++ body_text g.items)) c) causes ∙ g.placed

pub quoted_texts_are_decided : QuotedTextsAreDecided
quoted_texts_are_decided front w t = go (read_items w t)
  where
    ended : (items : List Item) (rest : List ℕ) → Derives w t items rest → (((e : Refusal) × (item_refusal w rest ≡ Some e)) ⊎ Closes rest) →
        ((q : QuotedParts) × IsQuoted front w (front ++ t) q) ⊎ ((e : Refusal) × IsQuotedRefusal front w (front ++ t) e)
    ended items rest read (inl (e, told)) =
        inr (
          shifted (byte_len (front ++ body_text items)) e,
          record {
            items = items;
            rest = rest;
            cause = e;
            spells = ap (λ l. front ++ l) read.spells;
            taken = read.taken;
            decided = told;
            placed = refl;
          },
        )
    ended items rest read (inr (s, closes, suffix)) =
        inl (
          record { items = items; suffix = s },
          record {
            spells = ap (λ l. front ++ l) (ap (λ l. body_text items ++ l) closes ∙ read.spells);
            body = stands_body w items s (subst (λ l. is_item_list w l items ≡ true) (sym closes) read.taken);
            suffix = suffix;
          },
        )

    go : SomeReading w t → ((q : QuotedParts) × IsQuoted front w (front ++ t) q) ⊎ ((e : Refusal) × IsQuotedRefusal front w (front ++ t) e)
    go (items, rest, read) = ended items rest read read.ends

-- a closing quote and a suffix are not refused
closed_no_refusal : (w : Switches) (s : List ℕ) → is_suffix s ≡ true → item_refusal w (34 ∷ s) ≡ None
unfolding item_refusal
closed_no_refusal w s h =
    none_unless _ _ _ (or_right w.allow_nul true refl)
    (none_unless _ _ _ (or_right w.unicode true refl)
    (none_unless (is_suffix s) _ _ h refl))

pub quoted_texts_are_not_refused : QuotedTextsAreNotRefused
quoted_texts_are_not_refused front w t q e h g =
    let both = same_items w q.items g.items (34 ∷ q.suffix) g.rest (body_stands w q.items q.suffix h.body) g.taken (quote_no_item w q.suffix)
    (refused_no_item w g.rest g.cause g.decided) (append_cancel_left front _ _ (h.spells ∙ sym g.spells)) in
    let none = closed_no_refusal w q.suffix h.suffix in
    let told : item_refusal w (34 ∷ q.suffix) ≡ Some g.cause = ap (item_refusal w) both.1 ∙ g.decided in
    cc

pub body_text-append : (items others : List Item) → body_text (items ++ others) ≡ body_text items ++ body_text others
body_text-append [] others = refl
body_text-append (a ∷ items) others = ap (λ l. item_text a ++ l) (body_text-append items others) ∙ sym (append_assoc (item_text a) (body_text items) (body_text others))

pub body_value-append : (items others : List Item) → body_value (items ++ others) ≡ body_value items ++ body_value others
body_value-append [] others = refl
body_value-append (a ∷ items) others = ap (λ l. item_value a ++ l) (body_value-append items others) ∙ sym (append_assoc (item_value a) (body_value items) (body_value others))

join_item : (a : Item) (t b : List ℕ) → takes_all_blanks a t ≡ true → first_passes is_blank b ≡ false → takes_all_blanks a (t ++ b) ≡ true
join_item (plain_item c) t b h n = refl
join_item (escape_item e) t b h n = refl
join_item (continuation blanks) [] b h n = not_from_false _ n
join_item (continuation blanks) (c ∷ t) b h n = h

-- bodies one after the other
join_body : (w : Switches) (items others : List Item) → is_body w items ≡ true → is_body w others ≡ true → first_passes is_blank (body_text others) ≡ false →
    is_body w (items ++ others) ≡ true
join_body w [] others h g n = g
join_body w (a ∷ items) others h g n =
    let p = and_parts _ (is_body w items) h in
    let q = and_parts (is_item w a) _ p.0 in
    let joined : takes_all_blanks a (body_text (items ++ others)) ≡ true =
    subst (λ l. takes_all_blanks a l ≡ true) (sym (body_text-append items others)) (join_item a (body_text items) (body_text others) q.1 n) in
    and_from _ _ (and_from _ _ q.0 joined) (join_body w items others p.1 g n)

pub quoted_bodies_join : QuotedBodiesJoin
quoted_bodies_join w a b items others h g n = (
  record {
    spells = body_text-append items others ∙ ap (λ l. l ++ body_text others) h.spells ∙ ap (λ l. a ++ l) g.spells;
    body = join_body w items others h.body g.body (subst (λ l. first_passes is_blank l ≡ false) (sym g.spells) n);
  },
  body_value-append items others,
)

-- an item has fewer bytes of value than of text, and a backslash; or as many, and none
abbrev pub HasSize : List ℕ → List ℕ → Type 0
HasSize value t =
    ((length value ≡ byte_len t) × (list_any (λ c. c == 92) t ≡ false))
    ⊎ ((length value < byte_len t) × (list_any (λ c. c == 92) t ≡ true))

escape_size : (w : Switches) (e : Escape) → is_escape w e ≡ true → length (value_bytes (escape_value e)) < byte_len (escape_text e)
escape_size w (simple_escape c) h = let le = length-le-byte_len (92 ∷ c ∷ []) in omega arith
escape_size w (hex_escape c d) h = let le = length-le-byte_len (92 ∷ 120 ∷ c ∷ d ∷ []) in omega arith
escape_size w (unicode_escape []) h = absurd (false≢true (inner_of w [] h).first)
escape_size w (unicode_escape (c ∷ inner)) h =
    let le = length-le-byte_len (92 ∷ 117 ∷ 123 ∷ c ∷ (inner ++ 125 ∷ [])) in
    let four = len_utf8_bounds (hex_value (c ∷ inner)) in
    omega (arith, length-encode (hex_value (c ∷ inner)), length-append inner (125 ∷ []))

item_size : (w : Switches) (a : Item) → is_item w a ≡ true → HasSize (item_value a) (item_text a)
item_size w (plain_item c) h =
    let p = and_parts _ (allows_value w c) h in
    let q = and_parts _ (fits_charset w.unicode c) p.0 in
    let r = and_parts _ (not (c == 13)) q.0 in
    let s = and_parts (not (c == 34)) (not (c == 92)) r.0 in
    inl (length_same (encode_utf8 c), or_from _ _ (not-true _ s.1) refl)
  where
    length_same : (bs : List ℕ) → length bs ≡ length (bs ++ [])
    length_same bs = ap length (sym (append-nil bs))
item_size w (escape_item e) h = inr (escape_size w e h, escape_backslash e)
  where
    escape_backslash : (e : Escape) → list_any (λ c. c == 92) (escape_text e) ≡ true
    escape_backslash (simple_escape c) = refl
    escape_backslash (hex_escape c d) = refl
    escape_backslash (unicode_escape inner) = refl
item_size w (continuation a) h = inr ((let le = length-le-byte_len (92 ∷ 10 ∷ a) in omega arith), refl)

join_size : (u v s t : List ℕ) → HasSize u s → HasSize v t → HasSize (u ++ v) (s ++ t)
join_size u v s t (inl h) (inl g) = inl (size h.0 g.0, list_any-append _ s t ∙ or_from _ _ h.1 g.1)
  where
    size : length u ≡ byte_len s → length v ≡ byte_len t → length (u ++ v) ≡ byte_len (s ++ t)
    size p q = omega (arith, length-append u v, byte_len-append s t)
join_size u v s t (inl h) (inr g) = inr (size h.0 g.0, list_any-append _ s t ∙ or_right _ _ g.1)
  where
    size : length u ≡ byte_len s → length v < byte_len t → length (u ++ v) < byte_len (s ++ t)
    size p q = omega (arith, length-append u v, byte_len-append s t)
join_size u v s t (inr h) (inl g) = inr (size h.0 g.0, list_any-append _ s t ∙ or_left _ _ h.1)
  where
    size : length u < byte_len s → length v ≡ byte_len t → length (u ++ v) < byte_len (s ++ t)
    size p q = omega (arith, length-append u v, byte_len-append s t)
join_size u v s t (inr h) (inr g) = inr (size h.0 g.0, list_any-append _ s t ∙ or_left _ _ h.1)
  where
    size : length u < byte_len s → length v < byte_len t → length (u ++ v) < byte_len (s ++ t)
    size p q = omega (arith, length-append u v, byte_len-append s t)

body_size : (w : Switches) (items : List Item) → is_body w items ≡ true → HasSize (body_value items) (body_text items)
body_size w [] h = inl (refl, refl)
body_size w (a ∷ items) h =
    let p = and_parts _ (is_body w items) h in
    let q = and_parts (is_item w a) _ p.0 in
    join_size (item_value a) (body_value items) (item_text a) (body_text items) (item_size w a q.0) (body_size w items p.1)

value_size : (value t : List ℕ) → HasSize value t →
    (length value ≤ byte_len t) × ((length value ≡ byte_len t) ↔ (list_any (λ c. c == 92) t ≡ false))
value_size value t (inl h) = (omega (arith, h.0), ((λ _. h.1), (λ _. h.0)))
value_size value t (inr h) = (omega (arith, h.0), ((λ e. absurd (omega (arith, h.0, e))), (λ e. absurd (both_ways _ e h.1))))

pub quoted_values_fit_bodies : QuotedValuesFitBodies
quoted_values_fit_bodies w t items h = value_size (body_value items) t (subst (λ l. HasSize (body_value items) l) h.spells (body_size w items h.body))

-- no byte of a value is zero if NUL is not allowed
not_nul : (w : Switches) (n : ℕ) → w.allow_nul ≡ false → allows_value w n ≡ true → is_nul n ≡ false
not_nul w n off h = not-true _ (subst (λ b. (b || not (n == 0)) ≡ true) off h)

escape_no_nul : (w : Switches) (e : Escape) → w.allow_nul ≡ false → is_escape w e ≡ true → list_any is_nul (value_bytes (escape_value e)) ≡ false
escape_no_nul w (simple_escape c) off h =
    let p = and_parts (is_simple c) _ h in or_from _ _ (not_nul w _ off p.1) refl
escape_no_nul w (hex_escape c d) off h =
    let p = and_parts _ (allows_value w (pair_value c d)) h in or_from _ _ (not_nul w _ off p.1) refl
escape_no_nul w (unicode_escape inner) off h =
    encode_no_nul (hex_value inner) (not_nul w _ off (inner_of w inner h).allowed)

item_no_nul : (w : Switches) (a : Item) → w.allow_nul ≡ false → is_item w a ≡ true → list_any is_nul (item_value a) ≡ false
item_no_nul w (plain_item c) off h = let p = and_parts _ (allows_value w c) h in encode_no_nul c (not_nul w c off p.1)
item_no_nul w (escape_item e) off h = escape_no_nul w e off h
item_no_nul w (continuation a) off h = refl

body_no_nul : (w : Switches) (items : List Item) → w.allow_nul ≡ false → is_body w items ≡ true → list_any is_nul (body_value items) ≡ false
body_no_nul w [] off h = refl
body_no_nul w (a ∷ items) off h =
    let p = and_parts _ (is_body w items) h in
    let q = and_parts (is_item w a) _ p.0 in
    list_any-append is_nul (item_value a) (body_value items) ∙ or_from _ _ (item_no_nul w a off q.0) (body_no_nul w items off p.1)

pub no_nul_in_quoted_c_strings : NoNulInQuotedCStrings
no_nul_in_quoted_c_strings w t items off h = body_no_nul w items off h.body

pub no_quoted_text_ends_with_line_feed : NoQuotedTextEndsWithLineFeed
no_quoted_text_ends_with_line_feed front w t q h =
    closed_before_line_feed (front ++ body_text q.items) 34 q.suffix t refl h.suffix (append_assoc front (body_text q.items) (34 ∷ q.suffix) ∙ h.spells)

pub quoted_literals_are_unique : QuotedLiteralsAreUnique
quoted_literals_are_unique t string_kind string_kind q r h g = (refl, quoted_texts_are_unique _ _ t q r h g)
quoted_literals_are_unique t string_kind byte_string_kind q r h g = absurd (heads_differ 34 98 _ _ (h.spells ∙ sym g.spells) refl)
quoted_literals_are_unique t string_kind c_string_kind q r h g = absurd (heads_differ 34 99 _ _ (h.spells ∙ sym g.spells) refl)
quoted_literals_are_unique t byte_string_kind string_kind q r h g = absurd (heads_differ 98 34 _ _ (h.spells ∙ sym g.spells) refl)
quoted_literals_are_unique t byte_string_kind byte_string_kind q r h g = (refl, quoted_texts_are_unique _ _ t q r h g)
quoted_literals_are_unique t byte_string_kind c_string_kind q r h g = absurd (heads_differ 98 99 _ _ (h.spells ∙ sym g.spells) refl)
quoted_literals_are_unique t c_string_kind string_kind q r h g = absurd (heads_differ 99 34 _ _ (h.spells ∙ sym g.spells) refl)
quoted_literals_are_unique t c_string_kind byte_string_kind q r h g = absurd (heads_differ 99 98 _ _ (h.spells ∙ sym g.spells) refl)
quoted_literals_are_unique t c_string_kind c_string_kind q r h g = (refl, quoted_texts_are_unique _ _ t q r h g)
