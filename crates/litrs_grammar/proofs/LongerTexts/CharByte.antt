-- Refused chars and bytes under every appended text: which stay refused, and which some text completes.
use Rattle.std.proofs.Common.{◌≡◌, ℕ, Bool, true, false, not, ◌&&◌, ◌||◌, ◌⊎◌, inl, inr, List, [], ◌∷◌, ◌++◌, length, drop, Option, Some, None, refl, sym, ap, subst, ◌∙◌}
use Rattle.std.specs.Prelude.{◌==◌, ◌↔◌, if◌then◌else◌, option_map, is_some}
use Rattle.std.specs.List.{list_all}
use Rattle.std.proofs.lemmas.Bool.{and_parts, and_from, and_right, not-true, or_parts, true≢false}
use Rattle.std.proofs.lemmas.List.{append_assoc, append-nil, append_cancel_left, drop_at}
use Rattle.std.proofs.lemmas.List.Folds.{list_all-append as all-append}
use Rattle.litrs_base.specs.Characters.{is_scalar}
use Rattle.litrs_base.specs.Derivations.{HasNoDerivation}
use Rattle.litrs_base.specs.Finality.{is_final, is_open}
use Rattle.litrs_base.specs.Refusal.{Refusal, shifted}
use Rattle.litrs_base.specs.Text.{IsText, byte_len, begins_with}
use Rattle.litrs_base.proofs.Begins.{begins_with-split, begins_with-append}
use Rattle.litrs_base.proofs.ListTests.{if_true}
use Rattle.litrs_base.proofs.Runs.{list_all-append}
use Rattle.litrs_grammar.specs.Suffix.{is_suffix, starts_identifier}
use Rattle.litrs_base.specs.declared.quotes.Switches.{Switches}
use Rattle.litrs_base.specs.declared.quotes.CharKind.{CharKind}
use Rattle.litrs_base.specs.declared.quotes.CharKind.TheVariants.{Char as char_kind, Byte as byte_kind}
use Rattle.litrs_base.specs.Quotes.{char_front, char_switches_of}
use Rattle.litrs_grammar.specs.Escape.{Escape, escape_text, is_escape, escape_refusal}
use Rattle.litrs_grammar.specs.CharByte.{CharItem, plain_char, escaped_char, char_item_text, is_special_whitespace, allows_char, is_char_item, CharParts, IsCharLiteral, unterminated_kind, empty_kind, overlong_kind, start_refusal, closing_refusal, char_item_refusal, char_kind_refusal}
use Rattle.litrs_grammar.specs.LongerTexts.{BeginsBy, EndsBy}
use Rattle.litrs_grammar.specs.GoesOn.CharByte.{CharRestGoesOn, CharGoesOn}
use Rattle.litrs_grammar.proofs.LongerTexts.Suffix.{front_of, suffix_freed, is_suffix-nil, underscore_x}
use Rattle.litrs_grammar.proofs.LongerTexts.OpenRows.{is_open_row, shut_if, shut_suffix, shut_escape}
use Rattle.litrs_grammar.proofs.LineFeeds.{is_other, escape_other, suffix_other, no_line_feed}
use Rattle.litrs_grammar.proofs.Laws.CharByte.{chars_are_decided, item_closing}
use Rattle.litrs_grammar.proofs.Laws.Escape.{refusal_escape, read_escape, HasEscape, same_escape}
use Rattle.litrs_grammar.proofs.LongerTexts.Escape.{escape_final}
use Rattle.litrs_grammar.proofs.QuotedItems.{escape_head}
use Rattle.litrs_grammar.proofs.LongerTexts.Quoted.{escape_is_text}

-- Texts with a longer text that is a char or a byte.

escape_begun : (kind : CharKind) (item : CharItem) (rest more : List ℕ) → is_char_item kind item ≡ true → char_item_text item ≡ rest ++ more → (rest ≡ []) ⊎ CharRestGoesOn kind rest
escape_begun kind (plain_char c) [] more is same = inl refl
escape_begun kind (plain_char c) (d ∷ []) more is same = let at : d ≡ c = cc in inr (inr (inl (c, is, ap (λ n. n ∷ []) at)))
escape_begun kind (plain_char c) (d ∷ e ∷ rest) more is same = cc
escape_begun kind (escaped_char e) rest more is same = inr (inl (e, more, sym same, is))

-- a text that is not a char, but begins one, is incomplete by its rule
pub char_longer : (kind : CharKind) (t more : List ℕ) (d : CharParts) → HasNoDerivation (IsCharLiteral kind t) → IsCharLiteral kind (t ++ more) d → CharGoesOn kind t
char_longer kind t more d none lit = elim (front_of t (char_front kind) more inner (sym lit.spells)) [
  | inr (c, z, s) ↦ inl (ap (begins_with t) s ∙ begins_with-append t (c ∷ z))
  | inl (z, s) ↦ after z s (append_cancel_left (char_front kind) inner (z ++ more) (lit.spells ∙ ap (λ l. l ++ more) s ∙ append_assoc (char_front kind) z more))
]
  where
    text : List ℕ
    text = char_item_text d.item

    inner : List ℕ
    inner = text ++ 39 ∷ d.suffix

    front_alone : (z : List ℕ) → t ≡ char_front kind ++ z → z ≡ [] → CharGoesOn kind t
    front_alone z s empty =
        let alone : t ≡ char_front kind = s ∙ ap (λ l. char_front kind ++ l) empty ∙ append-nil (char_front kind) in
        inl (ap (begins_with t) (sym alone ∙ sym (append-nil t)) ∙ begins_with-append t [])

    closed : (z s : List ℕ) → t ≡ char_front kind ++ z → z ≡ text ++ 39 ∷ s → d.suffix ≡ s ++ more → (b : Bool) → is_suffix s ≡ b → CharGoesOn kind t
    closed z s is inside longer true suffix =
        absurd (none (record { item = d.item; suffix = s }) (record { spells = ap (λ l. char_front kind ++ l) (sym inside) ∙ sym is; item = lit.item; suffix = suffix }))
    closed z s is inside longer false suffix =
        let lone : s ≡ 95 ∷ [] = suffix_freed s more suffix (ap is_suffix (sym longer) ∙ lit.suffix) in
        inr (z, sym is, inr (inr (d.item, lit.item, inside ∙ ap (λ l. text ++ 39 ∷ l) lone)))

    after : (z : List ℕ) → t ≡ char_front kind ++ z → inner ≡ z ++ more → CharGoesOn kind t
    after z is same = elim (front_of text z (39 ∷ d.suffix) more same) [
      | inl (y, s) ↦ elim (escape_begun kind d.item z y lit.item s) [ inl empty ↦ front_alone z is empty | inr goes_on ↦ inr (z, sym is, goes_on) ]
      | inr (c, y, s) ↦ (let tails : 39 ∷ d.suffix ≡ c ∷ (y ++ more) = append_cancel_left text _ _ (same ∙ ap (λ l. l ++ more) s ∙ append_assoc text (c ∷ y) more) in
          let quote : 39 ≡ c = cc in
          let longer : d.suffix ≡ y ++ more = cc in
          closed z y is (s ∙ ap (λ n. text ++ n ∷ y) (sym quote)) longer (is_suffix y) refl)
    ]

-- Texts that complete it.

front_scalar : (kind : CharKind) → list_all is_scalar (char_front kind) ≡ true
front_scalar char_kind = refl
front_scalar byte_kind = refl

a_fits : (kind : CharKind) → is_char_item kind (plain_char 97) ≡ true
a_fits char_kind = refl
a_fits byte_kind = refl

pub completed : (kind : CharKind) (rest t more : List ℕ) (item : CharItem) (suffix : List ℕ) → char_front kind ++ rest ≡ t → IsText more → is_char_item kind item ≡ true → is_suffix suffix ≡ true →
    rest ++ more ≡ char_item_text item ++ 39 ∷ suffix → BeginsBy (IsCharLiteral kind) t
completed kind rest t more item suffix spells text is is_end same = (
  more,
  record { item = item; suffix = suffix },
  text,
  record {
    spells = ap (λ l. char_front kind ++ l) (sym same) ∙ sym (append_assoc (char_front kind) rest more) ∙ ap (λ l. l ++ more) spells;
    item = is;
    suffix = is_end;
  },
)

rest_completed : (kind : CharKind) (rest t : List ℕ) → char_front kind ++ rest ≡ t → CharRestGoesOn kind rest → BeginsBy (IsCharLiteral kind) t
rest_completed kind rest t spells (inl (e, more, same, is)) =
    let parts = and_parts _ _ (sym (all-append is_scalar rest more) ∙ ap (list_all is_scalar) same ∙ escape_is_text (char_switches_of kind) e is) in
    completed kind rest t (more ++ 39 ∷ []) (escaped_char e) [] spells (list_all-append is_scalar more (39 ∷ []) parts.1 refl) is is_suffix-nil
    (sym (append_assoc rest more (39 ∷ [])) ∙ ap (λ l. l ++ 39 ∷ []) same)
rest_completed kind rest t spells (inr (inl (c, is, same))) =
    completed kind rest t (39 ∷ []) (plain_char c) [] spells refl is is_suffix-nil (ap (λ l. l ++ 39 ∷ []) same)
rest_completed kind rest t spells (inr (inr (item, is, same))) =
    completed kind rest t (120 ∷ []) item (95 ∷ 120 ∷ []) spells refl is underscore_x (ap (λ l. l ++ 120 ∷ []) same ∙ append_assoc (char_item_text item) (39 ∷ 95 ∷ []) (120 ∷ []))

front_completed : (kind : CharKind) (t : List ℕ) → begins_with t (char_front kind) ≡ true → BeginsBy (IsCharLiteral kind) t
front_completed kind t begins =
    let more = drop (length t) (char_front kind) in
    let split : t ++ more ≡ char_front kind = begins_with-split t (char_front kind) begins in
    let text = and_parts _ _ (sym (all-append is_scalar t more) ∙ ap (list_all is_scalar) split ∙ front_scalar kind) in (
      more ++ 97 ∷ 39 ∷ [],
      record { item = plain_char 97; suffix = [] },
      list_all-append is_scalar more (97 ∷ 39 ∷ []) text.1 refl,
      record {
        spells = ap (λ l. l ++ 97 ∷ 39 ∷ []) (sym split) ∙ append_assoc t more (97 ∷ 39 ∷ []);
        item = a_fits kind;
        suffix = is_suffix-nil;
      },
    )

pub char_completed : (kind : CharKind) (t : List ℕ) → CharGoesOn kind t → BeginsBy (IsCharLiteral kind) t
char_completed kind t (inl begins) = front_completed kind t begins
char_completed kind t (inr (rest, spells, goes_on)) = rest_completed kind rest t spells goes_on

no_char : (kind : CharKind) (t : List ℕ) (r : Refusal) → char_kind_refusal kind t ≡ Some r → HasNoDerivation (IsCharLiteral kind t)
no_char kind t r h d lit = let none : Some r ≡ None = sym h ∙ (chars_are_decided kind t).1 (d, lit) in cc

-- a refused text begins a char or a byte if and only if it is incomplete by its rule
pub char_begins : (kind : CharKind) (t : List ℕ) (r : Refusal) → char_kind_refusal kind t ≡ Some r → BeginsBy (IsCharLiteral kind) t ↔ CharGoesOn kind t
char_begins kind t r h = (λ begins. char_longer kind t begins.0 begins.1 (no_char kind t r h) begins.3, char_completed kind t)

-- Its rows in the table.

-- the kind is final
abbrev final_row : Option Refusal → Bool
final_row None = false
final_row (Some r) = is_final r.kind

moved_final : (n : ℕ) (o : Option Refusal) → final_row (option_map (shifted n) o) ≡ final_row o
moved_final n None = refl
moved_final n (Some r) = refl

unterminated_not_final : (kind : CharKind) → is_final (unterminated_kind kind) ≡ false
unterminated_not_final char_kind = refl
unterminated_not_final byte_kind = refl

-- nothing closes it
closing_nothing : (kind : CharKind) (item : CharItem) (t : List ℕ) → is_char_item kind item ≡ true → char_item_text item ≡ t → final_row (char_item_refusal kind t) ≡ false
closing_nothing kind item t is same =
    ap (λ l. final_row (char_item_refusal kind l)) (sym same ∙ sym (append-nil (char_item_text item))) ∙ ap final_row (item_closing kind item [] is) ∙ unterminated_not_final kind

lone_underscore : is_suffix (95 ∷ []) ≡ false
unfolding is_suffix
lone_underscore = and_right (starts_identifier 95 && true) _ refl

closing_lone : (kind : CharKind) (place : ℕ) → final_row (closing_refusal kind place (39 ∷ 95 ∷ [])) ≡ false
closing_lone kind place = rw lone_underscore refl

some_row : (b : Bool) (o y : Option Refusal) (r : Refusal) → b ≡ true → o ≡ Some r → (if b && is_some o then o else y) ≡ Some r
some_row true o y r is h = rw h refl
some_row false o y r is h = cc

escape_row : (kind : CharKind) (t : List ℕ) (o : Option Refusal) → escape_refusal (char_switches_of kind) (92 ∷ t) ≡ o → final_row o ≡ false →
    (o ≡ None → final_row (char_item_refusal kind (92 ∷ t)) ≡ false) → final_row (char_item_refusal kind (92 ∷ t)) ≡ false
escape_row kind t None is not_final none = none refl
escape_row kind t (Some r) is not_final none = ap final_row (some_row true (escape_refusal (char_switches_of kind) (92 ∷ t)) _ r refl is) ∙ not_final

-- an escape that is begun and refused is not finally refused
begun_not_final : (w : Switches) (t more : List ℕ) (e : Escape) → t ++ more ≡ escape_text e → is_escape w e ≡ true → final_row (escape_refusal w t) ≡ false
begun_not_final w t more e same is = by (escape_refusal w t) refl
  where
    free : escape_refusal w (t ++ more) ≡ None
    free = ap (escape_refusal w) (same ∙ sym (append-nil (escape_text e))) ∙ refusal_escape w e [] is

    by : (o : Option Refusal) → escape_refusal w t ≡ o → final_row o ≡ false
    by None h = refl
    by (Some r) h = final (is_final r.kind) refl
      where
        final : (b : Bool) → is_final r.kind ≡ b → b ≡ false
        final false f = refl
        final true f = absurd (let none : Some r ≡ None = sym (escape_final w t more r f h) ∙ free in cc)

-- an escape that is begun and not refused is whole
whole_escape : (kind : CharKind) (rest more : List ℕ) (e : Escape) → (92 ∷ rest) ++ more ≡ escape_text e → is_escape (char_switches_of kind) e ≡ true →
    (f : Escape) × (after : List ℕ) × HasEscape (char_switches_of kind) (92 ∷ rest) f after → final_row (char_item_refusal kind (92 ∷ rest)) ≡ false
whole_escape kind rest more e same is (f, after, has) =
    let longer : escape_text f ++ (after ++ more) ≡ escape_text e ++ [] = sym (append_assoc (escape_text f) after more) ∙ ap (λ l. l ++ more) has.spells ∙ same ∙ sym (append-nil (escape_text e)) in
    let none : after ≡ [] = nothing_left after more (same_escape (char_switches_of kind) f e (after ++ more) [] has.grammar is longer).1 in
    closing_nothing kind (escaped_char f) (92 ∷ rest) has.grammar (sym (append-nil (escape_text f)) ∙ ap (λ l. escape_text f ++ l) (sym none) ∙ has.spells)
  where
    nothing_left : (s t : List ℕ) → s ++ t ≡ [] → s ≡ []
    nothing_left [] t h = refl
    nothing_left (c ∷ s) t h = cc

rest_not_final : (kind : CharKind) (rest : List ℕ) → CharRestGoesOn kind rest → final_row (char_item_refusal kind rest) ≡ false
rest_not_final kind rest (inr (inl (c, is, same))) = closing_nothing kind (plain_char c) rest is (sym same)
rest_not_final kind rest (inr (inr (item, is, same))) =
    ap (λ l. final_row (char_item_refusal kind l)) same ∙ ap final_row (item_closing kind item (39 ∷ 95 ∷ []) is) ∙ closing_lone kind (byte_len (char_item_text item))
rest_not_final kind [] (inl begins) = unterminated_not_final kind
rest_not_final kind (c ∷ rest) (inl (e, more, same, is)) =
    let head = escape_head e [] in
    let backslash : c ≡ 92 = (let both : c ∷ (rest ++ more) ≡ 92 ∷ head.0 ∷ head.1 = same ∙ sym (append-nil (escape_text e)) ∙ head.2 in cc) in
    let begun : (92 ∷ rest) ++ more ≡ escape_text e = ap (λ n. n ∷ (rest ++ more)) (sym backslash) ∙ same in
    subst (λ n. final_row (char_item_refusal kind (n ∷ rest)) ≡ false) (sym backslash)
    (escape_row kind rest (escape_refusal (char_switches_of kind) (92 ∷ rest)) refl (begun_not_final (char_switches_of kind) (92 ∷ rest) more e begun is)
    (λ none. whole_escape kind rest more e begun is (read_escape (char_switches_of kind) rest none)))

front_not_final : (kind : CharKind) (t z : List ℕ) → t ++ z ≡ char_front kind → final_row (char_kind_refusal kind t) ≡ false
unfolding char_kind_refusal
front_not_final char_kind [] z same = refl
front_not_final char_kind (c ∷ []) z same = let at : c ≡ 39 = cc in ap (λ n. final_row (char_kind_refusal char_kind (n ∷ []))) at
front_not_final char_kind (c ∷ d ∷ t) z same = cc
front_not_final byte_kind [] z same = refl
front_not_final byte_kind (c ∷ []) z same = let at : c ≡ 98 = cc in ap (λ n. final_row (char_kind_refusal byte_kind (n ∷ []))) at
front_not_final byte_kind (c ∷ d ∷ []) z same =
    let first : c ≡ 98 = cc in
    let second : d ≡ 39 = cc in
    λ j. final_row (char_kind_refusal byte_kind (first j ∷ second j ∷ []))
front_not_final byte_kind (c ∷ d ∷ b ∷ t) z same = cc

goes_on_not_final : (kind : CharKind) (t : List ℕ) → CharGoesOn kind t → final_row (char_kind_refusal kind t) ≡ false
unfolding char_kind_refusal
goes_on_not_final kind t (inl begins) = front_not_final kind t (drop (length t) (char_front kind)) (begins_with-split t (char_front kind) begins)
goes_on_not_final kind t (inr (rest, spells, goes_on)) =
    let begins : begins_with (char_front kind) t ≡ true = ap (begins_with (char_front kind)) (sym spells) ∙ begins_with-append (char_front kind) rest in
    let after : drop (length (char_front kind)) t ≡ rest = ap (drop (length (char_front kind))) (sym spells) ∙ drop_at (char_front kind) rest (length (char_front kind)) refl in
    ap final_row (if_true _ _ _ begins ∙ ap (λ l. option_map (shifted (length (char_front kind))) (char_item_refusal kind l)) after)
    ∙ moved_final (length (char_front kind)) (char_item_refusal kind rest) ∙ rest_not_final kind rest goes_on

-- after a final refusal no extension of the text is a char or a byte
pub char_finality : (kind : CharKind) (t : List ℕ) (r : Refusal) → char_kind_refusal kind t ≡ Some r → is_final r.kind ≡ true → EndsBy (IsCharLiteral kind) t
char_finality kind t r h final more d lit =
    true≢false (sym final ∙ sym (ap final_row h) ∙ goes_on_not_final kind t (char_longer kind t more d (no_char kind t r h) lit))

-- at the end of a line

shut_unterminated : (kind : CharKind) → is_open (unterminated_kind kind) ≡ false
shut_unterminated char_kind = refl
shut_unterminated byte_kind = refl

shut_empty : (kind : CharKind) → is_open (empty_kind kind) ≡ false
shut_empty char_kind = refl
shut_empty byte_kind = refl

shut_overlong : (kind : CharKind) → is_open (overlong_kind kind) ≡ false
shut_overlong char_kind = refl
shut_overlong byte_kind = refl

shut_start : (kind : CharKind) (t : List ℕ) → is_open (start_refusal kind t).kind ≡ false
shut_start kind [] = refl
shut_start char_kind (c ∷ t) = refl
shut_start byte_kind (c ∷ t) = refl

shut_closing : (kind : CharKind) (place : ℕ) (t : List ℕ) → is_open_row (closing_refusal kind place t) ≡ false
shut_closing kind place t = search (shut_if, shut_unterminated, shut_overlong, shut_suffix)

shut_item : (kind : CharKind) (t : List ℕ) → is_open_row (char_item_refusal kind t) ≡ false
shut_item kind [] = shut_unterminated kind
shut_item kind (c ∷ t) = search (shut_if, shut_empty, shut_escape, shut_closing) depth 8

shut_moved : (n : ℕ) (o : Option Refusal) → is_open_row o ≡ false → is_open_row (option_map (shifted n) o) ≡ false
shut_moved n None h = h
shut_moved n (Some r) h = h

shut_char : (kind : CharKind) (t : List ℕ) → is_open_row (char_kind_refusal kind t) ≡ false
unfolding char_kind_refusal
shut_char kind t = search (shut_if, shut_moved, shut_item, shut_start)

-- no refusal is open
pub char_not_open : (kind : CharKind) (t : List ℕ) (r : Refusal) → char_kind_refusal kind t ≡ Some r → is_open r.kind ≡ false
char_not_open kind t r h = sym (ap is_open_row h) ∙ shut_char kind t

front_other : (kind : CharKind) → list_all is_other (char_front kind) ≡ true
front_other char_kind = refl
front_other byte_kind = refl

item_other : (kind : CharKind) (item : CharItem) → is_char_item kind item ≡ true → list_all is_other (char_item_text item) ≡ true
item_other kind (escaped_char e) is = escape_other (char_switches_of kind) e is
item_other kind (plain_char c) is =
    let p = and_parts _ (allows_char kind c) is in
    let q = and_parts _ (not (is_special_whitespace c)) p.0 in
    and_from _ _ (ap not (or_parts (c == 10) (c == 9) (or_parts ((c == 10) || (c == 9)) (c == 13) (not-true _ q.1)).0).0) refl

-- a char or byte does not contain LF, so no text that begins one ends with LF
pub no_char_line_end : (kind : CharKind) (t : List ℕ) → EndsBy (IsCharLiteral kind) (t ++ 10 ∷ [])
no_char_line_end kind t more d lit =
    no_line_feed t more (subst (λ l. list_all is_other l ≡ true) lit.spells
    (list_all-append is_other (char_front kind) (char_item_text d.item ++ 39 ∷ d.suffix) (front_other kind)
    (list_all-append is_other (char_item_text d.item) (39 ∷ d.suffix) (item_other kind d.item lit.item) (and_from _ _ refl (suffix_other d.suffix lit.suffix)))))

-- A refused text that ends with LF begins a char or a byte if and only if its refusal is open: never.
pub char_line_end : (kind : CharKind) (t : List ℕ) (r : Refusal) → char_kind_refusal kind (t ++ 10 ∷ []) ≡ Some r →
    (is_open r.kind ≡ true) ↔ BeginsBy (IsCharLiteral kind) (t ++ 10 ∷ [])
char_line_end kind t r h = (
  λ is. absurd (true≢false (sym is ∙ char_not_open kind (t ++ 10 ∷ []) r h)),
  λ begins. absurd (no_char_line_end kind t begins.0 begins.1 begins.3),
)
