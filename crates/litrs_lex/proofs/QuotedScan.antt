-- The items of a quoted body that are parsed so far, and what follows them.
use Rattle.std.proofs.Common.{◌≡◌, ℕ, ◌+◌, true, List, [], ◌∷◌, ◌++◌, length, drop, take, refl, sym, ap, subst, ◌∙◌, append_assoc, arith, Option}
use Rattle.std.specs.Prelude.{encode_utf8, encode_utf8_all}
use Rattle.std.specs.List.{list_all}
use Rattle.std.specs.Str.{chars, IsUtf8, IsCharBoundary}
use Rattle.std.proofs.lemmas.Bool.{and_parts, and_from}
use Rattle.std.proofs.lemmas.List.{append-nil, take-append-drop, length-take-le, drop-drop, length-drop}
use Rattle.std.proofs.lemmas.Str.{chars_from_encodes, encodes-chars, encodes-append, IsUtf8-drop, IsUtf8-take, IsCharBoundary-from_drop}
use Rattle.litrs_base.specs.declared.escape.Unescape.{Unescape}
use Rattle.litrs_base.specs.Text.{byte_len}
use Rattle.litrs_base.proofs.Spans.{byte_len-append}
use Rattle.litrs_base.specs.declared.quotes.Switches.{Switches}
use Rattle.litrs_grammar.specs.Quoted.{Item, plain_item, item_text, item_value, is_item, is_complete_before, is_plain, body_text, body_value, is_item_list}
use Rattle.litrs_grammar.proofs.Laws.Quoted.{body_text-append, body_value-append}
use Rattle.litrs_lex.specs.QuotedItems.{IsPlainRun, IsItemAt, item_bytes}

-- Some items follow the front, up to this place and with this value, and then the rest.
pub record ReadsSome (w : Switches) (front t rest : List ℕ) (at : ℕ) (value : List ℕ) : Type 0 where
  pub items : List Item
  pub spells : front ++ (body_text items ++ rest) ≡ t
  pub taken : is_item_list w rest items ≡ true
  pub place : at ≡ byte_len (front ++ body_text items)
  pub is_value : value ≡ body_value items

reads_none : (w : Switches) (front t rest : List ℕ) → front ++ rest ≡ t → ReadsSome w front t rest (byte_len front) []
reads_none w front t rest spells = record {
  items = [];
  spells = spells;
  taken = refl;
  place = ap byte_len (sym (append-nil front));
  is_value = refl;
}

-- items before further items, both before the same rest
pub is_item_list-append : (w : Switches) (items more : List Item) (rest : List ℕ) → is_item_list w (body_text more ++ rest) items ≡ true → is_item_list w rest more ≡ true →
    is_item_list w rest (items ++ more) ≡ true
is_item_list-append w [] more rest h g = g
is_item_list-append w (a ∷ items) more rest h g =
    let p = and_parts _ (is_item_list w (body_text more ++ rest) items) h in
    let q = and_parts (is_item w a) _ p.0 in
    let after : body_text items ++ (body_text more ++ rest) ≡ body_text (items ++ more) ++ rest =
    sym (append_assoc (body_text items) (body_text more) rest) ∙ ap (λ l. l ++ rest) (sym (body_text-append items more)) in
    and_from _ _ (and_from _ _ q.0 (subst (λ l. is_complete_before l a ≡ true) after q.1)) (is_item_list-append w items more rest p.1 g)

reads_more : (w : Switches) (front t rest : List ℕ) (at : ℕ) (value : List ℕ) (more : List Item) → ReadsSome w front t (body_text more ++ rest) at value →
    is_item_list w rest more ≡ true → ReadsSome w front t rest (at + byte_len (body_text more)) (value ++ body_value more)
reads_more w front t rest at value more read g = record {
  items = read.items ++ more;
  spells = ap (λ l. front ++ (l ++ rest)) (body_text-append read.items more)
      ∙ ap (λ l. front ++ l) (append_assoc (body_text read.items) (body_text more) rest) ∙ read.spells;
  taken = is_item_list-append w read.items more rest read.taken g;
  place = ap (λ n. n + byte_len (body_text more)) read.place
      ∙ (sym (byte_len-append (front ++ body_text read.items) (body_text more))
      ∙ ap byte_len (append_assoc front (body_text read.items) (body_text more) ∙ ap (λ l. front ++ l) (sym (body_text-append read.items more))));
  is_value = ap (λ l. l ++ body_value more) read.is_value ∙ sym (body_value-append read.items more);
}

-- more items, with their text, its length and their value
reads_items : (w : Switches) (front t rest tail text bytes : List ℕ) (at end : ℕ) (value : List ℕ) (more : List Item) → ReadsSome w front t rest at value →
    rest ≡ text ++ tail → body_text more ≡ text → at + byte_len text ≡ end → body_value more ≡ bytes → is_item_list w tail more ≡ true →
    ReadsSome w front t tail end (value ++ bytes)
reads_items w front t rest tail text bytes at end value more read split is_text place is_value stand =
    let before : ReadsSome w front t (body_text more ++ tail) at value =
    subst (λ (l : List ℕ). ReadsSome w front t l at value) (split ∙ ap (λ l. l ++ tail) (sym is_text)) read in
    let on : at + byte_len (body_text more) ≡ end = ap (λ l. at + byte_len l) is_text ∙ place in
    subst (λ (l : List ℕ). ReadsSome w front t tail end (value ++ l)) is_value
    (subst (λ (m : ℕ). ReadsSome w front t tail m (value ++ body_value more)) on
    (reads_more w front t tail at value more before stand))

-- a run of plain characters, as items
abbrev pub plain_items : List ℕ → List Item
plain_items [] = []
plain_items (c ∷ run) = plain_item c ∷ plain_items run

pub plain_text : (run : List ℕ) → body_text (plain_items run) ≡ run
plain_text [] = refl
plain_text (c ∷ run) = ap (λ l. c ∷ l) (plain_text run)

pub plain_value : (run : List ℕ) → body_value (plain_items run) ≡ encode_utf8_all run
plain_value [] = refl
plain_value (c ∷ run) = ap (λ l. encode_utf8 c ++ l) (plain_value run)

pub plain_stand : (w : Switches) (rest run : List ℕ) → list_all (is_plain w) run ≡ true → is_item_list w rest (plain_items run) ≡ true
plain_stand w rest [] h = refl
plain_stand w rest (c ∷ run) h =
    let p = and_parts (is_plain w c) (list_all (is_plain w) run) h in
    and_from _ _ (and_from _ _ p.0 refl) (plain_stand w rest run p.1)

-- the front of a text up to a character boundary is text
utf8_front : (bytes : List ℕ) (n : ℕ) → IsUtf8 bytes → IsCharBoundary bytes n → IsUtf8 (take n bytes)
utf8_front bytes n u at = IsUtf8-take bytes n u at

-- a text cut on a character boundary
pub front_splits : (bytes : List ℕ) (n : ℕ) → IsUtf8 bytes → IsCharBoundary bytes n →
    (chars (take n bytes) ++ chars (drop n bytes) ≡ chars bytes) × (byte_len (chars (take n bytes)) ≡ n)
front_splits bytes n u at =
    let after = IsUtf8-drop bytes n u at in
    let front = utf8_front bytes n u at in
    let spelled : encode_utf8_all (chars (take n bytes) ++ chars (drop n bytes)) ≡ bytes =
    encodes-append (chars (take n bytes)) (chars (drop n bytes))
    ∙ (ap (λ l. l ++ encode_utf8_all (chars (drop n bytes))) (encodes-chars (take n bytes) front)
    ∙ (ap (λ l. take n bytes ++ l) (encodes-chars (drop n bytes) after) ∙ take-append-drop n bytes)) in (
      chars_from_encodes _ bytes u spelled,
      ap length (encodes-chars (take n bytes) front) ∙ length-take-le n bytes at.0,
    )

pub reads_start : (w : Switches) (bytes : List ℕ) (n : ℕ) → IsUtf8 bytes → IsCharBoundary bytes n →
    ReadsSome w (chars (take n bytes)) (chars bytes) (chars (drop n bytes)) n []
reads_start w bytes n u at =
    let cut = front_splits bytes n u at in
    subst (λ (m : ℕ). ReadsSome w (chars (take n bytes)) (chars bytes) (chars (drop n bytes)) m []) cut.1
    (reads_none w (chars (take n bytes)) (chars bytes) (chars (drop n bytes)) cut.0)

-- the value of a run of plain characters is its bytes
pub reads_run : (w : Switches) (front t bytes value : List ℕ) (at end : ℕ) → (run : IsPlainRun w bytes at end) → ReadsSome w front t (chars (drop at bytes)) at value →
    ReadsSome w front t (chars (drop end bytes)) end (value ++ encode_utf8_all run.run)
reads_run w front t bytes value at end run read =
    reads_items w front t (chars (drop at bytes)) (chars (drop end bytes)) run.run (encode_utf8_all run.run) at end value (plain_items run.run) read run.split (plain_text run.run) run.size
    (plain_value run.run) (plain_stand w (chars (drop end bytes)) run.run run.plain)

-- an escape or a continuation
pub reads_item : (w : Switches) (front t bytes rest after value : List ℕ) (at len end : ℕ) (v : Option Unescape) → IsItemAt w rest len v → rest ≡ drop at bytes →
    drop len rest ≡ after → at + len ≡ end → ReadsSome w front t (chars (drop at bytes)) at value → ReadsSome w front t (chars after) end (value ++ item_bytes v)
reads_item w front t bytes rest after value at len end v item is after_is on read =
    let tail : chars (drop len rest) ≡ chars after = ap chars after_is in
    let stand : is_item_list w (chars after) (item.item ∷ []) ≡ true =
    subst (λ (l : List ℕ). is_item_list w l (item.item ∷ []) ≡ true) tail (and_from _ _ (and_from _ _ item.grammar item.taken) refl) in
    reads_items w front t (chars (drop at bytes)) (chars after) (item_text item.item) (item_bytes v) at end value (item.item ∷ []) read
    (ap chars (sym is) ∙ (item.split ∙ ap (λ l. item_text item.item ++ l) tail))
    (append-nil (item_text item.item)) (ap (λ n. at + n) item.size ∙ on) (append-nil (item_value item.item) ∙ item.is_value) stand

-- a boundary of what follows a place
pub boundary_later : (bytes rest : List ℕ) (n m : ℕ) → IsUtf8 bytes → IsCharBoundary bytes n → rest ≡ drop n bytes → IsCharBoundary rest m → IsCharBoundary bytes (n + m)
boundary_later bytes rest n m u start is at =
    let after : IsCharBoundary (drop n bytes) m = subst (λ (l : List ℕ). IsCharBoundary l m) is at in
    let text : IsUtf8 (drop (n + m) bytes) =
    subst (λ (l : List ℕ). IsUtf8 l) (drop-drop m n bytes) (IsUtf8-drop (drop n bytes) m (IsUtf8-drop bytes n u start) after) in
    IsCharBoundary-from_drop bytes (n + m) (omega (arith, after.0, start.0, length-drop n bytes)) text
