-- The laws of chars and bytes.
use Rattle.std.proofs.Common.{◌≡◌, ℕ, Bool, true, false, not, ◌&&◌, List, [], ◌∷◌, ◌++◌, length, take, drop, Option, Some, None, refl, sym, ap, ◌∙◌, subst, append_assoc}
use Rattle.std.specs.Prelude.{◌==◌, if◌then◌else◌, option_map, is_some}
use Rattle.std.specs.List.{list_any, before_first}
use Rattle.std.proofs.lemmas.Bool.{and_parts, and_from, not-true, eqb-true, false≢true, and_left, not_from_false}
use Rattle.std.proofs.lemmas.List.{append_cancel_left, drop_at, take_at}
use Rattle.litrs_base.specs.Refusal.{Refusal, shifted}
use Rattle.litrs_grammar.specs.Suffix.{is_suffix}
use Rattle.litrs_base.specs.Text.{first_passes, byte_len, begins_with}
use Rattle.litrs_base.specs.declared.quotes.Switches.{Switches}
use Rattle.litrs_base.specs.declared.quotes.CharKind.{CharKind}
use Rattle.litrs_base.specs.declared.quotes.CharKind.TheVariants.{Char as char_kind, Byte as byte_kind}
use Rattle.litrs_base.specs.Quotes.{char_front, char_switches_of}
use Rattle.litrs_grammar.specs.Escape.{Escape, simple_escape, hex_escape, unicode_escape, escape_text, is_escape, is_simple, escape_at_front, escape_refusal}
use Rattle.litrs_grammar.specs.CharByte.{CharItem, plain_char, escaped_char, char_item_text, is_special_whitespace, allows_char, is_char_item, CharParts, IsCharLiteral, char_item_at_front, closing_refusal, char_item_refusal, char_kind_refusal}
use Rattle.litrs_grammar.specs.Laws.CharByte.{CharsAreUnique, CharsAreDecided, NoCharEndsWithLineFeed}
use Rattle.litrs_base.proofs.ListTests.{unless_none, none_unless, if_true, if_false, before_first-split}
use Rattle.litrs_base.proofs.Begins.{begins_with-split, begins_with-append}
use Rattle.litrs_base.proofs.Spans.{none_from}
use Rattle.litrs_grammar.proofs.Laws.Escape.{by_simple, same_escape, refusal_escape, read_escape, HasEscape, unicode_parts}
use Rattle.litrs_grammar.proofs.QuotedItems.{escape_head, closed_before_line_feed, heads_differ}

not_plain_char : (kind : CharKind) (c : ℕ) → is_char_item kind (plain_char c) ≡ true → c ≡ 92 → ⊥
not_plain_char kind c h at =
    let p : is_char_item kind (plain_char 92) ≡ true = subst (λ n. is_char_item kind (plain_char n) ≡ true) at h in
    false≢true p

-- the item before a closing quote
pub same_char_item : (kind : CharKind) (a b : CharItem) (x y : List ℕ) → is_char_item kind a ≡ true → is_char_item kind b ≡ true →
    char_item_text a ++ x ≡ char_item_text b ++ y → (a ≡ b) × (x ≡ y)
same_char_item kind (plain_char c) (plain_char d) x y h g same = (cc, cc)
same_char_item kind (plain_char c) (escaped_char e) x y h g same =
    let head = escape_head e y in
    absurd (let both : c ∷ x ≡ 92 ∷ head.0 ∷ head.1 = same ∙ head.2 in let at : c ≡ 92 = cc in not_plain_char kind c h at)
same_char_item kind (escaped_char e) (plain_char d) x y h g same =
    let head = escape_head e x in
    absurd (let both : d ∷ y ≡ 92 ∷ head.0 ∷ head.1 = sym same ∙ head.2 in let at : d ≡ 92 = cc in not_plain_char kind d g at)
same_char_item kind (escaped_char e) (escaped_char f) x y h g same =
    let both = same_escape (char_switches_of kind) e f x y h g same in (ap escaped_char both.0, both.1)

-- two literals of one kind
same_char : (kind : CharKind) (t : List ℕ) (d e : CharParts) → IsCharLiteral kind t d → IsCharLiteral kind t e → d ≡ e
same_char kind t d e h g =
    let both = same_char_item kind d.item e.item (39 ∷ d.suffix) (39 ∷ e.suffix) h.item g.item (append_cancel_left (char_front kind) _ _ (h.spells ∙ sym g.spells)) in
    let tails = both.1 in
    let suffixes : d.suffix ≡ e.suffix = cc in
    λ i. record { item = both.0 i; suffix = suffixes i }

pub chars_are_unique : CharsAreUnique
chars_are_unique t char_kind char_kind d e h g = (refl, same_char char_kind t d e h g)
chars_are_unique t char_kind byte_kind d e h g = absurd (heads_differ 39 98 _ _ (h.spells ∙ sym g.spells) refl)
chars_are_unique t byte_kind char_kind d e h g = absurd (heads_differ 98 39 _ _ (h.spells ∙ sym g.spells) refl)
chars_are_unique t byte_kind byte_kind d e h g = (refl, same_char byte_kind t d e h g)

pub no_char_ends_with_line_feed : NoCharEndsWithLineFeed
no_char_ends_with_line_feed kind t d h =
    closed_before_line_feed (char_front kind ++ char_item_text d.item) 39 d.suffix t refl h.suffix
    (append_assoc (char_front kind) (char_item_text d.item) (39 ∷ d.suffix) ∙ h.spells)

-- the escape that a text begins with
pub escape_at_front_is : (w : Switches) (e : Escape) (x : List ℕ) → is_escape w e ≡ true → escape_at_front (escape_text e ++ x) ≡ e
escape_at_front_is w (simple_escape c) x h =
    let simple = and_parts (is_simple c) _ h in
    by_simple (λ c. escape_at_front (92 ∷ c ∷ x) ≡ simple_escape c) c simple.0 refl refl refl refl refl refl refl
escape_at_front_is w (hex_escape c d) x h = refl
escape_at_front_is w (unicode_escape inner) x h =
    ap unicode_escape (ap (before_first (λ c. c == 125)) (append_assoc inner (125 ∷ []) x) ∙ before_first-split (λ c. c == 125) inner 125 x (unicode_parts w inner h) refl)

-- the closing quote and a suffix
closing_none : (kind : CharKind) (place : ℕ) (s : List ℕ) → is_suffix s ≡ true → closing_refusal kind place (39 ∷ s) ≡ None
closing_none kind place s h = none_unless (is_suffix s) _ _ h refl

abbrev ClosesChar : List ℕ → Type 0
ClosesChar t = (s : List ℕ) × (39 ∷ s ≡ t) × (is_suffix s ≡ true)

pub closing_read : (kind : CharKind) (place : ℕ) (t : List ℕ) → closing_refusal kind place t ≡ None → ClosesChar t
closing_read kind place [] h = cc
closing_read kind place (c ∷ t) h =
    let a = unless_none (list_any (λ c. c == 39) (c ∷ t)) _ _ h in
    let b = unless_none (c == 39) _ _ a.1 in
    let d = unless_none (is_suffix t) _ None b.1 in
    (t, ap (λ n. n ∷ t) (sym (eqb-true c 39 b.0)), d.0)

abbrev after_item : CharKind → List ℕ → ℕ → Option Refusal
after_item kind t n = closing_refusal kind (byte_len (take n t)) (drop n t)

pub backslash_allowed : (kind : CharKind) → allows_char kind 92 ≡ true
backslash_allowed char_kind = refl
backslash_allowed byte_kind = refl

-- the row of an escape does not fit if there is an escape
pub none_row : (b : Bool) (o y : Option Refusal) → o ≡ None → (if b && is_some o then o else y) ≡ y
none_row false o y h = refl
none_row true o y h = rw h refl

some_none : (b : Bool) (o y : Option Refusal) → (if b && is_some o then o else y) ≡ None → ((b && is_some o) ≡ false) × (y ≡ None)
some_none false o y h = (refl, h)
some_none true None y h = (refl, h)
some_none true (Some e) y h = cc

-- the text after the item that begins with this character
abbrev after_char_item : CharKind → List ℕ → CharItem → Option Refusal
after_char_item kind t item = after_item kind t (length (char_item_text item))

-- after an item what follows it decides
pub item_closing : (kind : CharKind) (item : CharItem) (t : List ℕ) → is_char_item kind item ≡ true →
    char_item_refusal kind (char_item_text item ++ t) ≡ closing_refusal kind (byte_len (char_item_text item)) t
item_closing kind (plain_char c) t is =
    let p = and_parts _ (allows_char kind c) is in
    let q = and_parts _ (not (is_special_whitespace c)) p.0 in
    let r = and_parts (not (c == 39)) (not (c == 92)) q.0 in
    let item : char_item_at_front c (c ∷ t) ≡ plain_char c = if_false _ _ _ (not-true _ r.1) in
    if_false _ _ _ (and_left _ _ (not-true _ r.0))
    ∙ if_false _ _ _ (not-true _ r.0)
    ∙ if_false _ _ _ (not-true _ q.1)
    ∙ if_false _ _ _ (and_left _ _ (not-true _ r.1))
    ∙ if_false _ _ _ (ap not p.1)
    ∙ ap (after_char_item kind (c ∷ t)) item
item_closing kind (escaped_char e) t is = escaped (escape_head e t)
  where
    w : Switches
    w = char_switches_of kind

    escaped : (c : ℕ) × (s : List ℕ) × (escape_text e ++ t ≡ 92 ∷ c ∷ s) → char_item_refusal kind (escape_text e ++ t) ≡ closing_refusal kind (byte_len (escape_text e)) t
    escaped (c, s, head) =
        let none : escape_refusal w (92 ∷ c ∷ s) ≡ None = ap (escape_refusal w) (sym head) ∙ refusal_escape w e t is in
        let item : escape_at_front (92 ∷ c ∷ s) ≡ e = ap escape_at_front (sym head) ∙ escape_at_front_is w e t is in
        let taken : take (length (escape_text e)) (92 ∷ c ∷ s) ≡ escape_text e = ap (take (length (escape_text e))) (sym head) ∙ take_at (escape_text e) t (length (escape_text e)) refl in
        let after : drop (length (escape_text e)) (92 ∷ c ∷ s) ≡ t = ap (drop (length (escape_text e))) (sym head) ∙ drop_at (escape_text e) t (length (escape_text e)) refl in
        ap (char_item_refusal kind) head
        ∙ none_row true _ _ none
        ∙ if_false _ _ _ (ap not (backslash_allowed kind))
        ∙ ap (λ f. after_char_item kind (92 ∷ c ∷ s) (escaped_char f)) item
        ∙ (λ j. closing_refusal kind (byte_len (taken j)) (after j))

-- the table has no row for an item, the closing quote and a suffix
item_none : (kind : CharKind) (a : CharItem) (s : List ℕ) → is_char_item kind a ≡ true → is_suffix s ≡ true → char_item_refusal kind (char_item_text a ++ 39 ∷ s) ≡ None
item_none kind a s h g = item_closing kind a (39 ∷ s) h ∙ closing_none kind _ s g

-- if the table has no row, the text is an item, the closing quote and a suffix
pub record HasChar (kind : CharKind) (t : List ℕ) (a : CharItem) (s : List ℕ) : Type 0 where
  pub spells : char_item_text a ++ 39 ∷ s ≡ t
  pub item : is_char_item kind a ≡ true
  pub suffix : is_suffix s ≡ true

abbrev pub SomeChar : CharKind → List ℕ → Type 0
SomeChar kind t = (a : CharItem) × (s : List ℕ) × HasChar kind t a s

not_some : (o : Option Refusal) → is_some o ≡ false → o ≡ None
not_some None h = refl
not_some (Some e) h = cc

escape_before : (kind : CharKind) (t : List ℕ) → escape_refusal (char_switches_of kind) (92 ∷ t) ≡ None → after_char_item kind (92 ∷ t) (escaped_char (escape_at_front (92 ∷ t))) ≡ None → SomeChar kind (92 ∷ t)
escape_before kind t none h = go (read_escape (char_switches_of kind) t none)
  where
    go : (e : Escape) × (rest : List ℕ) × HasEscape (char_switches_of kind) (92 ∷ t) e rest → SomeChar kind (92 ∷ t)
    go (e, rest, here) =
        let item : escape_at_front (92 ∷ t) ≡ e =
        subst (λ l. escape_at_front l ≡ e) here.spells (escape_at_front_is (char_switches_of kind) e rest here.grammar) in
        let after : drop (length (escape_text (escape_at_front (92 ∷ t)))) (92 ∷ t) ≡ rest =
        ap (λ f. drop (length (escape_text f)) (92 ∷ t)) item ∙ subst (λ l. drop (length (escape_text e)) l ≡ rest) here.spells (drop_at (escape_text e) rest (length (escape_text e)) refl) in
        let closes = closing_read kind _ _ h in (
          escaped_char e,
          closes.0,
          record {
            spells = ap (λ l. escape_text e ++ l) (closes.1 ∙ after) ∙ here.spells;
            item = here.grammar;
            suffix = closes.2;
          },
        )

item_read : (kind : CharKind) (t : List ℕ) → char_item_refusal kind t ≡ None → SomeChar kind t
item_read kind [] h = cc
item_read kind (c ∷ t) h =
    let a = none_from ((c == 39) && first_passes (λ d. d == 39) t) _ _ h in
    let b = none_from (c == 39) _ _ a.1 in
    let d = none_from (is_special_whitespace c) _ _ b.1 in
    let e = some_none (c == 92) _ _ d.1 in
    let f = unless_none (allows_char kind c) _ _ e.1 in
    by_backslash (c == 92) refl b.0 d.0 e.0 f.0 f.1
  where
    by_backslash : (b : Bool) → (c == 92) ≡ b → (c == 39) ≡ false → is_special_whitespace c ≡ false →
        ((c == 92) && is_some (escape_refusal (char_switches_of kind) (c ∷ t))) ≡ false → allows_char kind c ≡ true →
        after_char_item kind (c ∷ t) (char_item_at_front c (c ∷ t)) ≡ None → SomeChar kind (c ∷ t)
    by_backslash false n quote special none allowed after =
        let item : char_item_at_front c (c ∷ t) ≡ plain_char c = if_false _ _ _ n in
        let closes = closing_read kind _ _ (subst (λ a. after_char_item kind (c ∷ t) a ≡ None) item after) in (
          plain_char c,
          closes.0,
          record {
            spells = ap (λ l. c ∷ l) closes.1;
            item = and_from _ _ (and_from _ _ (and_from _ _ (not_from_false _ quote) (not_from_false _ n)) (not_from_false _ special)) allowed;
            suffix = closes.2;
          },
        )
    by_backslash true y quote special none allowed after =
        let at : c ≡ 92 = eqb-true c 92 y in
        let item : char_item_at_front c (c ∷ t) ≡ escaped_char (escape_at_front (c ∷ t)) = if_true _ _ _ y in
        let never : is_some (escape_refusal (char_switches_of kind) (c ∷ t)) ≡ false = subst (λ b. (b && is_some (escape_refusal (char_switches_of kind) (c ∷ t))) ≡ false) y none in
        subst (λ n. SomeChar kind (n ∷ t)) (sym at)
        (escape_before kind t (subst (λ n. escape_refusal (char_switches_of kind) (n ∷ t) ≡ None) at (not_some _ never))
        (subst (λ n. after_char_item kind (n ∷ t) (escaped_char (escape_at_front (n ∷ t))) ≡ None) at (subst (λ a. after_char_item kind (c ∷ t) a ≡ None) item after)))

pub chars_are_decided : CharsAreDecided
unfolding char_kind_refusal
chars_are_decided kind t = (read, refused_none)
  where
    place : ℕ
    place = length (char_front kind)

    moved_none : (o : Option Refusal) → option_map (shifted (length (char_front kind))) o ≡ None → o ≡ None
    moved_none None h = refl
    moved_none (Some e) h = cc

    begun : (b : Bool) (x : Option Refusal) (y : Refusal) → (if b then x else Some y) ≡ None → (b ≡ true) × (x ≡ None)
    begun true x y h = (refl, h)
    begun false x y h = cc

    read : char_kind_refusal kind t ≡ None → (d : CharParts) × IsCharLiteral kind t d
    read h =
        let a = begun (begins_with (char_front kind) t) _ _ h in
        let split = begins_with-split (char_front kind) t a.0 in
        let some = item_read kind (drop (length (char_front kind)) t) (moved_none _ a.1) in (
          record { item = some.0; suffix = some.1 },
          record {
            spells = ap (λ l. char_front kind ++ l) some.2.spells ∙ split;
            item = some.2.item;
            suffix = some.2.suffix;
          },
        )

    refused_none : (d : CharParts) × IsCharLiteral kind t d → char_kind_refusal kind t ≡ None
    refused_none (d, h) =
        let inner = char_item_text d.item ++ 39 ∷ d.suffix in
        let begins : begins_with (char_front kind) t ≡ true = subst (λ l. begins_with (char_front kind) l ≡ true) h.spells (begins_with-append (char_front kind) inner) in
        let after : drop (length (char_front kind)) t ≡ inner = subst (λ l. drop (length (char_front kind)) l ≡ inner) h.spells (drop_at (char_front kind) inner (length (char_front kind)) refl) in
        if_true _ _ _ begins ∙ ap (option_map (shifted (length (char_front kind)))) (ap (char_item_refusal kind) after ∙ item_none kind d.item d.suffix h.item h.suffix)
