-- The items of a body that is rewritten: they are a body with the same value.
use Rattle.std.proofs.Common.{◌≡◌, ℕ, ◌<◌, Bool, true, false, List, [], ◌∷◌, ◌++◌, refl, sym, ap, ◌∙◌, arith}
use Rattle.std.specs.Prelude.{◌==◌}
use Rattle.std.specs.Char.{encode_utf8}
use Rattle.std.proofs.lemmas.Bool.{and_from, and_parts, cond_both, eqb-true, ltb-true, not-true, not_from_false, or_left, or_right}
use Rattle.std.proofs.lemmas.Str.{encode_ascii}
use lib.Utf8.{scalar, scalars, low_scalar}
use Rattle.litrs_base.specs.Characters.{is_ascii, is_blank, fits_charset}
use Rattle.litrs_base.specs.Text.{first_passes}
use Rattle.litrs_base.specs.declared.escape.Unescape.TheVariants.{Byte}
use Rattle.litrs_base.specs.declared.quotes.Switches.{Switches}
use Rattle.litrs_grammar.specs.Escape.{Escape, simple_escape, hex_escape, unicode_escape, is_escape, is_simple, simple_value, pair_value, hex_value, allows_byte, allows_value, escape_value, value_bytes}
use Rattle.litrs_grammar.specs.Quoted.{Item, plain_item, escape_item, continuation, is_plain, is_item, item_text, item_value, body_text, body_value, is_body, takes_all_blanks}
use Rattle.litrs_grammar.proofs.Laws.Escape.{by_simple}
use Rattle.litrs_build.specs.Rewriting.{is_mark, needed_char, needed_spelling, own_spelling, plain_rewriting, escape_rewriting, line_feed_rewriting, continuation_rewriting, item_rewriting, items_of, before_next, before_after, rewritten_items}
use Rattle.litrs_build.specs.Spelling.{char_spelling, cased_item}
use Rattle.litrs_build.specs.declared.rewriting.Before.{Before}
use Rattle.litrs_build.specs.declared.rewriting.Before.TheVariants.{Continuation}
use Rattle.litrs_build.specs.declared.rewriting.Rewriting.{Rewriting}
use Rattle.litrs_build.specs.declared.rewriting.Rewriting.TheVariants.{Unchanged, Spelled, Removed}
use Rattle.litrs_build.specs.declared.spelling.Spelling.{Spelling}
use Rattle.litrs_build.specs.declared.spelling.Spelling.TheVariants.{Plain, Simple, Hex, Unicode}
use Rattle.litrs_build.specs.declared.style.Style.{Style}
use Rattle.litrs_build.specs.declared.style.Case.{Case}
use Rattle.litrs_build.specs.declared.style.Escapes.{Escapes}
use Rattle.litrs_build.specs.declared.style.Escapes.TheVariants.{Kept as escapes_kept, Respelled, Needed}
use Rattle.litrs_build.specs.declared.style.Lines.{Lines}
use Rattle.litrs_build.specs.declared.style.Lines.TheVariants.{Kept as lines_kept, Joined}
use Rattle.litrs_build.proofs.CasedSpellings.{cased_is_item, cased_item_value, cased_free, cased_scalars, own_fits, own_value, char_fits, char_spelling-value, NotBlank, IsSpelled, after_blanks_spelled}
use Rattle.litrs_build.proofs.Spellings.{IsOther, scalars_append}

pub scalars_parts : (s t : List ℕ) → scalars (s ++ t) ≡ true →
    (scalars s ≡ true) × (scalars t ≡ true)
scalars_parts [] t all = (refl, all)
scalars_parts (c ∷ s) t all =
    let both = and_parts (scalar c) (scalars (s ++ t)) all in
    let rest = scalars_parts s t both.1 in (and_from _ _ both.0 rest.0, rest.1)

-- The escapes that are needed in a string

plain_other : (w : Switches) (c : ℕ) → fits_charset w.unicode c ≡ true → allows_value w c ≡ true →
    IsOther 34 c → is_plain w c ≡ true
plain_other w c charset value other =
    and_from _ _ (and_from _ _ (and_from _ _ (and_from _ _ (not_from_false _ other.quote)
    (not_from_false _ other.backslash)) (not_from_false _ other.return)) charset) value

plain_allows : (w : Switches) (c : ℕ) → is_plain w c ≡ true → allows_value w c ≡ true
plain_allows w c is = (and_parts _ (allows_value w c) is).1

quote_allowed : (w : Switches) → allows_value w 34 ≡ true
quote_allowed w = or_right w.allow_nul true refl

spelled_char : (w : Switches) (before : Before) (c : ℕ) → scalar c ≡ true →
    fits_charset w.unicode c ≡ true → allows_value w c ≡ true →
    IsSpelled w (is_plain w) before (encode_utf8 c) (needed_char 34 before c)
unfolding encode_utf8
spelled_char w before c e charset value =
    after_blanks_spelled w (is_plain w) before (encode_utf8 c)
    (char_spelling 34 (is_mark before) c) (plain_allows w)
    (char_fits w (is_plain w) 34 (is_mark before) c refl refl (quote_allowed w) e charset value
    (plain_other w c charset value))
    (char_spelling-value 34 (is_mark before) c refl refl)

spelled_byte : (w : Switches) (before : Before) (b : ℕ) → b < 256 → allows_byte w b ≡ true →
    allows_value w b ≡ true →
    IsSpelled w (is_plain w) before (b ∷ []) (needed_spelling 34 before (Byte b))
spelled_byte w before b small byte value =
    cond_both (is_ascii b) (needed_char 34 before b) (Hex b)
    (IsSpelled w (is_plain w) before (b ∷ []))
    (λ low.
    let less = ltb-true b 128 low in
    let s = spelled_char w before b (low_scalar b (omega arith))
    (or_right w.unicode (is_ascii b) low) value in record {
      fits = s.fits;
      is_value = s.is_value ∙ encode_ascii b less;
      safe = s.safe;
    })
    (λ high. record { fits = (small, byte, value); is_value = refl; safe = λ same. tt })

pub simple_low : (c : ℕ) → is_simple c ≡ true → is_ascii (simple_value c) ≡ true
simple_low c is = by_simple (λ c. is_ascii (simple_value c) ≡ true) c is refl refl refl refl refl refl refl

spelled_escape : (w : Switches) (before : Before) (e : Escape) → is_escape w e ≡ true →
    IsSpelled w (is_plain w) before (value_bytes (escape_value e))
    (needed_spelling 34 before (escape_value e))
spelled_escape w before (simple_escape c) is =
    let both = and_parts (is_simple c) _ is in
    let low = simple_low c both.0 in
    spelled_byte w before (simple_value c) (let less = ltb-true (simple_value c) 128 low in omega arith)
    (or_right w.byte_escapes (is_ascii (simple_value c)) low) both.1
spelled_escape w before (hex_escape high low) is =
    let fits = own_fits w (is_plain w) (hex_escape high low) is in
    spelled_byte w before (pair_value high low) fits.0 fits.1 fits.2
spelled_escape w before (unicode_escape inner) is =
    let fits = own_fits w (is_plain w) (unicode_escape inner) is in
    spelled_char w before (hex_value inner) fits.1 (or_left w.unicode _ fits.0) fits.2

-- A property of each possible rewriting of an item is a property of its rewriting

-- a continuation stays only if lines are kept
abbrev KeepsLines : Style → Item → Type 0
KeepsLines style (plain_item c) = Unit {0}
KeepsLines style (escape_item e) = Unit {0}
KeepsLines style (continuation blanks) = style.lines ≡ lines_kept

pub by_line_feed : (lines : Lines) (P : Rewriting → Type 0) → P Unchanged → P (Spelled (Simple 110)) →
    P (line_feed_rewriting lines)
by_line_feed lines_kept P unchanged spelled = unchanged
by_line_feed Joined P unchanged spelled = spelled

pub by_plain : (escapes : Escapes) (q : ℕ) (before : Before) (c : ℕ) (P : Rewriting → Type 0) → P Unchanged →
    P (Spelled (needed_char q before c)) →
    P (plain_rewriting escapes q before c)
by_plain escapes_kept q before c P unchanged spelled = unchanged
by_plain Respelled q before c P unchanged spelled = unchanged
by_plain Needed q before c P unchanged spelled = spelled

pub by_escape : (escapes : Escapes) (q : ℕ) (before : Before) (e : Escape) (P : Rewriting → Type 0) →
    P Unchanged → P (Spelled (own_spelling e)) →
    P (Spelled (needed_spelling q before (escape_value e))) →
    P (escape_rewriting escapes q before e)
by_escape escapes_kept q before e P unchanged own needed = unchanged
by_escape Respelled q before e P unchanged own needed = own
by_escape Needed q before e P unchanged own needed = needed

by_continuation : (lines : Lines) (P : Rewriting → Type 0) → (lines ≡ lines_kept → P Unchanged) →
    (lines ≡ Joined → P Removed) → P (continuation_rewriting lines)
by_continuation lines_kept P unchanged removed = unchanged refl
by_continuation Joined P unchanged removed = removed refl

own_not_blank : (e : Escape) → NotBlank (own_spelling e)
own_not_blank (simple_escape c) = tt
own_not_blank (hex_escape high low) = tt
own_not_blank (unicode_escape inner) = tt

line_feed_spelled : (w : Switches) (before : Before) (c : ℕ) → (c == 10) ≡ true →
    IsSpelled w (is_plain w) before (encode_utf8 c) (Simple 110)
unfolding encode_utf8
line_feed_spelled w before c is = record {
  fits = or_right w.allow_nul true refl;
  is_value = ap encode_utf8 (sym (eqb-true c 10 is));
  safe = λ same. tt;
}

by_item : (w : Switches) (style : Style) (before : Before) (item : Item) → is_item w item ≡ true →
    scalars (item_text item) ≡ true → (P : Rewriting → Type 0) →
    (KeepsLines style item → P Unchanged) →
    ((s : Spelling) → IsSpelled w (is_plain w) before (item_value item) s → P (Spelled s)) →
    (item_value item ≡ [] → style.lines ≡ Joined → P Removed) →
    P (item_rewriting style 34 before item)
by_item w style before (plain_item c) is text P unchanged spelled removed =
    let value = and_parts _ (allows_value w c) is in
    let charset = and_parts _ (fits_charset w.unicode c) value.0 in
    cond_both (c == 10) (line_feed_rewriting style.lines)
    (plain_rewriting style.escapes 34 before c) P
    (λ line. by_line_feed style.lines P (unchanged tt)
    (spelled (Simple 110) (line_feed_spelled w before c line)))
    (λ other. by_plain style.escapes 34 before c P (unchanged tt)
    (spelled _ (spelled_char w before c (and_parts (scalar c) _ text).0 charset.1 value.1)))
by_item w style before (escape_item e) is text P unchanged spelled removed =
    by_escape style.escapes 34 before e P (unchanged tt)
    (spelled (own_spelling e) (record {
      fits = own_fits w (is_plain w) e is;
      is_value = own_value e;
      safe = λ same. own_not_blank e;
    }))
    (spelled _ (spelled_escape w before e is))
by_item w style before (continuation blanks) is text P unchanged spelled removed =
    by_continuation style.lines P unchanged (removed refl)

-- The first character of an item

item_first : (p : ℕ → Bool) (item : Item) (x y : List ℕ) →
    first_passes p (item_text item ++ x) ≡ first_passes p (item_text item ++ y)
item_first p (plain_item c) x y = refl
item_first p (escape_item (simple_escape c)) x y = refl
item_first p (escape_item (hex_escape high low)) x y = refl
item_first p (escape_item (unicode_escape inner)) x y = refl
item_first p (continuation blanks) x y = refl

cased_first : (case : Case) (s : Spelling) (x : List ℕ) → NotBlank s →
    first_passes is_blank (item_text (cased_item case s) ++ x) ≡ false
cased_first case (Plain c) x safe = safe
cased_first case (Simple c) x safe = refl
cased_first case (Hex b) x safe = refl
cased_first case (Unicode c) x safe = refl

-- no blank comes after a continuation that stays
no_blank : (w : Switches) (style : Style) (items : List Item) → style.lines ≡ lines_kept →
    is_body w items ≡ true → scalars (body_text items) ≡ true →
    first_passes is_blank (body_text items) ≡ false →
    first_passes is_blank (body_text (rewritten_items style Continuation items)) ≡ false
no_blank w style [] kept is text none = refl
no_blank w style (item ∷ items) kept is text none =
    let both = and_parts _ (is_body w items) is in
    let first = and_parts (is_item w item) _ both.0 in
    let texts = scalars_parts (item_text item) (body_text items) text in
    by_item w style Continuation item first.0 texts.0
    (λ r. let written = items_of style.escape_digits item r in
    first_passes is_blank (body_text (written
    ++ rewritten_items style (before_after Continuation written) items)) ≡ false)
    (λ keeps. item_first is_blank item _ (body_text items) ∙ none)
    (λ s spelled. cased_first style.escape_digits s _ (spelled.safe refl))
    (λ empty joined. absurd (let e : lines_kept ≡ Joined = sym kept ∙ joined in cc))

-- A body

-- The items are a body with the value of the others.
pub record IsBodyLike (w : Switches) (items written : List Item) : Type 0 where
  pub body : is_body w written ≡ true
  pub value : body_value written ≡ body_value items
  pub text : scalars (body_text written) ≡ true

free_before : (w : Switches) (style : Style) (item : Item) (items : List Item) →
    KeepsLines style item → takes_all_blanks item (body_text items) ≡ true →
    is_body w items ≡ true → scalars (body_text items) ≡ true →
    takes_all_blanks item (body_text (rewritten_items style (before_next item) items)) ≡ true
free_before w style (plain_item c) items keeps taken is text = refl
free_before w style (escape_item e) items keeps taken is text = refl
free_before w style (continuation blanks) items keeps taken is text =
    not_from_false _ (no_blank w style items keeps is text
    (not-true (first_passes is_blank (body_text items)) taken))

pub rewritten_body : (w : Switches) (style : Style) (before : Before) (items : List Item) →
    is_body w items ≡ true → scalars (body_text items) ≡ true →
    IsBodyLike w items (rewritten_items style before items)
rewritten_body w style before [] is text = record { body = refl; value = refl; text = refl }
rewritten_body w style before (item ∷ items) is text =
    let both = and_parts _ (is_body w items) is in
    let first = and_parts (is_item w item) _ both.0 in
    let texts = scalars_parts (item_text item) (body_text items) text in
    let case = style.escape_digits in
    by_item w style before item first.0 texts.0
    (λ r. let written = items_of case item r in
    IsBodyLike w (item ∷ items)
    (written ++ rewritten_items style (before_after before written) items))
    (λ keeps. let rest = rewritten_body w style (before_next item) items both.1 texts.1 in record {
      body = and_from _ _ (and_from _ _ first.0
          (free_before w style item items keeps first.1 both.1 texts.1)) rest.body;
      value = ap (λ (v : List ℕ). item_value item ++ v) rest.value;
      text = scalars_append (item_text item) _ texts.0 rest.text;
    })
    (λ s spelled.
    let rest = rewritten_body w style (before_next (cased_item case s)) items both.1 texts.1 in
    let others = rewritten_items style (before_next (cased_item case s)) items in record {
      body = and_from _ _ (and_from _ _ (cased_is_item w case s spelled.fits)
          (cased_free case s (body_text others))) rest.body;
      value = ap (λ (v : List ℕ). v ++ body_value others)
          (cased_item_value w (is_plain w) case s spelled.fits ∙ spelled.is_value)
          ∙ ap (λ (v : List ℕ). item_value item ++ v) rest.value;
      text = scalars_append (item_text (cased_item case s)) (body_text others)
          (cased_scalars w (is_plain w) case s spelled.fits) rest.text;
    })
    (λ empty joined. let rest = rewritten_body w style before items both.1 texts.1 in record {
      body = rest.body;
      value = rest.value ∙ ap (λ (v : List ℕ). v ++ body_value items) (sym empty);
      text = rest.text;
    })
