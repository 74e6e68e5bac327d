-- The item of a char or a byte that is rewritten: it is one of the kind, with the same value.
use Rattle.std.proofs.Common.{◌≡◌, ℕ, Bool, true, not, ◌&&◌, List, refl, sym, ap, ◌∙◌, arith}
use Rattle.std.specs.Prelude.{◌==◌}
use Rattle.std.proofs.lemmas.Bool.{and_parts, cond_both, or_left, or_right, not-true, ltb-true, true≢false}
use Rattle.std.proofs.lemmas.List.{append-nil}
use lib.Utf8.{scalar, scalars, low_scalar}
use Rattle.litrs_base.specs.Characters.{is_ascii, fits_charset}
use Rattle.litrs_base.specs.Quotes.{char_switches_of}
use Rattle.litrs_base.specs.declared.escape.Unescape.TheVariants.{Byte}
use Rattle.litrs_base.specs.declared.quotes.CharKind.{CharKind}
use Rattle.litrs_base.specs.declared.quotes.CharKind.TheVariants.{Char as char_kind, Byte as byte_kind}
use Rattle.litrs_grammar.specs.CharByte.{CharItem, plain_char, escaped_char, char_item_text, char_value, is_char_item, is_special_whitespace, allows_char}
use Rattle.litrs_grammar.specs.Escape.{Escape, simple_escape, hex_escape, unicode_escape, is_escape, is_simple, simple_value, pair_value, hex_value, allows_value, escape_value}
use Rattle.litrs_grammar.specs.Quoted.{item_text, body_text, takes_all_blanks}
use Rattle.litrs_build.specs.BodyItem.{is_any_item}
use Rattle.litrs_build.specs.Rewriting.{needed_char, needed_spelling, own_spelling, item_rewriting, items_of, char_item_of, as_item}
use Rattle.litrs_build.specs.Spelling.{char_spelling, cased_item, cased_char, is_upper}
use Rattle.litrs_build.specs.declared.rewriting.Before.TheVariants.{Mark}
use Rattle.litrs_build.specs.declared.rewriting.Rewriting.{Rewriting}
use Rattle.litrs_build.specs.declared.rewriting.Rewriting.TheVariants.{Unchanged, Spelled}
use Rattle.litrs_build.specs.declared.spelling.Spelling.{Spelling}
use Rattle.litrs_build.specs.declared.spelling.Spelling.TheVariants.{Plain, Simple, Hex, Unicode}
use Rattle.litrs_build.specs.declared.style.Style.{Style}
use Rattle.litrs_build.specs.declared.style.Case.{Case}
use Rattle.litrs_build.proofs.CasedSpellings.{Fits, cased_is_item, cased_scalars, cased_pair, number_is, own_fits, char_fits}
use Rattle.litrs_build.proofs.RewrittenItems.{by_plain, by_escape, simple_low}
use Rattle.litrs_build.proofs.Spellings.{IsOther, spelling_by}

-- a character that may be unescaped between single quotes
abbrev pub is_plain_char : CharKind → ℕ → Bool
is_plain_char kind c =
    not (c == 39) && not (c == 92) && not (is_special_whitespace c) && allows_char kind c

abbrev pub FitsChar : CharKind → Spelling → Type 0
FitsChar kind s = Fits (char_switches_of kind) (is_plain_char kind) s

-- the number of a spelling
abbrev pub spelling_number : Spelling → ℕ
spelling_number (Plain c) = c
spelling_number (Simple c) = simple_value c
spelling_number (Hex b) = b
spelling_number (Unicode c) = c

pub cased_is_char : (kind : CharKind) (case : Case) (s : Spelling) → FitsChar kind s →
    is_char_item kind (cased_char case s) ≡ true
cased_is_char kind case (Plain c) fits = fits.0
cased_is_char kind case (Simple c) fits = fits
cased_is_char kind case (Hex b) fits = cased_is_item (char_switches_of kind) case (Hex b) fits
cased_is_char kind case (Unicode c) fits =
    cased_is_item (char_switches_of kind) case (Unicode c) fits

pub cased_char_value : (kind : CharKind) (case : Case) (s : Spelling) → FitsChar kind s →
    char_value (cased_char case s) ≡ spelling_number s
cased_char_value kind case (Plain c) fits = refl
cased_char_value kind case (Simple c) fits = refl
cased_char_value kind case (Hex b) fits = cased_pair (is_upper case) b fits.0
cased_char_value kind case (Unicode c) fits = number_is (is_upper case) c fits.1

cased_char_text : (case : Case) (s : Spelling) →
    char_item_text (cased_char case s) ≡ item_text (cased_item case s)
cased_char_text case (Plain c) = refl
cased_char_text case (Simple c) = refl
cased_char_text case (Hex b) = refl
cased_char_text case (Unicode c) = refl

pub as_item_text : (item : CharItem) → item_text (as_item item) ≡ char_item_text item
as_item_text (plain_char c) = refl
as_item_text (escaped_char e) = refl

-- The escapes that are needed

allows_all : (kind : CharKind) (c : ℕ) → allows_value (char_switches_of kind) c ≡ true
allows_all char_kind c = refl
allows_all byte_kind c = refl

kind_allows : (kind : CharKind) (c : ℕ) →
    fits_charset (char_switches_of kind).unicode c ≡ true → allows_char kind c ≡ true
kind_allows char_kind c charset = refl
kind_allows byte_kind c charset = charset

charset_of : (kind : CharKind) (c : ℕ) → allows_char kind c ≡ true →
    fits_charset (char_switches_of kind).unicode c ≡ true
charset_of char_kind c allowed = refl
charset_of byte_kind c allowed = allowed

plain_other : (kind : CharKind) (c : ℕ) → fits_charset (char_switches_of kind).unicode c ≡ true →
    IsOther 39 c → is_plain_char kind c ≡ true
plain_other kind c charset other =
    let allowed = kind_allows kind c charset in
    simp (other.quote, other.backslash, other.line_feed, other.tab, other.return, allowed)

fits_char : (kind : CharKind) (c : ℕ) → scalar c ≡ true →
    fits_charset (char_switches_of kind).unicode c ≡ true →
    FitsChar kind (char_spelling 39 true c)
fits_char kind c e charset =
    char_fits (char_switches_of kind) (is_plain_char kind) 39 true c refl refl
    (allows_all kind 39) e charset (allows_all kind c) (plain_other kind c charset)

pub char_spelling-number : (q : ℕ) (m : Bool) (c : ℕ) → simple_value q ≡ q →
    spelling_number (char_spelling q m c) ≡ c
char_spelling-number q m c quote =
    let P : Spelling → Type 0 = λ s. spelling_number s ≡ c in
    let mark : (d : ℕ) → c ≡ d → simple_value d ≡ d →
    P (Simple c) = λ d is value. ap simple_value is ∙ (value ∙ sym is) in
    spelling_by q m c P (λ is. sym is) (λ is. sym is) (λ is. sym is) (λ is. sym is)
    (λ is. mark q is quote) (λ is. mark 92 is refl) (λ other shown. refl) (λ other low. refl)
    (λ other high. refl)

-- A spelling that fits, with this number.
pub record IsCharSpelled (kind : CharKind) (number : ℕ) (s : Spelling) : Type 0 where
  pub fits : FitsChar kind s
  pub is_value : spelling_number s ≡ number

spelled_byte : (kind : CharKind) (b : ℕ) → FitsChar kind (Hex b) →
    IsCharSpelled kind b (needed_spelling 39 Mark (Byte b))
spelled_byte kind b fits =
    cond_both (is_ascii b) (needed_char 39 Mark b) (Hex b) (IsCharSpelled kind b)
    (λ low. let less = ltb-true b 128 low in record {
      fits = fits_char kind b (low_scalar b (omega arith))
          (or_right (char_switches_of kind).unicode (is_ascii b) low);
      is_value = char_spelling-number 39 true b refl;
    })
    (λ high. record { fits = fits; is_value = refl })

spelled_escape : (kind : CharKind) (e : Escape) → is_escape (char_switches_of kind) e ≡ true →
    IsCharSpelled kind (char_value (escaped_char e)) (needed_spelling 39 Mark (escape_value e))
spelled_escape kind (simple_escape c) is =
    let both = and_parts (is_simple c) _ is in
    let low = simple_low c both.0 in
    spelled_byte kind (simple_value c)
    (let less = ltb-true (simple_value c) 128 low in omega arith, or_right (char_switches_of kind).byte_escapes _ low, both.1)
spelled_escape kind (hex_escape high low) is =
    spelled_byte kind (pair_value high low)
    (own_fits (char_switches_of kind) (is_plain_char kind) (hex_escape high low) is)
spelled_escape kind (unicode_escape inner) is =
    let fits = own_fits (char_switches_of kind) (is_plain_char kind) (unicode_escape inner) is in
    record {
      fits = fits_char kind (hex_value inner) fits.1
          (or_left (char_switches_of kind).unicode _ fits.0);
      is_value = char_spelling-number 39 true (hex_value inner) refl;
    }

own_number : (e : Escape) → spelling_number (own_spelling e) ≡ char_value (escaped_char e)
own_number (simple_escape c) = refl
own_number (hex_escape high low) = refl
own_number (unicode_escape inner) = refl

-- A property of each possible rewriting of an item is a property of its rewriting

pub by_char : (kind : CharKind) (style : Style) (item : CharItem) →
    is_char_item kind item ≡ true → scalars (char_item_text item) ≡ true →
    (P : Rewriting → Type 0) → P Unchanged →
    ((s : Spelling) → IsCharSpelled kind (char_value item) s → P (Spelled s)) →
    P (item_rewriting style 39 Mark (as_item item))
by_char kind style (plain_char c) is text P unchanged spelled =
    let allowed = and_parts _ (allows_char kind c) is in
    let blank = and_parts _ (not (is_special_whitespace c)) allowed.0 in
    cond_both (c == 10) _ _ P
    (λ line. absurd (true≢false (sym (or_left _ (c == 13) (or_left (c == 10) (c == 9) line))
    ∙ not-true (is_special_whitespace c) blank.1)))
    (λ other. by_plain style.escapes 39 Mark c P unchanged
    (spelled _ (record {
      fits = fits_char kind c (and_parts (scalar c) _ text).0 (charset_of kind c allowed.1);
      is_value = char_spelling-number 39 true c refl;
    })))
by_char kind style (escaped_char e) is text P unchanged spelled =
    by_escape style.escapes 39 Mark e P unchanged
    (spelled (own_spelling e) (record {
      fits = own_fits (char_switches_of kind) (is_plain_char kind) e is;
      is_value = own_number e;
    }))
    (spelled _ (spelled_escape kind e is))

-- The item is one of the kind, with the same value, and is written as the items of a string are.
pub record IsCharLike (kind : CharKind) (style : Style) (item : CharItem) (r : Rewriting) : Type 0
  where
    pub is_item : is_char_item kind (char_item_of style.escape_digits item r) ≡ true
    pub value : char_value (char_item_of style.escape_digits item r) ≡ char_value item
    pub text : scalars (char_item_text (char_item_of style.escape_digits item r)) ≡ true
    pub written : body_text (items_of style.escape_digits (as_item item) r)
        ≡ char_item_text (char_item_of style.escape_digits item r)

pub rewritten_item : (kind : CharKind) (style : Style) (item : CharItem) →
    is_char_item kind item ≡ true → scalars (char_item_text item) ≡ true →
    IsCharLike kind style item (item_rewriting style 39 Mark (as_item item))
rewritten_item kind style item is text =
    let case = style.escape_digits in
    by_char kind style item is text (IsCharLike kind style item)
    (record {
      is_item = is;
      value = refl;
      text = text;
      written = append-nil (item_text (as_item item)) ∙ as_item_text item;
    })
    (λ s spelled. record {
      is_item = cased_is_char kind case s spelled.fits;
      value = cased_char_value kind case s spelled.fits ∙ spelled.is_value;
      text = ap scalars (cased_char_text case s)
          ∙ cased_scalars (char_switches_of kind) (is_plain_char kind) case s spelled.fits;
      written = append-nil (item_text (cased_item case s)) ∙ sym (cased_char_text case s);
    })

-- The item is read from the text

pub char_is_any : (kind : CharKind) (item : CharItem) → is_char_item kind item ≡ true →
    is_any_item (char_switches_of kind) (as_item item) ≡ true
char_is_any kind (plain_char c) is =
    let allowed = and_parts _ (allows_char kind c) is in
    let blank = and_parts _ (not (is_special_whitespace c)) allowed.0 in
    (and_parts (not (c == 39)) (not (c == 92)) blank.0).1
char_is_any kind (escaped_char e) is = is

pub char_takes : (item : CharItem) (after : List ℕ) → takes_all_blanks (as_item item) after ≡ true
char_takes (plain_char c) after = refl
char_takes (escaped_char e) after = refl
