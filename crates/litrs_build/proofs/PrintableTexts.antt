-- The text between quotes is printable.
use Rattle.std.proofs.Common.{◌≡◌, ℕ, zero, suc, ◌-◌, ◌/◌, ◌%◌, ◌<◌, Bool, true, false, [], ◌∷◌, refl, ap, ◌∙◌, arith}
use Rattle.std.specs.List.{list_all}
use Rattle.std.specs.Fmt.{digits}
use Rattle.std.proofs.lemmas.Bool.{and_from, and_parts, cond_both, ltb-true}
use Rattle.litrs_base.specs.Characters.{is_ascii}
use Rattle.litrs_grammar.specs.Quoted.{item_text, body_text}
use Rattle.litrs_build.specs.declared.spelling.Spelling.{Spelling}
use Rattle.litrs_build.specs.declared.spelling.Spelling.TheVariants.{Plain, Simple, Hex, Unicode}
use Rattle.litrs_build.specs.declared.style.Case.TheVariants.{Lower}
use Rattle.litrs_build.specs.Laws.{CharsArePrintable, BytesArePrintable, StringsArePrintable, ByteStringsArePrintable, CStringsArePrintable}
use Rattle.std.specs.Prelude.{Option, Some, None}
use Rattle.litrs_build.specs.CStrings.{first_char, spelling_or_byte, len_or_byte, c_items}
use Rattle.litrs_build.specs.Printable.{is_printable}
use Rattle.litrs_build.specs.Spelling.{char_spelling, byte_spelling, is_shown, is_escaped, cased_digit, spelled_item}
use Rattle.litrs_build.specs.Written.{char_items, byte_items}
use Rattle.litrs_build.proofs.PrintableAscii.{is_plain, plain_printable, plain_all}
use Rattle.litrs_build.proofs.HexDigits.{hex_glyphs, glyph_passes, digits_pass}
use Rattle.litrs_build.proofs.Spellings.{spelling_by, all_append, same_text}

-- Each spelling

abbrev Shows : Spelling → Type 0
Shows s = list_all is_printable (item_text (spelled_item s)) ≡ true

simple_shows : (c : ℕ) → is_printable c ≡ true → Shows (Simple c)
simple_shows c shown = and_from _ _ (plain_printable 92 refl) (and_from _ _ shown refl)

plain_shows : (m : Bool) (c : ℕ) → is_shown m c ≡ true → Shows (Plain c)
plain_shows m c shown = and_from _ _ (and_parts (is_printable c) _ shown).0 refl

hex_shows : (b : ℕ) → b < 256 → Shows (Hex b)
hex_shows b small =
    all_append is_printable (92 ∷ 120 ∷ [])
    (cased_digit Lower (b / 16) ∷ cased_digit Lower (b % 16) ∷ []) (plain_all (92 ∷ 120 ∷ []) refl)
    (and_from _ _ (glyph_passes is_printable (plain_all hex_glyphs refl) (b / 16) (omega arith))
    (and_from _ _ (glyph_passes is_printable (plain_all hex_glyphs refl) (b % 16) (omega arith)) refl))

unicode_shows : (c : ℕ) → Shows (Unicode c)
unicode_shows c =
    all_append is_printable (92 ∷ 117 ∷ 123 ∷ []) _ (plain_all (92 ∷ 117 ∷ 123 ∷ []) refl)
    (all_append is_printable (digits 16 false c) (125 ∷ [])
    (digits_pass is_printable (plain_all hex_glyphs refl) c) (plain_all (125 ∷ []) refl))

letter : (k : ℕ) → is_plain k ≡ true → Shows (Simple k)
letter k plain = simple_shows k (plain_printable k plain)

char_shows : (q : ℕ) (m : Bool) (c : ℕ) → is_printable q ≡ true → Shows (char_spelling q m c)
char_shows q m c quote =
    let mark : (d : ℕ) → c ≡ d → is_printable d ≡ true →
    Shows (Simple c) = λ d is shown. simple_shows c (ap is_printable is ∙ shown) in
    spelling_by q m c Shows (λ is. letter 48 refl) (λ is. letter 116 refl) (λ is. letter 110 refl)
    (λ is. letter 114 refl)
    (λ is. mark q is quote) (λ is. mark 92 is (plain_printable 92 refl))
    (λ other shown. plain_shows m c shown)
    (λ other low. let small = ltb-true c 128 low in hex_shows c (omega arith))
    (λ other high. unicode_shows c)

byte_shows : (q : ℕ) (b : ℕ) → b < 256 → is_printable q ≡ true → Shows (byte_spelling q b)
unfolding byte_spelling
byte_shows q b small quote =
    cond_both (is_ascii b) (char_spelling q false b) (Hex b) Shows
    (λ low. char_shows q false b quote) (λ high. hex_shows b small)

-- Each literal

pub chars_are_printable : CharsArePrintable
chars_are_printable c suffix =
    ap (list_all is_printable) (same_text (char_spelling 39 true c))
    ∙ char_shows 39 true c (plain_printable 39 refl)

pub bytes_are_printable : BytesArePrintable
bytes_are_printable b suffix small =
    ap (list_all is_printable) (same_text (byte_spelling 39 b))
    ∙ byte_shows 39 b small (plain_printable 39 refl)

pub strings_are_printable : StringsArePrintable
strings_are_printable m [] = refl
strings_are_printable m (c ∷ cs) =
    let s = char_spelling 34 m c in
    all_append is_printable (item_text (spelled_item s)) (body_text (char_items (is_escaped s) cs))
    (char_shows 34 m c (plain_printable 34 refl))
    (strings_are_printable (is_escaped s) cs)

pub byte_strings_are_printable : ByteStringsArePrintable
byte_strings_are_printable [] small = refl
byte_strings_are_printable (b ∷ bs) small =
    all_append is_printable (item_text (spelled_item (byte_spelling 34 b)))
    (body_text (byte_items bs)) (byte_shows 34 b (small 0) (plain_printable 34 refl))
    (byte_strings_are_printable bs (λ i. small (suc i)))

first_shows : (m : Bool) (b : ℕ) (o : Option ℕ) → b < 256 → Shows (spelling_or_byte m b o)
first_shows m b None small = hex_shows b small
first_shows m b (Some c) small = char_shows 34 m c (plain_printable 34 refl)

pub c_strings_are_printable : CStringsArePrintable
c_strings_are_printable zero m [] small = refl
c_strings_are_printable (suc k) m [] small = refl
c_strings_are_printable (suc k) m (b ∷ bs) small =
    c_strings_are_printable k m bs (λ i. small (suc i))
c_strings_are_printable zero m (b ∷ bs) small =
    let o = first_char (b ∷ bs) in
    let s = spelling_or_byte m b o in
    all_append is_printable (item_text (spelled_item s))
    (body_text (c_items (len_or_byte o - 1) (is_escaped s) bs)) (first_shows m b o (small 0))
    (c_strings_are_printable (len_or_byte o - 1) (is_escaped s) bs (λ i. small (suc i)))
