-- Printable ASCII is shown as it is, one column a character.
use Rattle.std.proofs.Common.{◌≡◌, ℕ, ◌≤◌, ◌<◌, true, List, [], ◌∷◌, ◌++◌, length, take, drop, refl, sym, ap, subst, ◌∙◌, arith, add-zero}
use Rattle.std.specs.List.{list_all, prefix_len}
use Rattle.std.specs.Str.{chars, encode_utf8_all, IsUtf8, IsAscii, IsCharBoundary}
use Rattle.std.proofs.lemmas.Bool.{and_parts, agree_below, agree_below_at}
use Rattle.std.proofs.lemmas.Bool.Decides.{nat_tests}
use Rattle.std.proofs.lemmas.List.{take-append-drop}
use Rattle.std.proofs.lemmas.Str.{IsCharBoundary-from_drop, encodes-IsAscii}
use Rattle.std.proofs.lemmas.Str.Ascii.{IsAscii-nil, IsAscii-cons}
use Rattle.std.proofs.lemmas.List.Sums.{sum_by-append, sum_by-cons}
use Rattle.ucd_category.specs.GeneralCategory.{general_category}
use Rattle.ucd_category.specs.GeneralCategoryRows.{general_category_rows}
use Rattle.ucd_table.specs.Rows.{value_in}
use Rattle.litrs_base.proofs.Chars.{OnlyAscii, ascii_from_test, passing_front}
use Rattle.litrs_base.proofs.Runs.{list_all-take_while}
use Rattle.litrs_diagnostic.specs.Printable.{is_printable}
use Rattle.litrs_diagnostic.specs.Shown.{char_columns, columns, is_plain, shown, shown_char}
use Rattle.litrs_diagnostic.proofs.Widths.{plain_column, printable_is_shown}

-- of ASCII no other character is printable
ascii_printable : agree_below is_plain is_printable 128 ≡ true
unfolding is_printable general_category general_category_rows value_in
ascii_printable = refl

plain_is_ascii : OnlyAscii is_plain
plain_is_ascii c high = grind (arith, nat_tests)

pub plain_is_shown : (c : ℕ) → is_plain c ≡ true → shown_char c ≡ c ∷ []
plain_is_shown c plain =
    let low : c < 128 = ascii_from_test is_plain c plain_is_ascii plain in
    let bounds : 32 ≤ c = grind (arith, nat_tests) in
    printable_is_shown c (λ e. omega arith)
    (sym (agree_below_at is_plain is_printable 128 c ascii_printable low) ∙ plain)

pub plain_width : (c : ℕ) → is_plain c ≡ true → 1 ≡ columns (shown_char c)
plain_width c plain =
    let bounds : (32 ≤ c) × (c < 127) = (grind (arith, nat_tests), grind (arith, nat_tests)) in
    sym (ap columns (plain_is_shown c plain) ∙ (sum_by-cons char_columns c []
    ∙ (add-zero (char_columns c) ∙ plain_column c bounds)))

plain_shown : (t : List ℕ) → list_all is_plain t ≡ true → shown t ≡ t
plain_shown [] all = refl
plain_shown (c ∷ t) all =
    let both = and_parts (is_plain c) (list_all is_plain t) all in
    ap (λ (x : List ℕ). x ++ shown t) (plain_is_shown c both.0)
    ∙ ap (λ (x : List ℕ). c ∷ x) (plain_shown t both.1)

plain_ascii : (t : List ℕ) → list_all is_plain t ≡ true → IsAscii t
plain_ascii [] all = IsAscii-nil
plain_ascii (c ∷ t) all =
    let both = and_parts (is_plain c) (list_all is_plain t) all in
    IsAscii-cons c t (ascii_from_test is_plain c plain_is_ascii both.0) (plain_ascii t both.1)

-- it is written as it is
pub plain_bytes : (t : List ℕ) → list_all is_plain t ≡ true → t ≡ encode_utf8_all (shown t)
plain_bytes t all = sym (ap encode_utf8_all (plain_shown t all) ∙ encodes-IsAscii t (plain_ascii t all))

pub plain_columns : (t : List ℕ) → list_all is_plain t ≡ true → length t ≡ columns (shown t)
plain_columns [] all = refl
plain_columns (c ∷ t) all =
    let both = and_parts (is_plain c) (list_all is_plain t) all in
    let one = plain_width c both.0 in
    let more = plain_columns t both.1 in
    let sum = sum_by-append char_columns (shown_char c) (shown t) in
    omega (arith, one, more, sum)

-- ---- the front of a text

-- a text may be cut after it
pub plain_cut : (text : List ℕ) (n : ℕ) → IsUtf8 text → n ≡ prefix_len is_plain text →
    IsCharBoundary text n
plain_cut text n u is =
    let f = passing_front is_plain text plain_is_ascii u in
    subst (λ (k : ℕ). IsCharBoundary text k) (sym is)
    (IsCharBoundary-from_drop text (prefix_len is_plain text) f.within f.utf8)

pub plain_parts : (text front back : List ℕ) (n : ℕ) → IsUtf8 text → n ≡ prefix_len is_plain text →
    front ≡ take n text → back ≡ drop n text →
    (list_all is_plain front ≡ true) × (chars text ≡ front ++ chars back)
plain_parts text front back n u is fronts backs =
    let k = prefix_len is_plain text in
    let f = passing_front is_plain text plain_is_ascii u in
    let front_is : front ≡ take k text = fronts ∙ ap (λ (j : ℕ). take j text) is in
    let back_is : back ≡ drop k text = backs ∙ ap (λ (j : ℕ). drop j text) is in (
      ap (list_all is_plain) front_is ∙ list_all-take_while is_plain text,
      sym (take-append-drop k (chars text))
          ∙ (ap (λ (x : List ℕ). x ++ drop k (chars text)) (f.taken ∙ sym front_is)
          ∙ ap (λ (x : List ℕ). front ++ x) (f.rest ∙ ap chars (sym back_is))),
    )
