-- Floats: what the cut of the bytes says of the characters.
use Rattle.std.proofs.Common.{◌≡◌, ℕ, suc, ◌+◌, ◌-◌, ◌≤◌, ◌<◌, Bool, true, false, cond, not, eqb, ◌&&◌, ◌||◌, List, [], ◌∷◌, ◌++◌, length, take, drop, slice_range, slice_get, Option, Some, None, refl, sym, ap, subst, ◌∙◌, eq-eqb, inl, inr, arith}
use Rattle.std.specs.Prelude.{if◌then◌else◌, IfSome}
use Rattle.std.specs.declared.ops.Range.{Range}
use Rattle.std.specs.Str.{chars, IsUtf8, IsCharBoundary}
use Rattle.std.specs.Char.{is_ascii_digit}
use Rattle.std.specs.List.{list_all, list_any, prefix_len, take_while}
use Rattle.std.specs.Option.{is_some}
use Rattle.std.proofs.lemmas.Bool.{and_parts, ltb-true, ne_eqb, cases_lt, false≢true}
use Rattle.std.proofs.lemmas.Bool.Decides.{nat_tests}
use Rattle.std.proofs.lemmas.List.{length-append, drop_at, take_at, take_rest, append_assoc, append_cancel_right, take-append-drop}
use Rattle.std.proofs.lemmas.List.Folds.{length-prefix_len}
use Rattle.std.proofs.lemmas.Str.{chars-nil, chars-append, IsUtf8-take, chars-IsAscii, encodes-chars, IsCharBoundary-from_drop}
use Rattle.litrs_base.specs.declared.integer.IntegerBase.TheVariants.{Decimal}
use Rattle.litrs_base.specs.declared.err.ParseErrorKind.{ParseErrorKind}
use Rattle.litrs_base.specs.declared.err.ParseErrorKind.TheVariants.{Empty, DoesNotStartWithDigit, UnexpectedChar, NoExponentDigits, UnexpectedIntegerLit}
use Rattle.litrs_base.specs.Refusal.{Refusal, refusal, without_span, spanning, at_byte}
use Rattle.litrs_base.specs.Text.{is_empty, byte_len, first_passes}
use Rattle.litrs_grammar.specs.Suffix.{is_suffix, suffix_kind}
use Rattle.litrs_grammar.specs.Integer.{is_e}
use Rattle.litrs_grammar.specs.Float.{FloatParts, fraction_text, number_part, float_text, is_decimal_char, is_period, is_sign, fraction_of, exponent_of, text_after, float_cut, has_wrong_fraction, float_cut_refusal, float_refusal}
use Rattle.litrs_lex.specs.declared.float.FloatCut.{FloatCut}
use Rattle.litrs_lex.specs.FloatCut.{fraction_at, float_parts_at, IsFloatWithin, IsFloatAt, IsPartsCut}
use Rattle.litrs_base.proofs.Chars.{chars_empty, chars_wide, ascii_by_test, chars_ascii, utf8_after_ascii, OnlyAscii, first_passes-chars}
use Rattle.litrs_base.proofs.Spans.{is_ascii_char}
use Rattle.litrs_base.proofs.Runs.{list_all-append}
use Rattle.litrs_grammar.proofs.Laws.Integer.{not_empty_by_first}
use Rattle.litrs_grammar.proofs.FloatCuts.{IsCut, CutOf, cut_of, cut_of_text, number_part-suffix}
use Rattle.litrs_grammar.proofs.Spans.Float.{number_part_ascii, float_refusal_within}
use Rattle.litrs_lex.proofs.IntegerBytes.{digits_are_ascii, e_is_ascii, digit_is_ascii, filled_by_first, digit-chars}
use Rattle.litrs_lex.proofs.SuffixBytes.{first_passes_at}

-- a text after ASCII

pub chars_after : (front bs : List ℕ) → list_all is_ascii_char front ≡ true → chars (front ++ bs) ≡ front ++ chars bs
chars_after [] bs all = refl
chars_after (c ∷ front) bs all =
    let parts : (is_ascii_char c ≡ true) × (list_all is_ascii_char front ≡ true) = and_parts _ _ all in
    chars_ascii c (front ++ bs) (ltb-true c 128 parts.0) ∙ ap (λ t. c ∷ t) (chars_after front bs parts.1)

pub utf8_after : (front bs : List ℕ) → list_all is_ascii_char front ≡ true → IsUtf8 (front ++ bs) → IsUtf8 bs
utf8_after [] bs all u = u
utf8_after (c ∷ front) bs all u =
    let parts : (is_ascii_char c ≡ true) × (list_all is_ascii_char front ≡ true) = and_parts _ _ all in
    utf8_after front bs parts.1 (utf8_after_ascii c (front ++ bs) (ltb-true c 128 parts.0) u)

-- the boundary after it
pub boundary_after : (bs front rest : List ℕ) (n : ℕ) → front ++ rest ≡ bs → list_all is_ascii_char front ≡ true → length front ≡ n → IsUtf8 bs → IsCharBoundary bs n
boundary_after bs front rest n spells all len u =
    let left : drop n bs ≡ rest = ap (drop n) (sym spells) ∙ drop_at front rest n len in
    let utf8 : IsUtf8 (drop n bs) = subst (λ (t : List ℕ). IsUtf8 t) (sym left) (utf8_after front rest all (subst (λ (t : List ℕ). IsUtf8 t) (sym spells) u)) in
    let within : n ≤ length bs = omega (arith, ap length spells, length-append front rest) in
    IsCharBoundary-from_drop bs n within utf8

-- an ASCII part of a text, by its places
pub part_at : (a b c bs : List ℕ) (i j : ℕ) → a ++ (b ++ c) ≡ bs → length a ≡ i → i + length b ≡ j → slice_range bs i j ≡ b
part_at a b c bs i j spells at_i at_j =
    let from : drop i bs ≡ b ++ c = ap (drop i) (sym spells) ∙ drop_at a (b ++ c) i at_i in
    let len : j - i ≡ length b = omega arith in
    ap (λ n. take n (drop i bs)) len ∙ (ap (take (length b)) from ∙ take_at b c (length b) refl)

ascii_chars : (t : List ℕ) → list_all is_ascii_char t ≡ true → chars t ≡ t
ascii_chars t all = chars-IsAscii t (ascii_by_test t all)

-- The parts of a text of bytes, and of its characters: they differ in the suffix alone.

period_is_ascii : OnlyAscii is_period
period_is_ascii c high = grind (arith, nat_tests)

sign_is_ascii : OnlyAscii is_sign
sign_is_ascii c high = grind (arith, nat_tests)

abbrev pub with_chars : FloatParts → FloatParts
with_chars d = record { integer = d.integer; fraction = d.fraction; exponent = d.exponent; suffix = chars d.suffix }

with_chars_cut : (d : FloatParts) → IsCut d → IsUtf8 d.suffix → IsCut (with_chars d)
with_chars_cut d cut u = record {
  integer = cut.integer;
  fraction = cut.fraction;
  exponent = cut.exponent;
  stops = first_passes-chars is_decimal_char d.suffix (digits_are_ascii Decimal) u ∙ cut.stops;
  no_letter = λ e. first_passes-chars is_e d.suffix e_is_ascii u ∙ cut.no_letter e;
  no_sign = λ c e. first_passes-chars is_sign d.suffix sign_is_ascii u ∙ cut.no_sign c e;
  no_period = λ f e. first_passes-chars is_period d.suffix period_is_ascii u ∙ cut.no_period f e;
}

suffix_utf8 : (bs : List ℕ) (c : CutOf bs) → IsUtf8 bs → IsUtf8 c.parts.suffix
suffix_utf8 bs c u =
    utf8_after (number_part c.parts) c.parts.suffix (number_part_ascii c.parts c.cut)
    (subst (λ (t : List ℕ). IsUtf8 t) (sym (number_part-suffix c.parts ∙ c.spells)) u)

with_chars_text : (bs : List ℕ) (c : CutOf bs) → float_text (with_chars c.parts) ≡ chars bs
with_chars_text bs c =
    sym (number_part-suffix (with_chars c.parts))
    ∙ (sym (chars_after (number_part c.parts) c.parts.suffix (number_part_ascii c.parts c.cut)) ∙ ap chars (number_part-suffix c.parts ∙ c.spells))

float_cut-chars : (bs : List ℕ) (c : CutOf bs) → IsUtf8 bs → float_cut (chars bs) ≡ with_chars c.parts
float_cut-chars bs c u = ap float_cut (sym (with_chars_text bs c)) ∙ cut_of_text (with_chars c.parts) (with_chars_cut c.parts c.cut (suffix_utf8 bs c u))

-- The places of the cut

integer_is : (bs : List ℕ) (d : FloatParts) → float_cut bs ≡ d → take_while is_decimal_char bs ≡ d.integer
unfolding float_cut
integer_is bs d e = ap (λ (p : FloatParts). p.integer) e

fraction_is : (bs : List ℕ) (d : FloatParts) → float_cut bs ≡ d → fraction_of (text_after d.integer bs) ≡ d.fraction
unfolding float_cut
fraction_is bs d e = ap (λ (p : FloatParts). fraction_of (text_after p.integer bs)) (sym e) ∙ ap (λ (p : FloatParts). p.fraction) e

exponent_is : (bs : List ℕ) (d : FloatParts) → float_cut bs ≡ d → exponent_of (text_after (d.integer ++ fraction_text d.fraction) bs) ≡ d.exponent
unfolding float_cut
exponent_is bs d e = ap (λ (p : FloatParts). exponent_of (text_after (p.integer ++ fraction_text p.fraction) bs)) (sym e) ∙ ap (λ (p : FloatParts). p.exponent) e

record Places (cut : FloatCut) (d : FloatParts) : Type 0 where
  integer : length d.integer ≡ cut.end_integer
  fraction : cut.end_integer + length (fraction_text d.fraction) ≡ cut.end_fraction
  exponent : cut.end_fraction + length d.exponent ≡ cut.end_number

places_of : (cut : FloatCut) (bs : List ℕ) (c : CutOf bs) → IsPartsCut cut bs → Places cut c.parts
places_of cut bs c h =
    let d = c.parts in
    let same : float_cut bs ≡ d = ap float_cut (sym c.spells) ∙ cut_of_text d c.cut in
    let integer : length d.integer ≡ cut.end_integer = ap length (sym (integer_is bs d same)) ∙ (length-prefix_len is_decimal_char bs ∙ sym h.integer) in
    let fraction : fraction_of (drop cut.end_integer bs) ≡ d.fraction = ap (λ n. fraction_of (drop n bs)) (sym integer) ∙ fraction_is bs d same in
    let end : cut.end_integer + length (fraction_text d.fraction) ≡ cut.end_fraction =
    ap (λ f. cut.end_integer + length (fraction_text f)) (sym fraction) ∙ sym h.fraction in
    let front : length (d.integer ++ fraction_text d.fraction) ≡ cut.end_fraction = length-append d.integer (fraction_text d.fraction) ∙ (ap (λ n. n + length (fraction_text d.fraction)) integer ∙ end) in
    let exponent : exponent_of (drop cut.end_fraction bs) ≡ d.exponent = ap (λ n. exponent_of (drop n bs)) (sym front) ∙ exponent_is bs d same in
    record { integer = integer; fraction = end; exponent = ap (λ p. cut.end_fraction + length p) (sym exponent) ∙ sym h.exponent }

-- The parts of the text, before what follows each

record Fronts (bs : List ℕ) (d : FloatParts) : Type 0 where
  integer : d.integer ++ (fraction_text d.fraction ++ (d.exponent ++ d.suffix)) ≡ bs
  fraction : (d.integer ++ fraction_text d.fraction) ++ (d.exponent ++ d.suffix) ≡ bs
  number : number_part d ++ d.suffix ≡ bs
  integer_ascii : list_all is_ascii_char d.integer ≡ true
  fraction_ascii : list_all is_ascii_char (d.integer ++ fraction_text d.fraction) ≡ true
  number_ascii : list_all is_ascii_char (number_part d) ≡ true

all_front : (p : ℕ → Bool) (xs ys : List ℕ) → list_all p (xs ++ ys) ≡ true → list_all p xs ≡ true
all_front p [] ys all = refl
all_front p (x ∷ xs) ys all =
    let parts : (p x ≡ true) × (list_all p (xs ++ ys) ≡ true) = and_parts _ _ all in
    ap (λ v. v && list_all p xs) parts.0 ∙ all_front p xs ys parts.1

all_rest : (p : ℕ → Bool) (xs ys : List ℕ) → list_all p (xs ++ ys) ≡ true → list_all p ys ≡ true
all_rest p [] ys all = all
all_rest p (x ∷ xs) ys all =
    let parts : (p x ≡ true) × (list_all p (xs ++ ys) ≡ true) = and_parts _ _ all in
    all_rest p xs ys parts.1

fronts_of : (bs : List ℕ) (c : CutOf bs) → Fronts bs c.parts
fronts_of bs c =
    let d = c.parts in
    let all = number_part_ascii d c.cut in
    let both : list_all is_ascii_char ((d.integer ++ fraction_text d.fraction) ++ d.exponent) ≡ true = ap (list_all is_ascii_char) (append_assoc d.integer (fraction_text d.fraction) d.exponent) ∙ all in
    record {
      integer = c.spells;
      fraction = append_assoc d.integer (fraction_text d.fraction) (d.exponent ++ d.suffix) ∙ c.spells;
      number = number_part-suffix d ∙ c.spells;
      integer_ascii = all_front is_ascii_char d.integer (fraction_text d.fraction ++ d.exponent) all;
      fraction_ascii = all_front is_ascii_char (d.integer ++ fraction_text d.fraction) d.exponent both;
      number_ascii = all;
    }

-- The parts that the cut names are those of the characters.

fraction_at-is : (cut : FloatCut) (bs i : List ℕ) (f : Option (List ℕ)) (r : List ℕ) → i ++ (fraction_text f ++ r) ≡ bs → length i ≡ cut.end_integer →
    cut.end_integer + length (fraction_text f) ≡ cut.end_fraction → list_all is_ascii_char (fraction_text f) ≡ true → fraction_at cut bs ≡ f
fraction_at-is cut bs i None r spells at_i at_f all =
    let same : cut.end_integer ≡ cut.end_fraction = omega arith in
    ap (λ v. cond v None (Some (chars (slice_range bs (cut.end_integer + 1) cut.end_fraction)))) (eq-eqb cut.end_integer cut.end_fraction same)
fraction_at-is cut bs i (Some f) r spells at_i at_f all =
    let other : eqb cut.end_integer cut.end_fraction ≡ false = ne_eqb cut.end_integer cut.end_fraction (λ e. omega arith) in
    let len : length (i ++ (46 ∷ [])) ≡ cut.end_integer + 1 = length-append i (46 ∷ []) ∙ ap (λ n. n + 1) at_i in
    let part : slice_range bs (cut.end_integer + 1) cut.end_fraction ≡ f =
    part_at (i ++ (46 ∷ [])) f r bs (cut.end_integer + 1) cut.end_fraction (append_assoc i (46 ∷ []) (f ++ r) ∙ spells) len (omega arith) in
    ap (λ v. cond v None (Some (chars (slice_range bs (cut.end_integer + 1) cut.end_fraction)))) other
    ∙ ap Some (ap chars part ∙ ascii_chars f (and_parts (is_ascii_char 46) (list_all is_ascii_char f) all).1)

front_len : (cut : FloatCut) (d : FloatParts) → Places cut d → length (d.integer ++ fraction_text d.fraction) ≡ cut.end_fraction
front_len cut d p = length-append d.integer (fraction_text d.fraction) ∙ (ap (λ n. n + length (fraction_text d.fraction)) p.integer ∙ p.fraction)

number_len : (cut : FloatCut) (d : FloatParts) → Places cut d → length (number_part d) ≡ cut.end_number
number_len cut d p =
    ap length (sym (append_assoc d.integer (fraction_text d.fraction) d.exponent))
    ∙ (length-append (d.integer ++ fraction_text d.fraction) d.exponent ∙ (ap (λ n. n + length d.exponent) (front_len cut d p) ∙ p.exponent))

exponent_at : (cut : FloatCut) (bs : List ℕ) (d : FloatParts) → Fronts bs d → Places cut d → slice_range bs cut.end_fraction cut.end_number ≡ d.exponent
exponent_at cut bs d f p = part_at (d.integer ++ fraction_text d.fraction) d.exponent d.suffix bs cut.end_fraction cut.end_number f.fraction (front_len cut d p) p.exponent

suffix_at : (cut : FloatCut) (bs : List ℕ) (d : FloatParts) → Fronts bs d → Places cut d → drop cut.end_number bs ≡ d.suffix
suffix_at cut bs d f p = ap (drop cut.end_number) (sym f.number) ∙ drop_at (number_part d) d.suffix cut.end_number (number_len cut d p)

pub parts_of_cut : (cut : FloatCut) (bs : List ℕ) → IsUtf8 bs → IsPartsCut cut bs → float_cut (chars bs) ≡ float_parts_at cut bs
parts_of_cut cut bs u h =
    let c = cut_of bs in
    let d = c.parts in
    let p = places_of cut bs c h in
    let f = fronts_of bs c in
    let after_integer = fraction_text d.fraction ++ (d.exponent ++ d.suffix) in
    let integer : chars (slice_range bs 0 cut.end_integer) ≡ d.integer =
    ap chars (part_at [] d.integer after_integer bs 0 cut.end_integer f.integer refl (omega (arith, p.integer))) ∙ ascii_chars d.integer f.integer_ascii in
    let fraction : fraction_at cut bs ≡ d.fraction =
    fraction_at-is cut bs d.integer d.fraction (d.exponent ++ d.suffix) f.integer p.integer p.fraction (all_rest is_ascii_char d.integer (fraction_text d.fraction) f.fraction_ascii) in
    let both : list_all is_ascii_char ((d.integer ++ fraction_text d.fraction) ++ d.exponent) ≡ true = ap (list_all is_ascii_char) (append_assoc d.integer (fraction_text d.fraction) d.exponent) ∙ f.number_ascii in
    let exponent : chars (slice_range bs cut.end_fraction cut.end_number) ≡ d.exponent =
    ap chars (exponent_at cut bs d f p) ∙ ascii_chars d.exponent (all_rest is_ascii_char (d.integer ++ fraction_text d.fraction) d.exponent both) in
    let suffix : chars (drop cut.end_number bs) ≡ chars d.suffix = ap chars (suffix_at cut bs d f p) in
    float_cut-chars bs c u ∙ sym (λ j. record { integer = integer j; fraction = fraction j; exponent = exponent j; suffix = suffix j })

period_boundary : (bs i : List ℕ) (f : Option (List ℕ)) (r : List ℕ) (m n : ℕ) → i ++ (fraction_text f ++ r) ≡ bs → list_all is_ascii_char i ≡ true → length i ≡ m →
    m + length (fraction_text f) ≡ n → IsUtf8 bs → m < n → IsCharBoundary bs (m + 1)
period_boundary bs i None r m n spells all at_m at_n u more = absurd (omega arith)
period_boundary bs i (Some f) r m n spells all at_m at_n u more =
    boundary_after bs (i ++ (46 ∷ [])) (f ++ r) (m + 1) (append_assoc i (46 ∷ []) (f ++ r) ∙ spells) (list_all-append is_ascii_char i (46 ∷ []) all refl)
    (length-append i (46 ∷ []) ∙ ap (λ n. n + 1) at_m) u

pub places_of_cut : (cut : FloatCut) (bs : List ℕ) → IsUtf8 bs → IsPartsCut cut bs → IsFloatWithin cut bs
places_of_cut cut bs u h =
    let c = cut_of bs in
    let d = c.parts in
    let p = places_of cut bs c h in
    let f = fronts_of bs c in
    let after_integer = fraction_text d.fraction ++ (d.exponent ++ d.suffix) in
    record {
      integer_first = omega (arith, p.fraction);
      fraction_next = omega (arith, p.exponent);
      integer = boundary_after bs d.integer after_integer cut.end_integer f.integer f.integer_ascii p.integer u;
      after_period = period_boundary bs d.integer d.fraction (d.exponent ++ d.suffix) cut.end_integer cut.end_fraction f.integer f.integer_ascii p.integer p.fraction u;
      fraction = boundary_after bs (d.integer ++ fraction_text d.fraction) (d.exponent ++ d.suffix) cut.end_fraction f.fraction f.fraction_ascii (front_len cut d p) u;
      number = boundary_after bs (number_part d) d.suffix cut.end_number f.number f.number_ascii (number_len cut d p) u;
    }

-- The refusals by the places

-- the rows by the tests that the code makes
abbrev pub rows_by : (integer fraction number len : ℕ) (kind : ParseErrorKind) (wrong_fraction no_digit suffix is_integer : Bool) → Option Refusal
rows_by integer fraction number len kind wrong_fraction no_digit suffix is_integer =
    if wrong_fraction then Some (at_byte (integer + 1) UnexpectedChar)
    else if no_digit then Some (spanning fraction number NoExponentDigits)
    else if not suffix then Some (spanning number len kind)
    else if is_integer then Some (without_span UnexpectedIntegerLit)
    else None

pub empty_by_length : (bs : List ℕ) → eqb (length bs) 0 ≡ is_empty bs
empty_by_length [] = refl
empty_by_length (b ∷ bs) = ne_eqb (suc (length bs)) 0 (λ e. omega arith)

-- the row that decides

pub row_wrong_fraction : (i f n len : ℕ) (kind : ParseErrorKind) (wrong digit suffix integer : Bool) → wrong ≡ true →
    rows_by i f n len kind wrong digit suffix integer ≡ Some (at_byte (i + 1) UnexpectedChar)
row_wrong_fraction i f n len kind wrong digit suffix integer a = rw a refl

pub row_no_digit : (i f n len : ℕ) (kind : ParseErrorKind) (wrong digit suffix integer : Bool) → wrong ≡ false → digit ≡ true →
    rows_by i f n len kind wrong digit suffix integer ≡ Some (spanning f n NoExponentDigits)
row_no_digit i f n len kind wrong digit suffix integer a b = rw (a, b) refl

pub row_suffix : (i f n len : ℕ) (kind : ParseErrorKind) (wrong digit suffix integer : Bool) → wrong ≡ false → digit ≡ false → suffix ≡ false →
    rows_by i f n len kind wrong digit suffix integer ≡ Some (spanning n len kind)
row_suffix i f n len kind wrong digit suffix integer a b c = rw (a, b, c) refl

pub row_integer : (i f n len : ℕ) (kind : ParseErrorKind) (wrong digit suffix integer : Bool) → wrong ≡ false → digit ≡ false → suffix ≡ true → integer ≡ true →
    rows_by i f n len kind wrong digit suffix integer ≡ Some (without_span UnexpectedIntegerLit)
row_integer i f n len kind wrong digit suffix integer a b c d = rw (a, b, c, d) refl

pub row_none : (i f n len : ℕ) (kind : ParseErrorKind) (wrong digit suffix integer : Bool) → wrong ≡ false → digit ≡ false → suffix ≡ true → integer ≡ false →
    rows_by i f n len kind wrong digit suffix integer ≡ None
row_none i f n len kind wrong digit suffix integer a b c d = rw (a, b, c, d) refl

-- the rest of the bytes of a text, as it is sliced
pub rest_is : (bytes bs : List ℕ) (n : ℕ) → bytes ≡ bs → take (length bytes - n) (drop n bytes) ≡ drop n bs
rest_is bytes bs n same = take_rest bytes n ∙ ap (drop n) same

wrong_fraction-chars : (bs : List ℕ) → IsUtf8 bs → has_wrong_fraction (chars bs) ≡ has_wrong_fraction bs
wrong_fraction-chars [] u = ap has_wrong_fraction chars-nil
wrong_fraction-chars (b ∷ bs) u = elim (cases_lt b 128) [
  | inl low ↦ (let v = utf8_after_ascii b bs low u in
      ap has_wrong_fraction (chars_ascii b bs low)
      ∙ (ap (λ e. is_period b && (not e && not (first_passes is_ascii_digit (chars bs)))) (chars_empty bs v ∙ empty_by_length bs)
      ∙ ap (λ e. is_period b && (not (is_empty bs) && not e)) (first_passes-chars is_ascii_digit bs digit_is_ascii v)))
  | inr high ↦ (let w = chars_wide b bs high u in
      ap has_wrong_fraction w.is
      ∙ (ap (λ e. e && (not (is_empty w.rest) && not (first_passes is_ascii_digit w.rest))) (period_is_ascii w.first w.wide)
      ∙ sym (ap (λ e. e && (not (is_empty bs) && not (first_passes is_ascii_digit bs))) (period_is_ascii b high))))
]

-- without a period and an exponent the number ends where the integer part does
no_parts : (f : Option (List ℕ)) (p : List ℕ) (m n k : ℕ) → m + length (fraction_text f) ≡ n → n + length p ≡ k → not (is_some f || not (is_empty p)) ≡ eqb m k
no_parts None [] m n k at_n at_k = sym (eq-eqb m k (omega arith))
no_parts None (c ∷ p) m n k at_n at_k = sym (ne_eqb m k (λ e. omega arith))
no_parts (Some f) p m n k at_n at_k = sym (ne_eqb m k (λ e. omega arith))

wrong_fraction_at : (cut : FloatCut) (bs : List ℕ) (d : FloatParts) → IsUtf8 bs → Fronts bs d → Places cut d →
    has_wrong_fraction (fraction_text d.fraction ++ (d.exponent ++ chars d.suffix)) ≡ has_wrong_fraction (drop cut.end_integer bs)
wrong_fraction_at cut bs d u f p =
    let t = fraction_text d.fraction in
    let left : drop cut.end_integer bs ≡ t ++ (d.exponent ++ d.suffix) = ap (drop cut.end_integer) (sym f.integer) ∙ drop_at d.integer (t ++ (d.exponent ++ d.suffix)) cut.end_integer p.integer in
    let ascii : list_all is_ascii_char (t ++ d.exponent) ≡ true = all_rest is_ascii_char d.integer (t ++ d.exponent) f.number_ascii in
    let spelled : chars (t ++ (d.exponent ++ d.suffix)) ≡ t ++ (d.exponent ++ chars d.suffix) =
    ap chars (sym (append_assoc t d.exponent d.suffix)) ∙ (chars_after (t ++ d.exponent) d.suffix ascii ∙ append_assoc t d.exponent (chars d.suffix)) in
    let utf8 : IsUtf8 (t ++ (d.exponent ++ d.suffix)) = utf8_after d.integer (t ++ (d.exponent ++ d.suffix)) f.integer_ascii (subst (λ (s : List ℕ). IsUtf8 s) (sym f.integer) u) in
    ap has_wrong_fraction (sym spelled) ∙ (wrong_fraction-chars (t ++ (d.exponent ++ d.suffix)) utf8 ∙ ap has_wrong_fraction (sym left))

pub refusal_of_cut : (cut : FloatCut) (bs : List ℕ) → IsUtf8 bs → IsPartsCut cut bs → float_cut_refusal (float_cut (chars bs)) ≡
    rows_by cut.end_integer cut.end_fraction cut.end_number (length bs) (suffix_kind (chars (drop cut.end_number bs)))
    (has_wrong_fraction (drop cut.end_integer bs))
    (not (is_empty (slice_range bs cut.end_fraction cut.end_number)) && not (list_any is_ascii_digit (slice_range bs cut.end_fraction cut.end_number)))
    (is_suffix (chars (drop cut.end_number bs))) (eqb cut.end_integer cut.end_number)
refusal_of_cut cut bs u h =
    let c = cut_of bs in
    let d = c.parts in
    let p = places_of cut bs c h in
    let f = fronts_of bs c in
    let t = fraction_text d.fraction in
    let fraction : length d.integer + length t ≡ cut.end_fraction = ap (λ n. n + length t) p.integer ∙ p.fraction in
    let number : length d.integer + length t + length d.exponent ≡ cut.end_number = ap (λ n. n + length d.exponent) fraction ∙ p.exponent in
    let len : byte_len (float_text (with_chars d)) ≡ length bs = ap byte_len (with_chars_text bs c) ∙ ap length (encodes-chars bs u) in
    let suffix : chars d.suffix ≡ chars (drop cut.end_number bs) = ap chars (sym (suffix_at cut bs d f p)) in
    let wrong = wrong_fraction_at cut bs d u f p in
    let digit : (not (is_empty d.exponent) && not (list_any is_ascii_digit d.exponent)) ≡
    (not (is_empty (slice_range bs cut.end_fraction cut.end_number)) && not (list_any is_ascii_digit (slice_range bs cut.end_fraction cut.end_number))) =
    ap (λ (x : List ℕ). not (is_empty x) && not (list_any is_ascii_digit x)) (sym (exponent_at cut bs d f p)) in
    let none = no_parts d.fraction d.exponent cut.end_integer cut.end_fraction cut.end_number p.fraction p.exponent in
    ap float_cut_refusal (float_cut-chars bs c u)
    ∙ (λ j. rows_by (p.integer j) (fraction j) (number j) (len j) (suffix_kind (suffix j)) (wrong j) (digit j) (is_suffix (suffix j)) (none j))

-- the first row needs no more than the fraction
wrong_row : (d : FloatParts) → has_wrong_fraction (fraction_text d.fraction ++ (d.exponent ++ d.suffix)) ≡ true →
    float_cut_refusal d ≡ Some (at_byte (length d.integer + 1) UnexpectedChar)
wrong_row d wrong =
    row_wrong_fraction (length d.integer) (length d.integer + length (fraction_text d.fraction)) (length d.integer + length (fraction_text d.fraction) + length d.exponent)
    (byte_len (float_text d)) (suffix_kind d.suffix) (has_wrong_fraction (fraction_text d.fraction ++ (d.exponent ++ d.suffix)))
    (not (is_empty d.exponent) && not (list_any is_ascii_digit d.exponent)) (is_suffix d.suffix) (not (is_some d.fraction || not (is_empty d.exponent))) wrong

pub refusal_of_fraction : (bs : List ℕ) (n : ℕ) → IsUtf8 bs → n ≡ prefix_len is_decimal_char bs → has_wrong_fraction (drop n bs) ≡ true →
    float_cut_refusal (float_cut (chars bs)) ≡ Some (at_byte (n + 1) UnexpectedChar)
refusal_of_fraction bs n u is wrong =
    let c = cut_of bs in
    let d = c.parts in
    let same : float_cut bs ≡ d = ap float_cut (sym c.spells) ∙ cut_of_text d c.cut in
    let integer : length d.integer ≡ n = ap length (sym (integer_is bs d same)) ∙ (length-prefix_len is_decimal_char bs ∙ sym is) in
    let cut : FloatCut = record { end_integer = n; end_fraction = n + length (fraction_text d.fraction); end_number = n + length (fraction_text d.fraction) + length d.exponent } in
    let places : Places cut d = record { integer = integer; fraction = refl; exponent = refl } in
    ap float_cut_refusal (float_cut-chars bs c u)
    ∙ (wrong_row (with_chars d) (wrong_fraction_at cut bs d u (fronts_of bs c) places ∙ wrong) ∙ ap (λ k. Some (at_byte (k + 1) UnexpectedChar)) integer)

-- something wrong after the period is at least one byte
pub wrong_fraction_within : (t : List ℕ) → has_wrong_fraction t ≡ true → 2 ≤ length t
wrong_fraction_within [] h = absurd (false≢true h)
wrong_fraction_within (c ∷ []) h = absurd (false≢true (and_parts (is_period c) false h).1)
wrong_fraction_within (c ∷ d ∷ cs) h = omega arith

-- the span of a refusal is in order
pub in_order : (t : List ℕ) (span : Option (Range ℕ)) (kind : ParseErrorKind) → float_refusal t ≡ Some (refusal span kind) → IfSome span (λ range. range.start ≤ range.end)
in_order t None kind h = tt
in_order t (Some range) kind h = (float_refusal_within t (refusal (Some range) kind) h).in_order

-- a text that begins with a digit is refused by its parts
pub refusal_of_digit : (t : List ℕ) → first_passes is_ascii_digit t ≡ true → float_refusal t ≡ float_cut_refusal (float_cut t)
unfolding float_refusal
refusal_of_digit t digit = rw (not_empty_by_first is_ascii_digit t digit, digit) refl

-- the first two rows, by the bytes
pub refusal-empty : (bs : List ℕ) → bs ≡ [] → float_refusal (chars bs) ≡ Some (without_span Empty)
unfolding float_refusal
refusal-empty bs e = ap (λ t. float_refusal (chars t)) e ∙ ap float_refusal chars-nil

pub refusal-no_digit : (bs : List ℕ) (b : ℕ) → IsUtf8 bs → slice_get bs 0 ≡ Some b → is_ascii_digit b ≡ false →
    float_refusal (chars bs) ≡ Some (at_byte 0 DoesNotStartWithDigit)
unfolding float_refusal
refusal-no_digit bs b u first none =
    let other : first_passes is_ascii_digit bs ≡ false = first_passes_at is_ascii_digit bs b first ∙ none in
    rw (filled_by_first bs b u first, digit-chars bs u, other) refl

-- the bytes up to the suffix are the number part
pub number_part_at : (bs text front : List ℕ) (cut : FloatCut) → IsUtf8 text → text ≡ bs → IsFloatAt cut bs → front ≡ slice_range text 0 cut.end_number →
    chars front ≡ number_part (float_parts_at cut bs)
number_part_at bs text front cut u same at_byte is =
    let d = float_parts_at cut bs in
    let utf8 : IsUtf8 bs = subst (λ (t : List ℕ). IsUtf8 t) same u in
    let all : cut.end_number - 0 ≡ cut.end_number = omega arith in
    let taken : front ≡ take cut.end_number bs = is ∙ (ap (λ t. slice_range t 0 cut.end_number) same ∙ ap (λ n. take n bs) all) in
    let split : take cut.end_number bs ++ drop cut.end_number bs ≡ bs = take-append-drop cut.end_number bs in
    let front_utf8 : IsUtf8 (take cut.end_number bs) = IsUtf8-take bs cut.end_number utf8 at_byte.places.number in
    let whole : chars (take cut.end_number bs) ++ d.suffix ≡ number_part d ++ d.suffix =
    sym (chars-append (take cut.end_number bs) (drop cut.end_number bs) front_utf8) ∙ (ap chars split ∙ (sym at_byte.float.spells ∙ sym (number_part-suffix d))) in
    ap chars taken ∙ append_cancel_right (chars (take cut.end_number bs)) (number_part d) d.suffix whole
