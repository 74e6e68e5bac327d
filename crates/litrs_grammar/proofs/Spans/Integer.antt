-- The spans of refused integers lie within the text, and no integer ends with LF.
use Rattle.std.proofs.Common.{◌≡◌, ℕ, Bool, true, false, List, [], ◌∷◌, ◌++◌, Option, Some, refl, sym, ap, subst, ◌∙◌, arith, append_assoc, append-nil}
use Rattle.std.specs.Char.{is_ascii_digit}
use Rattle.std.specs.List.{list_any}
use Rattle.std.proofs.lemmas.Bool.{true≢false}
use Rattle.std.proofs.lemmas.Bool.Decides.{nat_tests}
use Rattle.litrs_base.specs.declared.err.ParseErrorKind.{ParseErrorKind}
use Rattle.litrs_base.specs.declared.err.ParseErrorKind.TheVariants.{Empty, DoesNotStartWithDigit, InvalidDigit, NoDigits, IntegerSuffixStartingWithE}
use Rattle.litrs_base.specs.Refusal.{Refusal, without_span, spanning, at_byte, IsInText}
use Rattle.litrs_base.specs.Text.{is_empty, byte_len, first_passes}
use Rattle.litrs_grammar.specs.Suffix.{is_suffix, suffix_kind}
use Rattle.litrs_base.specs.declared.integer.IntegerBase.{IntegerBase}
use Rattle.litrs_base.specs.declared.integer.IntegerBase.TheVariants.{Binary, Octal, Decimal, Hexadecimal}
use Rattle.litrs_base.specs.Base.{prefix, is_digit, is_digit_or_underscore}
use Rattle.litrs_grammar.specs.Integer.{IntegerParts, integer_text, IsInteger, IsIntegerOf, is_e, base_of, integer_cut, integer_cut_refusal, integer_refusal}
use Rattle.litrs_grammar.proofs.Laws.Integer.{cut_with, integer_cut-is, cut-spells, integer_rows, number_rows}
use Rattle.litrs_base.proofs.Runs.{last_passes, is_line_feed, line_feed_last, last_passes-all, last_passes-both}
use Rattle.litrs_grammar.proofs.SuffixStart.{suffix_last}
use Rattle.litrs_base.proofs.Spans.{byte_len-append, plain_within, over_within, at_within}

-- the refusal of a row is that of the text
pub row_is : (t : List ℕ) (row e : Refusal) → IsInText t row → Some row ≡ Some e → IsInText t e
row_is t row e within is = subst (λ (f : Refusal). IsInText t f) (let same : row ≡ e = cc in same) within

-- one byte at the start of what is not empty
at_first : (p : ℕ → Bool) (t front x : List ℕ) (kind : ParseErrorKind) → front ++ x ≡ t → first_passes p x ≡ true → IsInText t (at_byte (byte_len front) kind)
at_first p t front [] kind spells passes = cc
at_first p t front (c ∷ x) kind spells passes = at_within t front c x (byte_len front) kind spells refl

rows_within : (t a m x : List ℕ) (suffix digit is some : Bool) (kind : ParseErrorKind) (e : Refusal) → a ++ (m ++ x) ≡ t →
    first_passes is_ascii_digit x ≡ digit → first_passes is_e x ≡ is →
    integer_rows (byte_len a) (byte_len (a ++ m)) (byte_len (a ++ (m ++ x))) suffix digit kind is some ≡ Some e → IsInText t e
rows_within t a m x false true is some kind e spells is_digit is_is row =
    row_is t (at_byte (byte_len (a ++ m)) InvalidDigit) e (at_first is_ascii_digit t (a ++ m) x InvalidDigit (append_assoc a m x ∙ spells) is_digit) row
rows_within t a m x false false is some kind e spells is_digit is_is row =
    row_is t (spanning (byte_len (a ++ m)) (byte_len (a ++ (m ++ x))) kind) e
    (over_within t (a ++ m) x [] (byte_len (a ++ m)) (byte_len (a ++ (m ++ x))) kind
    (ap (λ y. a ++ m ++ y) (append-nil x) ∙ (append_assoc a m x ∙ spells)) refl
    (sym (byte_len-append (a ++ m) x) ∙ ap byte_len (append_assoc a m x))) row
rows_within t a m x true digit true some kind e spells is_digit is_is row =
    row_is t (at_byte (byte_len (a ++ m)) IntegerSuffixStartingWithE) e (at_first is_e t (a ++ m) x IntegerSuffixStartingWithE (append_assoc a m x ∙ spells) is_is) row
rows_within t a m x true digit false false kind e spells is_digit is_is row =
    row_is t (spanning (byte_len a) (byte_len (a ++ m)) NoDigits) e
    (over_within t a m x (byte_len a) (byte_len (a ++ m)) NoDigits spells refl (sym (byte_len-append a m))) row
rows_within t a m x true digit false true kind e spells is_digit is_is row = cc

cut_within : (t : List ℕ) (e : Refusal) → integer_cut_refusal (integer_cut t) ≡ Some e → IsInText t e
cut_within t e refusal =
    let d = cut_with (base_of t) t in
    rows_within t (prefix d.base) d.main d.suffix (is_suffix d.suffix) (first_passes is_ascii_digit d.suffix) (first_passes is_e d.suffix)
    (list_any (is_digit d.base) d.main) (suffix_kind d.suffix) e (cut-spells t) refl refl
    (ap integer_cut_refusal (sym (integer_cut-is t)) ∙ refusal)

number_within : (t : List ℕ) (a b : Bool) (r : Option Refusal) (e : Refusal) → is_empty t ≡ a → (r ≡ Some e → IsInText t e) →
    number_rows a b r ≡ Some e → IsInText t e
number_within t true b r e empty below row = row_is t (without_span Empty) e (plain_within t Empty) row
number_within t false true r e empty below row = below row
number_within [] false false r e empty below row = cc
number_within (c ∷ t) false false r e empty below row =
    row_is (c ∷ t) (at_byte 0 DoesNotStartWithDigit) e (at_within (c ∷ t) [] c t 0 DoesNotStartWithDigit refl refl) row

pub integer_refusal_within : (t : List ℕ) (e : Refusal) → integer_refusal t ≡ Some e → IsInText t e
unfolding integer_refusal
integer_refusal_within t e refusal =
    number_within t (is_empty t) (first_passes is_ascii_digit t) (integer_cut_refusal (integer_cut t)) e refl (cut_within t e) refusal

-- The last characters of integers

not_line_feed : (base : IntegerBase) (c : ℕ) → is_digit_or_underscore base c ≡ true → is_line_feed c ≡ false
not_line_feed Binary c h = grind (arith, nat_tests)
not_line_feed Octal c h = grind (arith, nat_tests)
not_line_feed Decimal c h = grind (arith, nat_tests)
not_line_feed Hexadecimal c h = grind (arith, nat_tests)

prefix_last : (base : IntegerBase) → last_passes is_line_feed (prefix base) ≡ false
prefix_last Binary = refl
prefix_last Octal = refl
prefix_last Decimal = refl
prefix_last Hexadecimal = refl

integer_last : (d : IntegerParts) → IsInteger d → last_passes is_line_feed (integer_text d) ≡ false
integer_last d g =
    last_passes-both is_line_feed (prefix d.base) _ (prefix_last d.base)
    (last_passes-both is_line_feed d.main d.suffix
    (last_passes-all (is_digit_or_underscore d.base) is_line_feed (not_line_feed d.base) d.main g.digits) (suffix_last d.suffix g.suffix))

-- no integer ends with LF
pub no_integer_with_line_feed : (t : List ℕ) (d : IntegerParts) → ¬ IsIntegerOf (t ++ (10 ∷ [])) d
no_integer_with_line_feed t d r = true≢false (sym (line_feed_last t) ∙ (ap (last_passes is_line_feed) (sym r.spells) ∙ integer_last d r.grammar))
