-- The spans of the refusals of floats, and what floats end with.
use Rattle.std.proofs.Common.{◌≡◌, ℕ, ◌+◌, Bool, true, false, cond, ◌||◌, List, [], ◌∷◌, ◌++◌, length, drop, Option, Some, None, refl, sym, ap, subst, ◌∙◌, inl, inr, arith}
use Rattle.std.specs.List.{list_all}
use Rattle.std.specs.Option.{ForSome}
use Rattle.std.proofs.lemmas.Bool.{and_parts, and_from, true≢false, false≢true, cases_Bool, or_left}
use Rattle.std.proofs.lemmas.Bool.Decides.{nat_tests}
use Rattle.std.proofs.lemmas.List.{length-append, append_assoc, append-nil}
use Rattle.litrs_base.specs.declared.err.ParseErrorKind.{ParseErrorKind}
use Rattle.litrs_base.specs.declared.err.ParseErrorKind.TheVariants.{Empty, UnexpectedChar, DoesNotStartWithDigit, NoExponentDigits, UnexpectedIntegerLit}
use Rattle.litrs_base.specs.Refusal.{Refusal, IsInText, without_span, spanning, at_byte}
use Rattle.litrs_base.specs.Text.{is_empty, byte_len}
use Rattle.litrs_grammar.specs.Suffix.{suffix_kind}
use Rattle.litrs_grammar.specs.Integer.{is_e}
use Rattle.litrs_grammar.specs.Float.{FloatParts, fraction_text, number_part, float_text, is_decimal_char, is_period, is_sign, sign_len, IsFloat, IsFloatOf, has_wrong_fraction, float_refusal}
use Rattle.litrs_base.proofs.Runs.{last_passes, is_line_feed, line_feed_last, last_passes-all, last_passes-both, list_all-append, list_all-weaken}
use Rattle.litrs_base.proofs.Spans.{byte_len-append, is_ascii_char, byte_len_ascii, plain_within, over_within, at_within, of_some, of_none}
use Rattle.litrs_grammar.proofs.SuffixStart.{suffix_last}
use Rattle.litrs_grammar.proofs.FloatCuts.{IsCut, is_exponent_front, fraction_passes, cut_of}
use Rattle.litrs_grammar.proofs.Laws.Float.{float_rows, cut_rows, refusal_of_cut, float_is_cut}
use Rattle.litrs_grammar.proofs.Laws.Integer.{number_rows}

-- the characters of a float before its suffix
abbrev pub is_number_char : ℕ → Bool
is_number_char c = is_decimal_char c || (is_period c || (is_e c || is_sign c))

number_ascii : (c : ℕ) → is_number_char c ≡ true → is_ascii_char c ≡ true
number_ascii c h = grind (arith, nat_tests)

pub number_line_feed : (c : ℕ) → is_number_char c ≡ true → is_line_feed c ≡ false
number_line_feed c h = grind (arith, nat_tests)

letter_number : (c : ℕ) → is_e c ≡ true → is_number_char c ≡ true
letter_number c h = grind (arith, nat_tests)

sign_number : (c : ℕ) → is_sign c ≡ true → is_number_char c ≡ true
sign_number c h = grind (arith, nat_tests)

decimals_number : (t : List ℕ) → list_all is_decimal_char t ≡ true → list_all is_number_char t ≡ true
decimals_number t h = list_all-weaken is_decimal_char is_number_char (λ c e. or_left _ _ e) t h

fraction_number : (f : Option (List ℕ)) → fraction_passes f ≡ true → list_all is_number_char (fraction_text f) ≡ true
fraction_number None h = refl
fraction_number (Some f) h = decimals_number f h

after_letter : (cs : List ℕ) → list_all is_decimal_char (drop (sign_len cs) cs) ≡ true → list_all is_number_char cs ≡ true
after_letter [] h = refl
after_letter (s ∷ ds) h = elim (cases_Bool (is_sign s)) [
  | inl sign ↦ and_from _ _ (sign_number s sign) (decimals_number ds (sym (ap (λ v. list_all is_decimal_char (drop (cond v 1 0) (s ∷ ds))) sign) ∙ h))
  | inr no_sign ↦ decimals_number (s ∷ ds) (sym (ap (λ v. list_all is_decimal_char (drop (cond v 1 0) (s ∷ ds))) no_sign) ∙ h)
]

exponent_number : (p : List ℕ) → is_exponent_front p ≡ true → list_all is_number_char p ≡ true
exponent_number [] h = refl
exponent_number (c ∷ cs) h = and_from _ _ (letter_number c (and_parts _ _ h).0) (after_letter cs (and_parts _ _ h).1)

-- all in front of the suffix is ASCII
pub number_part_ascii : (d : FloatParts) → IsCut d → list_all is_ascii_char (number_part d) ≡ true
number_part_ascii d cut = list_all-weaken is_number_char is_ascii_char number_ascii (number_part d)
    (list_all-append is_number_char d.integer (fraction_text d.fraction ++ d.exponent) (decimals_number d.integer cut.integer)
    (list_all-append is_number_char (fraction_text d.fraction) d.exponent (fraction_number d.fraction cut.fraction) (exponent_number d.exponent cut.exponent)))

number_bytes : (t : List ℕ) → list_all is_number_char t ≡ true → byte_len t ≡ length t
number_bytes t h = byte_len_ascii t (list_all-weaken is_number_char is_ascii_char number_ascii t h)

-- all but the suffix
pub number_part_chars : (d : FloatParts) → IsCut d → list_all is_number_char (number_part d) ≡ true
number_part_chars d cut =
    list_all-append is_number_char d.integer (fraction_text d.fraction ++ d.exponent) (decimals_number d.integer cut.integer)
    (list_all-append is_number_char (fraction_text d.fraction) d.exponent (fraction_number d.fraction cut.fraction) (exponent_number d.exponent cut.exponent))

-- each row

first_span : (t : List ℕ) (kind : ParseErrorKind) → is_empty t ≡ false → IsInText t (at_byte 0 kind)
first_span [] kind h = absurd (true≢false h)
first_span (c ∷ cs) kind h = at_within (c ∷ cs) [] c cs 0 kind refl refl

fraction_span : (t i r : List ℕ) (kind : ParseErrorKind) → i ++ r ≡ t → list_all is_decimal_char i ≡ true → has_wrong_fraction r ≡ true → IsInText t (at_byte (length i + 1) kind)
fraction_span t i [] kind spells all wrong = absurd (false≢true wrong)
fraction_span t i (c ∷ []) kind spells all wrong = absurd (false≢true (and_parts (is_period c) false wrong).1)
fraction_span t i (c ∷ d ∷ cs) kind spells all wrong =
    let period : is_number_char c ≡ true = (let p : is_period c ≡ true = (and_parts _ _ wrong).0 in grind (arith, nat_tests)) in
    let front : list_all is_number_char (i ++ (c ∷ [])) ≡ true = list_all-append is_number_char i (c ∷ []) (decimals_number i all) (and_from _ _ period refl) in
    at_within t (i ++ (c ∷ [])) d cs (length i + 1) kind (append_assoc i (c ∷ []) (d ∷ cs) ∙ spells) (number_bytes (i ++ (c ∷ [])) front ∙ length-append i (c ∷ []))

-- a fact about the refusal in each row is one about the table
rows_hold : (P : Refusal → Type 0) (i f n len : ℕ) (kind : ParseErrorKind) (empty digit wrong_fraction period exponent exponent_digit suffix : Bool) →
    ((k : ParseErrorKind) → P (without_span k)) → (empty ≡ false → P (at_byte 0 DoesNotStartWithDigit)) → (wrong_fraction ≡ true → P (at_byte (i + 1) UnexpectedChar)) →
    P (spanning f n NoExponentDigits) → P (spanning n len kind) → ForSome (number_rows empty digit (float_rows i f n len kind wrong_fraction period exponent exponent_digit suffix)) P
rows_hold P i f n len kind true digit wrong period exponent edigit suffix a b c d e = of_some P _ (a Empty)
rows_hold P i f n len kind false false wrong period exponent edigit suffix a b c d e = of_some P _ (b refl)
rows_hold P i f n len kind false true true period exponent edigit suffix a b c d e = of_some P _ (c refl)
rows_hold P i f n len kind false true false period true false suffix a b c d e = of_some P _ d
rows_hold P i f n len kind false true false period true true false a b c d e = of_some P _ e
rows_hold P i f n len kind false true false period false edigit false a b c d e = of_some P _ e
rows_hold P i f n len kind false true false true true true true a b c d e = of_none P
rows_hold P i f n len kind false true false false true true true a b c d e = of_none P
rows_hold P i f n len kind false true false true false edigit true a b c d e = of_none P
rows_hold P i f n len kind false true false false false edigit true a b c d e = of_some P _ (a UnexpectedIntegerLit)

pub cut_rows_within : (d : FloatParts) → IsCut d → ForSome (cut_rows d) (IsInText (float_text d))
cut_rows_within d cut =
    let t = float_text d in
    let i = d.integer in
    let f = fraction_text d.fraction in
    let p = d.exponent in
    let x = d.suffix in
    let chars_i : list_all is_number_char i ≡ true = decimals_number i cut.integer in
    let chars_f : list_all is_number_char f ≡ true = fraction_number d.fraction cut.fraction in
    let chars_p : list_all is_number_char p ≡ true = exponent_number p cut.exponent in
    let chars_if : list_all is_number_char (i ++ f) ≡ true = list_all-append is_number_char i f chars_i chars_f in
    let bytes_if : byte_len (i ++ f) ≡ length i + length f = number_bytes (i ++ f) chars_if ∙ length-append i f in
    let bytes_p : byte_len p ≡ length p = number_bytes p chars_p in
    let bytes_ifp : byte_len ((i ++ f) ++ p) ≡ length i + length f + length p = byte_len-append (i ++ f) p ∙ omega (arith, bytes_if, bytes_p) in
    let spells_if : (i ++ f) ++ (p ++ x) ≡ t = append_assoc i f (p ++ x) in
    let spells_ifp : ((i ++ f) ++ p) ++ x ≡ t = append_assoc (i ++ f) p x ∙ spells_if in
    let bytes_t : byte_len t ≡ length i + length f + length p + byte_len x = ap byte_len (sym spells_ifp) ∙ (byte_len-append ((i ++ f) ++ p) x ∙ omega (arith, bytes_ifp)) in
    rows_hold (IsInText t) _ _ _ _ _ _ _ _ _ _ _ _ (λ kind. plain_within t kind) (λ some. first_span t DoesNotStartWithDigit some)
    (λ wrong. fraction_span t i (f ++ (p ++ x)) UnexpectedChar refl cut.integer wrong)
    (over_within t (i ++ f) p x _ _ NoExponentDigits spells_if bytes_if (ap (λ n. length i + length f + n) bytes_p))
    (over_within t ((i ++ f) ++ p) x [] _ _ (suffix_kind x) (ap (λ y. ((i ++ f) ++ p) ++ y) (append-nil x) ∙ spells_ifp) bytes_ifp (sym bytes_t))

-- the span of a refusal lies within the text, and starts on a character boundary
pub float_refusal_within : (t : List ℕ) → ForSome (float_refusal t) (IsInText t)
float_refusal_within t e h = let c = cut_of t in
    let rows : cut_rows c.parts ≡ Some e = sym (refusal_of_cut c.parts c.cut) ∙ (ap float_refusal c.spells ∙ h) in
    subst (λ (s : List ℕ). IsInText s e) c.spells (cut_rows_within c.parts c.cut e rows)

-- no float ends with LF
float_last : (d : FloatParts) → IsFloat d → last_passes is_line_feed (float_text d) ≡ false
float_last d g = let cut = float_is_cut d g in
    let last : (s : List ℕ) → list_all is_number_char s ≡ true → last_passes is_line_feed s ≡ false = last_passes-all is_number_char is_line_feed number_line_feed in
    last_passes-both is_line_feed d.integer _ (last d.integer (decimals_number d.integer cut.integer))
    (last_passes-both is_line_feed (fraction_text d.fraction) _ (last (fraction_text d.fraction) (fraction_number d.fraction cut.fraction))
    (last_passes-both is_line_feed d.exponent d.suffix (last d.exponent (exponent_number d.exponent cut.exponent)) (suffix_last d.suffix g.suffix)))

pub no_float_with_line_feed : (t : List ℕ) (d : FloatParts) → ¬ IsFloatOf (t ++ (10 ∷ [])) d
no_float_with_line_feed t d r = true≢false (sym (line_feed_last t) ∙ (ap (last_passes is_line_feed) (sym r.spells) ∙ float_last d r.grammar))
