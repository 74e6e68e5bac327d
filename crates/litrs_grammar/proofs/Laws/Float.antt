-- Floats: a text has a derivation if and only if the table has no row, and at most one.
use Rattle.std.specs.Prelude.{if◌then◌else◌}
use Rattle.std.proofs.Common.{◌≡◌, ℕ, zero, suc, ◌+◌, ◌⊎◌, Bool, true, false, cond, not, ◌&&◌, ◌||◌, List, [], ◌∷◌, ◌++◌, length, drop, Option, Some, None, refl, sym, ap, subst, ◌∙◌, inl, inr, arith}
use Rattle.std.specs.Char.{is_ascii_digit}
use Rattle.std.specs.List.{list_all, list_any}
use Rattle.std.specs.Option.{is_some}
use Rattle.std.proofs.lemmas.Bool.{and_parts, and_from, true≢false, false≢true, or_cases, cases_Bool, or_from, or_right, or_parts, and_left, and_right, not-false, not-true}
use Rattle.std.proofs.lemmas.Bool.Decides.{nat_tests}
use Rattle.litrs_base.specs.declared.err.ParseErrorKind.{ParseErrorKind}
use Rattle.litrs_base.specs.declared.err.ParseErrorKind.TheVariants.{UnexpectedChar, NoExponentDigits, UnexpectedIntegerLit}
use Rattle.litrs_base.specs.Refusal.{without_span, at_byte, spanning, Refusal}
use Rattle.litrs_base.specs.Text.{is_empty, byte_len, first_passes}
use Rattle.litrs_grammar.specs.Suffix.{is_suffix, suffix_kind}
use Rattle.litrs_grammar.specs.Integer.{is_e}
use Rattle.litrs_grammar.specs.Laws.Float.{FloatsAreDecided}
use Rattle.litrs_grammar.specs.Float.{FloatParts, fraction_text, float_text, is_decimal_char, is_underscore, is_period, is_sign, is_decimal_literal, is_exponent_number, sign_len, is_exponent, is_float_form, IsFloat, IsFloatOf, float_cut, has_wrong_fraction, float_cut_refusal, float_refusal}
use Rattle.litrs_base.specs.Derivations.{IsOnlyDerivation, HasNoDerivation}
use Rattle.litrs_grammar.proofs.Laws.Integer.{number_rows-None, number_rows}
use Rattle.litrs_base.proofs.Spans.{none_from}
use Rattle.litrs_grammar.proofs.SuffixStart.{suffix_begins_otherwise}
use Rattle.litrs_grammar.proofs.FloatCuts.{cut_of_text, letter_period, letter_decimal, IsCut, is_exponent_front, fraction_passes, same_cut, cut_of, fraction_stops, exponent_stops}

-- the rows by what is known of the parts: something else than a digit after a period; a period; an exponent; a digit in it;
-- a suffix after the number
abbrev pub float_rows : (fraction exponent suffix len : ℕ) (kind : ParseErrorKind) (wrong_fraction has_fraction has_exponent exponent_digit suffix_after : Bool) → Option Refusal
float_rows fraction exponent suffix len kind wrong_fraction has_fraction has_exponent exponent_digit suffix_after =
    if wrong_fraction then Some (at_byte (fraction + 1) UnexpectedChar)
    else if has_exponent && not exponent_digit then Some (spanning exponent suffix NoExponentDigits)
    else if not suffix_after then Some (spanning suffix len kind)
    else if not (has_fraction || has_exponent) then Some (without_span UnexpectedIntegerLit)
    else None

-- the table by the parts of a text that is cut
abbrev pub cut_rows : FloatParts → Option Refusal
cut_rows d =
    number_rows (is_empty (float_text d)) (first_passes is_ascii_digit (float_text d))
    (float_rows (length d.integer) (length d.integer + length (fraction_text d.fraction)) (length d.integer + length (fraction_text d.fraction) + length d.exponent)
    (byte_len (float_text d)) (suffix_kind d.suffix)
    (has_wrong_fraction (fraction_text d.fraction ++ (d.exponent ++ d.suffix))) (is_some d.fraction) (not (is_empty d.exponent))
    (list_any is_ascii_digit d.exponent) (is_suffix d.suffix))

pub refusal_of_cut : (d : FloatParts) → IsCut d → float_refusal (float_text d) ≡ cut_rows d
unfolding float_refusal
refusal_of_cut d cut =
    ap (λ (c : FloatParts). number_rows (is_empty (float_text d)) (first_passes is_ascii_digit (float_text d)) (float_cut_refusal c)) (cut_of_text d cut)

-- if no row fits

pub record NoRow (empty digit_first wrong_fraction period has_exponent exponent_digit has_suffix : Bool) : Type 0 where
  pub some : empty ≡ false
  pub digit : digit_first ≡ true
  pub fraction : wrong_fraction ≡ false
  pub exponent : (has_exponent && not exponent_digit) ≡ false
  pub suffix : has_suffix ≡ true
  pub either : (period || has_exponent) ≡ true

no_row : (i f n len : ℕ) (kind : ParseErrorKind) (empty digit wrong_fraction period exponent exponent_digit suffix : Bool) →
    number_rows empty digit (float_rows i f n len kind wrong_fraction period exponent exponent_digit suffix) ≡ None → NoRow empty digit wrong_fraction period exponent exponent_digit suffix
no_row i f n len kind empty digit wrong_fraction period exponent exponent_digit suffix h =
    let start = number_rows-None empty digit _ h in
    let c = none_from _ _ _ start.2 in
    let d = none_from _ _ _ c.1 in
    let e = none_from _ _ _ d.1 in
    let g = none_from _ _ _ e.1 in
    record { some = start.0; digit = start.1; fraction = c.0; exponent = d.0; suffix = not-false _ e.0; either = not-false _ g.0 }

row_free : (i f n len : ℕ) (kind : ParseErrorKind) (empty digit wrong_fraction period exponent exponent_digit suffix : Bool) →
    NoRow empty digit wrong_fraction period exponent exponent_digit suffix → number_rows empty digit (float_rows i f n len kind wrong_fraction period exponent exponent_digit suffix) ≡ None
row_free i f n len kind empty digit wrong_fraction period exponent exponent_digit suffix r =
    rw (r.some, r.digit, r.fraction, r.exponent, r.suffix, r.either) refl

-- a float is cut

letter_or : (p : List ℕ) → is_exponent p ≡ true → is_exponent_front p ≡ true
unfolding is_exponent
letter_or [] h = absurd (false≢true h)
letter_or (c ∷ cs) h =
    let parts : (is_e c ≡ true) × (is_exponent_number (drop (sign_len cs) cs) ≡ true) = and_parts _ _ h in
    and_from _ _ parts.0 (and_parts _ _ parts.1).0

pub empty-true : (p : List ℕ) → is_empty p ≡ true → p ≡ []
empty-true [] h = refl
empty-true (c ∷ cs) h = absurd (false≢true h)

-- the fraction and the exponent in the three forms
record Form (f : Option (List ℕ)) (p : List ℕ) : Type 0 where
  fraction : fraction_passes f ≡ true
  exponent : (is_empty p ≡ true) ⊎ (is_exponent p ≡ true)
  without : f ≡ None → is_exponent p ≡ true

form_says : (f : Option (List ℕ)) (p x : List ℕ) → is_float_form f p x ≡ true → Form f p
form_says None p x h = record { fraction = refl; exponent = inr h; without = λ e. h }
form_says (Some []) p x h = record { fraction = refl; exponent = inl (and_parts _ _ h).0; without = λ e. absurd (let none : Some [] ≡ None = e in cc) }
form_says (Some (c ∷ cs)) p x h = record {
  fraction = (and_parts (first_passes is_ascii_digit (c ∷ cs)) (list_all is_decimal_char (c ∷ cs)) (and_parts (is_decimal_literal (c ∷ cs)) (is_empty p || is_exponent p) h).0).1;
  exponent = or_cases _ _ (and_parts (is_decimal_literal (c ∷ cs)) (is_empty p || is_exponent p) h).1;
  without = λ e. absurd (let none : Some (c ∷ cs) ≡ None = e in cc);
}

-- a suffix without `_` in front ends a run of digits and `_`
digit_stops : (x : List ℕ) → is_suffix x ≡ true → first_passes is_ascii_digit x ≡ false
digit_stops x h = suffix_begins_otherwise is_ascii_digit (λ c e. grind (arith, nat_tests)) (λ c e. grind (arith, nat_tests)) x h

suffix_stops : (x : List ℕ) → is_suffix x ≡ true → first_passes is_underscore x ≡ false → first_passes is_decimal_char x ≡ false
suffix_stops [] h u = refl
suffix_stops (c ∷ cs) h u = let d : is_ascii_digit c ≡ false = digit_stops (c ∷ cs) h in or_from _ _ d u

suffix_no_sign : (x : List ℕ) → is_suffix x ≡ true → first_passes is_sign x ≡ false
suffix_no_sign x h = suffix_begins_otherwise is_sign (λ c e. grind (arith, nat_tests)) (λ c e. grind (arith, nat_tests)) x h

pub suffix_no_period : (x : List ℕ) → is_suffix x ≡ true → first_passes is_period x ≡ false
suffix_no_period x h = suffix_begins_otherwise is_period (λ c e. grind (arith, nat_tests)) (λ c e. grind (arith, nat_tests)) x h

front_of : (p : List ℕ) → (is_empty p ≡ true) ⊎ (is_exponent p ≡ true) → is_exponent_front p ≡ true
front_of p (inl empty) = subst (λ (t : List ℕ). is_exponent_front t ≡ true) (sym (empty-true p empty)) refl
front_of p (inr exponent) = letter_or p exponent

pub float_is_cut : (d : FloatParts) → IsFloat d → IsCut d
float_is_cut d g = let form = form_says d.fraction d.exponent d.suffix g.form in record {
  integer = (and_parts _ _ g.integer).1;
  fraction = form.fraction;
  exponent = front_of d.exponent form.exponent;
  stops = suffix_stops d.suffix g.suffix g.no_underscore;
  no_letter = λ e. g.no_letter (ap is_empty e);
  no_sign = λ c e. suffix_no_sign d.suffix g.suffix;
  no_period = λ f e. suffix_no_period d.suffix g.suffix;
}

pub only_float : (t : List ℕ) (d e : FloatParts) → IsFloatOf t d → IsFloatOf t e → d ≡ e
only_float t d e r s = same_cut d e (float_is_cut d r.grammar) (float_is_cut e s.grammar) (r.spells ∙ sym s.spells)

-- no row fits a float

list_any-drop : (p : ℕ → Bool) (n : ℕ) (xs : List ℕ) → list_any p (drop n xs) ≡ true → list_any p xs ≡ true
list_any-drop p zero xs h = h
list_any-drop p (suc n) [] h = h
list_any-drop p (suc n) (x ∷ xs) h = or_right (p x) _ (list_any-drop p n xs h)

exponent_has_digit : (p : List ℕ) → is_exponent p ≡ true → list_any is_ascii_digit p ≡ true
unfolding is_exponent
exponent_has_digit [] h = absurd (false≢true h)
exponent_has_digit (c ∷ cs) h = or_right (is_ascii_digit c) _ (list_any-drop is_ascii_digit (sign_len cs) cs (and_parts _ _ (and_parts _ _ h).1).1)

digit_row : (p : List ℕ) → (is_empty p ≡ true) ⊎ (is_exponent p ≡ true) → (not (is_empty p) && not (list_any is_ascii_digit p)) ≡ false
digit_row p (inl empty) = rw empty refl
digit_row p (inr exponent) = and_right (not (is_empty p)) _ (ap not (exponent_has_digit p exponent))

pub starts_digit : (i r : List ℕ) → is_decimal_literal i ≡ true → (is_empty (i ++ r) ≡ false) × (first_passes is_ascii_digit (i ++ r) ≡ true)
starts_digit [] r h = absurd (false≢true h)
starts_digit (c ∷ cs) r h = (refl, (and_parts _ _ h).0)

no_wrong_fraction_without : (p x : List ℕ) → is_exponent p ≡ true → has_wrong_fraction (p ++ x) ≡ false
unfolding is_exponent
no_wrong_fraction_without [] x h = absurd (false≢true h)
no_wrong_fraction_without (c ∷ cs) x h = and_left (is_period c) _ (letter_period c (and_parts _ _ h).0)

pub fraction_row : (f : Option (List ℕ)) (p x : List ℕ) → is_float_form f p x ≡ true → has_wrong_fraction (fraction_text f ++ (p ++ x)) ≡ false
fraction_row None p x h = no_wrong_fraction_without p x h
fraction_row (Some []) [] [] h = refl
fraction_row (Some []) [] (y ∷ ys) h = absurd (false≢true h)
fraction_row (Some []) (y ∷ ys) x h = absurd (false≢true h)
fraction_row (Some (c ∷ cs)) p x h =
    let digit : is_ascii_digit c ≡ true = (and_parts _ _ (and_parts (is_decimal_literal (c ∷ cs)) (is_empty p || is_exponent p) h).0).0 in
    ap not digit

either_row : (f : Option (List ℕ)) (p x : List ℕ) → is_float_form f p x ≡ true → (is_some f || not (is_empty p)) ≡ true
unfolding is_exponent
either_row None [] x h = absurd (false≢true h)
either_row None (c ∷ cs) x h = refl
either_row (Some f) p x h = refl

pub float_fits_no_row : (d : FloatParts) → IsFloat d → cut_rows d ≡ None
float_fits_no_row d g =
    let form = form_says d.fraction d.exponent d.suffix g.form in
    let start = starts_digit d.integer (fraction_text d.fraction ++ (d.exponent ++ d.suffix)) g.integer in
    row_free _ _ _ _ _ _ _ _ _ _ _ _ record {
      some = start.0;
      digit = start.1;
      fraction = fraction_row d.fraction d.exponent d.suffix g.form;
      exponent = digit_row d.exponent form.exponent;
      suffix = g.suffix;
      either = either_row d.fraction d.exponent d.suffix g.form;
    }

-- a text that no row fits is a float

decimal_digit : (c : ℕ) → is_decimal_char c ≡ false → is_ascii_digit c ≡ false
decimal_digit c h = (or_parts _ _ h).0

digit_from_decimal : (r : List ℕ) → first_passes is_decimal_char r ≡ false → first_passes is_ascii_digit r ≡ false
digit_from_decimal [] h = refl
digit_from_decimal (c ∷ cs) h = decimal_digit c h

integer_literal : (i r : List ℕ) → list_all is_decimal_char i ≡ true → first_passes is_decimal_char r ≡ false → first_passes is_ascii_digit (i ++ r) ≡ true → is_decimal_literal i ≡ true
integer_literal [] r all stop digit = absurd (false≢true (sym (digit_from_decimal r stop) ∙ digit))
integer_literal (c ∷ cs) r all stop digit = and_from _ _ digit all

after_sign : (cs : List ℕ) → list_any is_ascii_digit cs ≡ true → list_any is_ascii_digit (drop (sign_len cs) cs) ≡ true
after_sign [] h = h
after_sign (s ∷ ds) h = elim (cases_Bool (is_sign s)) [
  | inl sign ↦ (let other : is_ascii_digit s ≡ false = grind (arith, nat_tests) in
      let rest : list_any is_ascii_digit ds ≡ true = ap (λ v. v || list_any is_ascii_digit ds) (sym other) ∙ h in
      ap (λ v. list_any is_ascii_digit (drop (cond v 1 0) (s ∷ ds))) sign ∙ rest)
  | inr no_sign ↦ ap (λ v. list_any is_ascii_digit (drop (cond v 1 0) (s ∷ ds))) no_sign ∙ h
]

exponent_from : (p : List ℕ) → is_empty p ≡ false → is_exponent_front p ≡ true → (not (is_empty p) && not (list_any is_ascii_digit p)) ≡ false → is_exponent p ≡ true
unfolding is_exponent
exponent_from [] some front row = absurd (true≢false some)
exponent_from (c ∷ cs) some front row =
    let parts : (is_e c ≡ true) × (list_all is_decimal_char (drop (sign_len cs) cs) ≡ true) = and_parts _ _ front in
    let any : (is_ascii_digit c || list_any is_ascii_digit cs) ≡ true = not-false _ row in
    let other : is_ascii_digit c ≡ false = decimal_digit c (letter_decimal c parts.0) in
    let rest : list_any is_ascii_digit cs ≡ true = ap (λ v. v || list_any is_ascii_digit cs) (sym other) ∙ any in
    and_from _ _ parts.0 (and_from _ _ parts.1 (after_sign cs rest))

empty_or_exponent : (p : List ℕ) → is_exponent_front p ≡ true → (not (is_empty p) && not (list_any is_ascii_digit p)) ≡ false → (is_empty p || is_exponent p) ≡ true
empty_or_exponent [] front row = refl
empty_or_exponent (c ∷ cs) front row = exponent_from (c ∷ cs) refl front row

nothing_after : (p x : List ℕ) → first_passes is_decimal_char (p ++ x) ≡ false → has_wrong_fraction (46 ∷ (p ++ x)) ≡ false → (is_empty p && is_empty x) ≡ true
nothing_after [] [] stop row = refl
nothing_after [] (y ∷ ys) stop row = absurd (true≢false (sym (ap not (decimal_digit y stop)) ∙ row))
nothing_after (y ∷ ys) x stop row = absurd (true≢false (sym (ap not (decimal_digit y stop)) ∙ row))

form_from : (f : Option (List ℕ)) (p x : List ℕ) → fraction_passes f ≡ true → is_exponent_front p ≡ true → first_passes is_decimal_char x ≡ false →
    has_wrong_fraction (fraction_text f ++ (p ++ x)) ≡ false → (not (is_empty p) && not (list_any is_ascii_digit p)) ≡ false → (is_some f || not (is_empty p)) ≡ true →
    is_float_form f p x ≡ true
form_from None p x passes front stop row digits either = exponent_from p (not-true _ either) front digits
form_from (Some []) p x passes front stop row digits either = nothing_after p x (exponent_stops p x front stop) row
form_from (Some (c ∷ cs)) p x passes front stop row digits either =
    and_from (is_decimal_literal (c ∷ cs)) _ (and_from (is_ascii_digit c) _ (not-false _ row) passes) (empty_or_exponent p front digits)

no_underscore_from : (x : List ℕ) → first_passes is_decimal_char x ≡ false → first_passes is_underscore x ≡ false
no_underscore_from [] h = refl
no_underscore_from (c ∷ cs) h = (or_parts _ _ h).1

pub float_from_cut : (d : FloatParts) → IsCut d → cut_rows d ≡ None → IsFloat d
float_from_cut d cut h =
    let r = no_row _ _ _ _ _ _ _ _ _ _ _ _ h in
    record {
      integer = integer_literal d.integer (fraction_text d.fraction ++ (d.exponent ++ d.suffix)) cut.integer (fraction_stops d.fraction d.exponent d.suffix cut.exponent cut.stops) r.digit;
      form = form_from d.fraction d.exponent d.suffix cut.fraction cut.exponent cut.stops r.fraction r.exponent r.either;
      suffix = r.suffix;
      no_underscore = no_underscore_from d.suffix cut.stops;
      no_letter = λ e. cut.no_letter (empty-true d.exponent e);
    }

pub refusal_free : (t : List ℕ) (d : FloatParts) → IsFloatOf t d → float_refusal t ≡ None
refusal_free t d r = ap float_refusal (sym r.spells) ∙ (refusal_of_cut d (float_is_cut d r.grammar) ∙ float_fits_no_row d r.grammar)

pub derivable : (t : List ℕ) → float_refusal t ≡ None → (d : FloatParts) × IsFloatOf t d
derivable t h = let c = cut_of t in
    let rows : cut_rows c.parts ≡ None = sym (refusal_of_cut c.parts c.cut) ∙ (ap float_refusal c.spells ∙ h) in
    (c.parts, record { spells = c.spells; grammar = float_from_cut c.parts c.cut rows })

-- the one derivation of a float
pub only_cut : (t : List ℕ) → float_refusal t ≡ None → IsOnlyDerivation (IsFloatOf t) (float_cut t)
only_cut t h =
    let r = derivable t h in
    let same : float_cut t ≡ r.0 = ap float_cut (sym r.1.spells) ∙ cut_of_text r.0 (float_is_cut r.0 r.1.grammar) in
    (subst (λ (d : FloatParts). IsFloatOf t d) (sym same) r.1, λ e s. only_float t e r.0 s r.1 ∙ sym same)

-- a text that the table refuses has none
pub refused : (t : List ℕ) (e : Refusal) → float_refusal t ≡ Some e → HasNoDerivation (IsFloatOf t)
refused t e h d r = absurd (let none : Some e ≡ None = sym h ∙ refusal_free t d r in cc)

-- a text is a float, or the table refuses it, and never both
pub floats_are_decided : FloatsAreDecided
floats_are_decided t = (derivable t, λ r. refusal_free t r.0 r.1)
