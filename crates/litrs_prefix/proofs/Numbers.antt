-- Numbers, and the rest before which they end.
use Rattle.litrs_prefix.proofs.Words.{◌≡◌, ℕ, Bool, true, false, not, ◌&&◌, ◌||◌, List, [], ◌∷◌, ◌++◌, drop, Option, None, refl, sym, ap, ◌∙◌, subst, arith, append_assoc, ◌==◌, and_parts, and_left, or_from, not-true, false≢true, nat_tests, drop_at, is_xid_start-ascii, cut_with, integer_cut-is, take_while_front}
use Rattle.litrs_prefix.specs.Words.{is_ascii_digit, prefix_len, list_all, first_passes, is_empty, starts_identifier, IntegerParts, IsIntegerOf, is_e, IsFloatOf, is_period, is_decimal_char, ends_suffix, ends_integer, ends_float, is_bare, gives_period, is_ascii_alphabetic, IntegerBase, Decimal, prefix, is_digit_or_underscore, is_suffix, IsInteger, has_prefix, base_of, integer_cut, FloatParts, float_text, fraction_text, is_exponent, is_float_form}
use Rattle.litrs_grammar.proofs.Laws.Float.{float_is_cut, suffix_no_period}
use Rattle.litrs_grammar.proofs.FloatCuts.{IsCut, after_decimals}
use Rattle.litrs_prefix.proofs.PieceBodies.{digits_passed}
use Rattle.litrs_prefix.proofs.Names.{same_suffix}

-- a character that does not begin a name is neither a letter nor `_`
pub no_start : (c : ℕ) → starts_identifier c ≡ false → (is_ascii_alphabetic c || (c == 95)) ≡ false
no_start c none = grind (arith, nat_tests, is_xid_start-ascii)

-- if it is not a decimal digit either, it is not a digit of any base
no_digit : (base : IntegerBase) (c : ℕ) → starts_identifier c ≡ false → is_ascii_digit c ≡ false → is_digit_or_underscore base c ≡ false
no_digit base c s d = let n = no_start c s in grind (arith, nat_tests)

no_letter_e : (c : ℕ) → starts_identifier c ≡ false → is_e c ≡ false
no_letter_e c s = let n = no_start c s in grind (arith, nat_tests)

-- the digits end before the suffix and the rest
pub stops : (base : IntegerBase) (x r : List ℕ) → first_passes (is_digit_or_underscore base) x ≡ false → ends_suffix x r ≡ true → first_passes is_ascii_digit r ≡ false →
    first_passes (is_digit_or_underscore base) (x ++ r) ≡ false
stops base x r g e d = grind (arith, no_digit base)

no_e_after : (x r : List ℕ) → first_passes is_e x ≡ false → ends_suffix x r ≡ true → first_passes is_e (x ++ r) ≡ false
no_e_after x r g e = grind (arith, no_letter_e)

-- integers

no_prefix : (m c : ℕ) (t : List ℕ) → starts_identifier c ≡ false → has_prefix (m ∷ c ∷ t) ≡ false
no_prefix m c t s = let n = no_start c s in grind (arith, nat_tests)

prefix_stays : (m x r : List ℕ) → first_passes is_ascii_digit m ≡ true → has_prefix (m ++ x) ≡ false → ends_suffix x r ≡ true → has_prefix (m ++ (x ++ r)) ≡ false
prefix_stays [] x r d h e = absurd (false≢true d)
prefix_stays (m ∷ n ∷ ms) x r d h e = h
prefix_stays (m ∷ []) (c ∷ x) r d h e = h
prefix_stays (m ∷ []) [] [] d h e = h
prefix_stays (m ∷ []) [] (c ∷ r) d h e = no_prefix m c r (not-true _ e)

decimal_base : (t : List ℕ) → has_prefix t ≡ false → base_of t ≡ Decimal
decimal_base t none = grind arith

base_stays : (base : IntegerBase) (m x r : List ℕ) → IsInteger (record { base = base; main = m; suffix = x }) → ends_suffix x r ≡ true →
    base_of (prefix base ++ (m ++ (x ++ r))) ≡ base
base_stays base m x r g e = grind (arith, decimal_base, prefix_stays)

cut_longer : (base : IntegerBase) (m y : List ℕ) → list_all (is_digit_or_underscore base) m ≡ true → first_passes (is_digit_or_underscore base) y ≡ false →
    cut_with base (prefix base ++ (m ++ y)) ≡ record { base = base; main = m; suffix = y }
cut_longer base m y digits ends = grind (arith, drop_at, take_while_front)

pub longer_integer : (s r : List ℕ) (d : IntegerParts) → IsIntegerOf s d → s ++ r ≡ prefix d.base ++ (d.main ++ (d.suffix ++ r))
longer_integer s r d h = ap (λ (l : List ℕ). l ++ r) (sym h.spells) ∙ simp append_assoc

-- a longer text is cut as the integer at its front
pub cut_stays : (s r : List ℕ) (d : IntegerParts) → IsIntegerOf s d → ends_suffix d.suffix r ≡ true → ends_integer d r ≡ true →
    integer_cut (s ++ r) ≡ record { base = d.base; main = d.main; suffix = d.suffix ++ r }
cut_stays s r d h e f =
    let no_digit_after : first_passes is_ascii_digit r ≡ false = not-true _ (and_parts _ _ f).0 in
    let text : List ℕ = prefix d.base ++ (d.main ++ (d.suffix ++ r)) in
    integer_cut-is (s ++ r)
    ∙ (ap (λ (u : List ℕ). cut_with (base_of u) u) (longer_integer s r d h)
    ∙ (ap (λ (b : IntegerBase). cut_with b text) (base_stays d.base d.main d.suffix r h.grammar e)
    ∙ cut_longer d.base d.main (d.suffix ++ r) h.grammar.digits (stops d.base d.suffix r h.grammar.ends e no_digit_after)))

pub same_integer : (s t r u : List ℕ) (d e : IntegerParts) → IsIntegerOf s d → IsIntegerOf t e →
    ends_suffix d.suffix r ≡ true → ends_integer d r ≡ true → ends_suffix e.suffix u ≡ true → ends_integer e u ≡ true → s ++ r ≡ t ++ u → (d ≡ e) × (r ≡ u)
same_integer s t r u d e h g f i k j same =
    let cuts = sym (cut_stays s r d h f i) ∙ (ap integer_cut same ∙ cut_stays t u e g k j) in
    let bases : d.base ≡ e.base = ap (λ (p : IntegerParts). p.base) cuts in
    let mains : d.main ≡ e.main = ap (λ (p : IntegerParts). p.main) cuts in
    let tails : d.suffix ++ r ≡ e.suffix ++ u = ap (λ (p : IntegerParts). p.suffix) cuts in
    let ends = same_suffix d.suffix e.suffix r u h.grammar.suffix g.grammar.suffix f k tails in
    (λ v. record { base = bases v; main = mains v; suffix = ends.0 v }, ends.1)

-- floats

-- a letter alone is not an exponent, and if there is no period, there is an exponent
lone_letter : (c : ℕ) → is_exponent (c ∷ []) ≡ true → ⊥
unfolding is_exponent
lone_letter c h = false≢true (and_parts _ _ h).1

no_exponent : is_exponent [] ≡ true → ⊥
unfolding is_exponent
no_exponent h = false≢true h

one_of_form : (f : Option (List ℕ)) (x : List ℕ) (c : ℕ) → is_float_form f (c ∷ []) x ≡ true → ⊥
one_of_form f x c h = grind (arith, lone_letter c)

abbrev pub with_rest : FloatParts → List ℕ → FloatParts
with_rest d r = record { integer = d.integer; fraction = d.fraction; exponent = d.exponent; suffix = d.suffix ++ r }

pub float_cut_stays : (d : FloatParts) (s r : List ℕ) → IsFloatOf s d → ends_suffix d.suffix r ≡ true → ends_float d r ≡ true → IsCut (with_rest d r)
float_cut_stays d s r h e f =
    let cut = float_is_cut d h.grammar in
    let no_digit_after : first_passes is_ascii_digit r ≡ false = not-true _ (and_parts _ _ f).0 in
    record {
      integer = cut.integer;
      fraction = cut.fraction;
      exponent = cut.exponent;
      stops = stops Decimal d.suffix r cut.stops e no_digit_after;
      no_letter = λ none. no_e_after d.suffix r (cut.no_letter none) e;
      no_sign = λ c one. absurd (one_of_form d.fraction d.suffix c (subst (λ (p : List ℕ). is_float_form d.fraction p d.suffix ≡ true) one h.grammar.form));
      no_period = λ none nothing. absurd (no_exponent (subst (λ (p : List ℕ). is_float_form None p d.suffix ≡ true) nothing (subst (λ (o : Option (List ℕ)). is_float_form o d.exponent d.suffix ≡ true) none h.grammar.form)));
    }

pub longer_float : (d : FloatParts) (s r : List ℕ) → IsFloatOf s d → s ++ r ≡ float_text (with_rest d r)
longer_float d s r h = ap (λ (l : List ℕ). l ++ r) (sym h.spells) ∙ simp append_assoc

-- The text after the decimal digits decides which of the two it is: `e` or `E`, or a period that an
-- integer would take.
abbrev pub is_mark : List ℕ → Bool
is_mark t = first_passes is_e t || gives_period t

abbrev pub has_mark : List ℕ → Bool
has_mark t = is_mark (drop (prefix_len is_decimal_char t) t)

integer_no_mark : (x r : List ℕ) → is_suffix x ≡ true → first_passes is_e x ≡ false → ends_suffix x r ≡ true → not (gives_period r && is_empty x) ≡ true → is_mark (x ++ r) ≡ false
integer_no_mark [] r h g e f = let none = no_e_after [] r refl e in grind arith
integer_no_mark (c ∷ x) r h g e f = or_from _ _ g (and_left (is_period c) _ (suffix_no_period (c ∷ x) h))

base_no_mark : (base : IntegerBase) (m y : List ℕ) → list_all (is_digit_or_underscore base) m ≡ true → first_passes (is_digit_or_underscore base) y ≡ false → is_mark y ≡ false →
    has_mark (prefix base ++ (m ++ y)) ≡ false
base_no_mark base m y digits ends none = grind (arith, nat_tests, digits_passed)

pub integer_mark : (s r : List ℕ) (d : IntegerParts) → IsIntegerOf s d → ends_suffix d.suffix r ≡ true → ends_integer d r ≡ true → has_mark (s ++ r) ≡ false
integer_mark s r d h e f =
    let parts = and_parts _ _ f in
    ap has_mark (longer_integer s r d h)
    ∙ base_no_mark d.base d.main (d.suffix ++ r) h.grammar.digits (stops d.base d.suffix r h.grammar.ends e (not-true _ parts.0))
    (integer_no_mark d.suffix r h.grammar.suffix h.grammar.no_exponent e parts.1)

pub digit_no_name : (c : ℕ) → is_ascii_digit c ≡ true → (is_period c || starts_identifier c) ≡ false
digit_no_name c h = grind (arith, nat_tests, is_xid_start-ascii)

form_mark : (f : Option (List ℕ)) (p x r : List ℕ) → is_float_form f p x ≡ true → ends_suffix x r ≡ true → not (first_passes is_period r && is_bare f) ≡ true →
    is_mark (fraction_text f ++ (p ++ (x ++ r))) ≡ true
unfolding is_exponent
form_mark f p x r h e g = grind (arith, nat_tests, digit_no_name)

pub float_mark : (s r : List ℕ) (d : FloatParts) → IsFloatOf s d → ends_suffix d.suffix r ≡ true → ends_float d r ≡ true → has_mark (s ++ r) ≡ true
float_mark s r d h e f =
    ap has_mark (longer_float d s r h)
    ∙ (ap is_mark (after_decimals (with_rest d r) (float_cut_stays d s r h e f)) ∙ form_mark d.fraction d.exponent d.suffix r h.grammar.form e (and_parts _ _ f).1)
