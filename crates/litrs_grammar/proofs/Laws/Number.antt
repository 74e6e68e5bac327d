-- The text after the leading run of digits tells floats from integers.
use Rattle.std.proofs.Common.{◌≡◌, ℕ, true, false, List, [], ◌∷◌, ◌++◌, drop, Option, Some, None, refl, sym, ap, ◌∙◌}
use Rattle.std.specs.List.{list_all, prefix_len}
use Rattle.std.proofs.lemmas.Bool.{true≢false, false≢true, and_parts, or_from, or_right}
use Rattle.std.proofs.lemmas.List.{drop_at}
use Rattle.litrs_base.specs.declared.integer.IntegerBase.{IntegerBase}
use Rattle.litrs_base.specs.declared.integer.IntegerBase.TheVariants.{Binary, Octal, Decimal, Hexadecimal}
use Rattle.litrs_base.specs.Text.{first_passes}
use Rattle.litrs_grammar.specs.Suffix.{is_suffix}
use Rattle.litrs_base.specs.Base.{prefix, is_digit_or_underscore}
use Rattle.litrs_grammar.specs.Integer.{IntegerParts, IsIntegerOf, is_e}
use Rattle.litrs_grammar.specs.Float.{FloatParts, fraction_text, is_period, is_exponent, is_float_form, IsFloatOf}
use Rattle.litrs_grammar.specs.LiteralRefusals.{is_float_mark, begins_with_float}
use Rattle.litrs_grammar.proofs.Laws.Integer.{prefix_len_front}
use Rattle.litrs_grammar.proofs.FloatCuts.{after_decimals}
use Rattle.litrs_grammar.proofs.Laws.Float.{float_is_cut, suffix_no_period}

-- floats

exponent_mark : (p x : List ℕ) → is_exponent p ≡ true → first_passes is_float_mark (p ++ x) ≡ true
unfolding is_exponent
exponent_mark [] x h = absurd (false≢true h)
exponent_mark (c ∷ cs) x h = or_right (is_period c) (is_e c) (and_parts _ _ h).0

form_mark : (f : Option (List ℕ)) (p x : List ℕ) → is_float_form f p x ≡ true → first_passes is_float_mark (fraction_text f ++ (p ++ x)) ≡ true
form_mark None p x h = exponent_mark p x h
form_mark (Some f) p x h = refl

pub float_begins : (t : List ℕ) (d : FloatParts) → IsFloatOf t d → begins_with_float t ≡ true
float_begins t d r =
    ap begins_with_float (sym r.spells)
    ∙ (ap (first_passes is_float_mark) (after_decimals d (float_is_cut d r.grammar)) ∙ form_mark d.fraction d.exponent d.suffix r.grammar.form)

-- integers

suffix_mark : (x : List ℕ) → is_suffix x ≡ true → first_passes is_e x ≡ false → first_passes is_float_mark x ≡ false
suffix_mark [] h no_e = refl
suffix_mark (c ∷ cs) h no_e = or_from (is_period c) (is_e c) (suffix_no_period (c ∷ cs) h) no_e

integer_mark : (base : IntegerBase) (m x : List ℕ) → list_all (is_digit_or_underscore base) m ≡ true → first_passes (is_digit_or_underscore base) x ≡ false →
    is_suffix x ≡ true → first_passes is_e x ≡ false → begins_with_float (prefix base ++ (m ++ x)) ≡ false
integer_mark Binary m x all ends suffix no_e = refl
integer_mark Octal m x all ends suffix no_e = refl
integer_mark Hexadecimal m x all ends suffix no_e = refl
integer_mark Decimal m x all ends suffix no_e =
    let p = is_digit_or_underscore Decimal in
    let after : drop (prefix_len p (m ++ x)) (m ++ x) ≡ x = drop_at m x (prefix_len p (m ++ x)) (sym (prefix_len_front p m x all ends)) in
    ap (first_passes is_float_mark) after ∙ suffix_mark x suffix no_e

pub integer_begins : (t : List ℕ) (d : IntegerParts) → IsIntegerOf t d → begins_with_float t ≡ false
integer_begins t d r = let g = r.grammar in
    ap begins_with_float (sym r.spells) ∙ integer_mark d.base d.main d.suffix g.digits g.ends g.suffix g.no_exponent

pub no_float_is_integer : (t : List ℕ) (d : FloatParts) (e : IntegerParts) → IsFloatOf t d → ¬ IsIntegerOf t e
no_float_is_integer t d e r s = true≢false (sym (float_begins t d r) ∙ integer_begins t e s)
