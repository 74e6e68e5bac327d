-- Floating-point literals. The Rust Reference, Tokens, Literals: "Floating-point literals".
-- The grammar comes first, the refusals below it.
use Rattle.std.specs.Prelude.{◌≡◌, ℕ, ◌+◌, ◌==◌, ◌&&◌, ◌||◌, Bool, false, not, List, [], ◌∷◌, ◌++◌, length, take, drop, take_while, Option, Some, None, is_some, IsTrue, IsFalse, if◌then◌else◌}
use Rattle.std.specs.Char.{is_ascii_digit}
use Rattle.std.specs.List.{list_all, list_any}
use Rattle.litrs_base.specs.declared.err.ParseErrorKind.TheVariants.{Empty, DoesNotStartWithDigit, UnexpectedChar, NoExponentDigits, UnexpectedIntegerLit}
use Rattle.litrs_base.specs.Refusal.{Refusal, without_span, spanning, at_byte}
use Rattle.litrs_base.specs.Characters.{period, underscore, plus, minus}
use Rattle.litrs_base.specs.Text.{is_empty, byte_len, first_passes}
use Rattle.litrs_grammar.specs.Suffix.{is_suffix, suffix_kind}
use Rattle.litrs_base.specs.declared.integer.IntegerBase.TheVariants.{Decimal}
use Rattle.litrs_base.specs.Base.{is_digit_or_underscore}
use Rattle.litrs_grammar.specs.Integer.{is_e}

-- The parts of a float: `147.3_33__E3f64` has the integer part `147`, the fraction `3_33__`, the
-- exponent `E3` and the suffix `f64`. The fraction is `None` if there is no period, and empty if
-- nothing follows the period. The exponent starts with its letter, and is empty if there is none.
pub record FloatParts : Type 0 where
  pub integer : List ℕ
  pub fraction : Option (List ℕ)
  pub exponent : List ℕ
  pub suffix : List ℕ

-- The period and the fraction.
abbrev pub fraction_text : Option (List ℕ) → List ℕ
fraction_text None = []
fraction_text (Some digits) = period ∷ digits

-- The text without the suffix.
abbrev pub number_part : FloatParts → List ℕ
number_part d = d.integer ++ (fraction_text d.fraction ++ d.exponent)

-- The text with the parts `d`.
abbrev pub float_text : FloatParts → List ℕ
float_text d = d.integer ++ (fraction_text d.fraction ++ (d.exponent ++ d.suffix))

-- A decimal digit or `_`, which may follow the first digit.
abbrev pub is_decimal_char : ℕ → Bool
is_decimal_char c = is_digit_or_underscore Decimal c

abbrev pub is_underscore : ℕ → Bool
is_underscore c = c == underscore

abbrev pub is_period : ℕ → Bool
is_period c = c == period

-- `true` for `+` and `-`.
abbrev pub is_sign : ℕ → Bool
is_sign c = (c == plus) || (c == minus)

-- `true` iff the text is a decimal digit, followed by digits and `_`.
abbrev pub is_decimal_literal : List ℕ → Bool
is_decimal_literal t = first_passes is_ascii_digit t && list_all is_decimal_char t

-- `true` iff the text has only digits and `_`, and at least one digit.
abbrev pub is_exponent_number : List ℕ → Bool
is_exponent_number t = list_all is_decimal_char t && list_any is_ascii_digit t

-- The length of an optional sign at the front.
abbrev pub sign_len : List ℕ → ℕ
sign_len t = if first_passes is_sign t then 1 else 0

-- `true` iff the text is `e` or `E`, an optional sign, then digits and `_` with at least one digit.
unfoldable pub is_exponent : List ℕ → Bool
is_exponent [] = false
is_exponent (c ∷ cs) = is_e c && is_exponent_number (drop (sign_len cs) cs)

-- The three forms after the integer part: a period that ends the text; a period, a fraction, an
-- optional exponent and a suffix; or an exponent and a suffix.
abbrev pub is_float_form : Option (List ℕ) → List ℕ → List ℕ → Bool
is_float_form (Some []) exponent suffix = is_empty exponent && is_empty suffix
is_float_form (Some (c ∷ cs)) exponent suffix =
    is_decimal_literal (c ∷ cs) && (is_empty exponent || is_exponent exponent)
is_float_form None exponent suffix = is_exponent exponent

-- `d` are the parts of a float iff they have one of these forms after an integer part, and the
-- suffix is a suffix. It does not start with `_`, and it starts with `e` or `E` only after an
-- exponent.
pub record IsFloat (d : FloatParts) : Type 0 where
  pub integer : IsTrue (is_decimal_literal d.integer)
  pub form : IsTrue (is_float_form d.fraction d.exponent d.suffix)
  pub suffix : IsTrue (is_suffix d.suffix)
  pub no_underscore : IsFalse (first_passes is_underscore d.suffix)
  pub no_letter : IsTrue (is_empty d.exponent) → IsFalse (first_passes is_e d.suffix)

-- `t` is a float with the parts `d` iff they spell `t` and are those of a float.
pub record IsFloatOf (t : List ℕ) (d : FloatParts) : Type 0 where
  pub spells : float_text d ≡ t
  pub grammar : IsFloat d

-- Refusals. A text that starts with a digit is cut into the parts that a float would have.

-- The fraction at the front of the text after the integer part: the digits and `_` after a period.
abbrev pub fraction_of : List ℕ → Option (List ℕ)
fraction_of [] = None
fraction_of (c ∷ cs) = if is_period c then Some (take_while is_decimal_char cs) else None

-- The exponent at the front of the text after the fraction: `e` or `E`, an optional sign, and the
-- digits and `_` after them.
abbrev pub exponent_of : List ℕ → List ℕ
exponent_of [] = []
exponent_of (c ∷ cs) =
    if is_e c
    then c ∷ (take (sign_len cs) cs ++ take_while is_decimal_char (drop (sign_len cs) cs))
    else []

-- The text `t` after `front`.
abbrev pub text_after : List ℕ → List ℕ → List ℕ
text_after front t = drop (length front) t

-- The parts of a text. The integer part is the digits and `_` at its front, and the suffix is the
-- text after the other parts.
unfoldable pub float_cut : List ℕ → FloatParts
float_cut t =
    let integer = take_while is_decimal_char t in
    let fraction = fraction_of (text_after integer t) in
    let exponent = exponent_of (text_after (integer ++ fraction_text fraction) t) in
    record {
      integer = integer;
      fraction = fraction;
      exponent = exponent;
      suffix = text_after (integer ++ (fraction_text fraction ++ exponent)) t;
    }

-- `true` iff the text starts with a period that is followed by a character other than a digit.
abbrev pub has_wrong_fraction : List ℕ → Bool
has_wrong_fraction [] = false
has_wrong_fraction (c ∷ cs) =
    is_period c && (not (is_empty cs) && not (first_passes is_ascii_digit cs))

-- The refusal of a text that starts with a digit, by its parts. The first row that fits decides.
-- All characters before the suffix are ASCII, so they have one byte each.
abbrev pub float_cut_refusal : FloatParts → Option Refusal
float_cut_refusal d =
    let fraction = length d.integer in
    let exponent = fraction + length (fraction_text d.fraction) in
    let suffix = exponent + length d.exponent in
    let has_exponent = not (is_empty d.exponent) in
    if has_wrong_fraction (fraction_text d.fraction ++ (d.exponent ++ d.suffix))
    then Some (at_byte (fraction + 1) UnexpectedChar)
    else if has_exponent && not (list_any is_ascii_digit d.exponent)
    then Some (spanning exponent suffix NoExponentDigits)
    else if not (is_suffix d.suffix)
    then Some (spanning suffix (byte_len (float_text d)) (suffix_kind d.suffix))
    else if not (is_some d.fraction || has_exponent) then Some (without_span UnexpectedIntegerLit)
    else None

-- The refusal of a text as a float, or `None` if it is a float.
unfoldable pub float_refusal : List ℕ → Option Refusal
float_refusal t =
    if is_empty t then Some (without_span Empty)
    else if not (first_passes is_ascii_digit t) then Some (at_byte 0 DoesNotStartWithDigit)
    else float_cut_refusal (float_cut t)
