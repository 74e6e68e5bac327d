-- Floats by computation: forms, where a text is cut, and each row of the table of refusals.
use Prim.Native.String.{String}
use Rattle.std.specs.Prelude.{◌≡◌, ℕ, List, [], Option, Some, None, refl, codes, false}
use Rattle.std.proofs.lemmas.Bool.{false≢true}
use Rattle.litrs_base.specs.declared.err.ParseErrorKind.TheVariants as kind
use Rattle.litrs_base.specs.declared.float.FloatType.TheVariants as type
use Rattle.litrs_base.specs.FloatTypes.{float_type_name}
use Rattle.litrs_base.specs.Refusal.{Refusal, without_span, spanning, at_byte}
use Rattle.litrs_grammar.specs.Float.{FloatParts, IsFloatOf, number_part, is_decimal_literal, is_float_form, is_exponent, float_cut, float_refusal}
use Rattle.litrs_grammar.proofs.Computing.{computing, float}

-- the integer part, the fraction, the exponent and the suffix
abbrev parts : String → Option (List ℕ) → String → String → FloatParts
parts integer fraction exponent suffix =
    record { integer = codes integer; fraction = fraction; exponent = codes exponent; suffix = codes suffix }

-- the text is a float of these parts
abbrev Is : String → FloatParts → Type 0
Is text d = IsFloatOf (codes text) d

-- the text is refused
abbrev Refused : String → Refusal → Type 0
Refused text refusal = float_refusal (codes text) ≡ Some refusal

-- it is not
abbrev Accepted : String → Type 0
Accepted text = float_refusal (codes text) ≡ None

-- Literals and their parts

literals :
    Is "3.14f33" (parts "3" (Some (codes "14")) "" "f33")
    × Is "147.3_33__E3f64" (parts "147" (Some (codes "3_33__")) "E3" "f64")
    × Is "8.2e-_04_9" (parts "8" (Some (codes "2")) "e-_04_9" "")
    × Is "1.5E+7" (parts "1" (Some (codes "5")) "E+7" "")
    × Is "0_.0_" (parts "0_" (Some (codes "0_")) "" "")
unfolding computing
literals = (
  float refl refl refl refl refl (λ e. refl),
  float refl refl refl refl refl (λ e. absurd (false≢true e)),
  float refl refl refl refl refl (λ e. absurd (false≢true e)),
  float refl refl refl refl refl (λ e. absurd (false≢true e)),
  float refl refl refl refl refl (λ e. refl),
)

-- Values

number_parts :
    (number_part (parts "9" (Some []) "" "") ≡ codes "9.")
    × (number_part (parts "8" (Some (codes "2")) "e-_04_9" "") ≡ codes "8.2e-_04_9")
unfolding computing
number_parts = (refl, refl)

-- Cuts of texts, floats or not

cuts :
    float_cut (codes "147.3_33__E3f64") ≡ parts "147" (Some (codes "3_33__")) "E3" "f64"
unfolding computing
cuts = refl

-- Texts that the grammar allows, and texts that it does not

decimal_literals :
    (is_decimal_literal (codes "_1") ≡ false)
    × (is_decimal_literal (codes "1x") ≡ false)
unfolding computing
decimal_literals = (refl, refl)

tails :
    -- nothing follows a period at the end
    (is_float_form (Some []) [] (codes "x") ≡ false)
    × (is_float_form (Some []) (codes "e5") [] ≡ false)
    × (is_float_form (Some (codes "5")) (codes "e") [] ≡ false)
    × (is_float_form (Some (codes "_5")) [] [] ≡ false)
    × (is_float_form None [] (codes "x") ≡ false)
unfolding computing
tails = (refl, refl, refl, refl, refl)

exponents :
    (is_exponent (codes "e_") ≡ false)
    × (is_exponent (codes "e++5") ≡ false)
    × (is_exponent (codes "e5x") ≡ false)
unfolding computing
exponents = (refl, refl, refl)

-- Texts that are not refused

accepted :
    Accepted "9."
    × Accepted "3.14f33"
    × Accepted "8.2e-_04_9"
    × Accepted "3e2e5"
    × Accepted "1e+5"
unfolding computing
accepted = (refl, refl, refl, refl, refl)

-- Refused texts, by the rows of the table

rows-empty :
    Refused "" (without_span kind.Empty)
unfolding computing
rows-empty = refl

rows-does_not_start_with_digit :
    Refused "_3" (at_byte 0 kind.DoesNotStartWithDigit)
    × Refused ".5" (at_byte 0 kind.DoesNotStartWithDigit)
unfolding computing
rows-does_not_start_with_digit = (refl, refl)

rows-unexpected_char :
    Refused "1.e4" (at_byte 2 kind.UnexpectedChar)
    × Refused "3.7+2" (spanning 3 5 kind.UnexpectedChar)
    × Refused "55e3.1" (spanning 4 6 kind.UnexpectedChar)
    × Refused "1.e" (at_byte 2 kind.UnexpectedChar)
    × Refused "1.x" (at_byte 2 kind.UnexpectedChar)
    × Refused "1..2" (at_byte 2 kind.UnexpectedChar)
unfolding computing
rows-unexpected_char = (refl, refl, refl, refl, refl, refl)

rows-no_exponent_digits :
    Refused "0eel" (spanning 1 2 kind.NoExponentDigits)
    × Refused "3.7e-+3" (spanning 3 5 kind.NoExponentDigits)
unfolding computing
rows-no_exponent_digits = (refl, refl)

rows-invalid_suffix :
    Refused "0x44.5" (spanning 1 6 kind.InvalidSuffix)
unfolding computing
rows-invalid_suffix = refl

rows-unexpected_integer_lit :
    Refused "35_389" (without_span kind.UnexpectedIntegerLit)
    × Refused "55f32" (without_span kind.UnexpectedIntegerLit)
unfolding computing
rows-unexpected_integer_lit = (refl, refl)

-- Types

types :
    float_type_name type.F32 ≡ codes "f32"
unfolding computing
types = refl
