-- Every character of an explanation is an LF or printable.
use Rattle.std.proofs.Common.{◌≡◌, ℕ, zero, suc, ◌/◌, ◌%◌, Bool, true, false, cond, inl, inr, ◌||◌, eqb, List, [], ◌∷◌, ◌++◌, Option, Some, None, refl, sym, ap, subst, ◌∙◌, arith, ltb-true}
use Rattle.std.specs.Prelude.{codes, nat_le, decimal}
use Rattle.std.specs.Float.Numeral.{Parts, exponent_text, text_of, IsWellFormed}
use Rattle.std.specs.Fmt.{digits, digits_onto, digit_glyph, sign_text}
use Rattle.std.specs.Str.Parse.{AllDigits}
use Rattle.std.proofs.lemmas.Str.Parse.{digit_from_value}
use Rattle.std.specs.List.{list_all}
use Rattle.std.specs.Str.{chars, IsUtf8, encode_utf8_all}
use Rattle.std.proofs.lemmas.Bool.{and_from, and_parts, cond_both}
use Rattle.std.proofs.lemmas.Bool.Decides.{nat_tests}
use Rattle.std.proofs.lemmas.Str.{IsUtf8-append, chars-append, chars-encodes}
use lib.Utf8.{scalar, scalars, low_scalar}
use Rattle.litrs_base.proofs.Runs.{list_all-append, list_all-weaken}
use Rattle.litrs_base.specs.declared.float.FloatType.{FloatType}
use Rattle.litrs_base.specs.declared.float.FloatType.TheVariants.{F32, F64}
use Rattle.litrs_base.specs.declared.integer.IntegerBase.{IntegerBase}
use Rattle.litrs_base.specs.declared.integer.IntegerBase.TheVariants.{Binary, Octal, Decimal, Hexadecimal}
use Rattle.litrs_base.specs.declared.integer.IntegerType.{IntegerType}
use Rattle.litrs_base.specs.declared.integer.IntegerType.TheVariants.{U8, U16, U32, U64, U128, Usize, I8, I16, I32, I64, I128, Isize}
use Rattle.litrs_base.specs.Base.{base_value, is_digit_or_underscore}
use Rattle.litrs_base.specs.Characters.{is_ascii}
use Rattle.litrs_base.specs.IntegerTypes.{type_name}
use Rattle.litrs_base.specs.Numeral.{greatest_of}
use Rattle.litrs_base.specs.Text.{is_empty}
use Rattle.litrs_grammar.specs.Bool.{bool_text}
use Rattle.litrs_grammar.specs.Float.{FloatParts, IsFloat, is_decimal_char, is_decimal_literal, is_exponent, is_exponent_number, is_float_form, is_sign}
use Rattle.litrs_grammar.specs.Integer.{IntegerParts, IsInteger, integer_value, is_e}
use Rattle.litrs_grammar.specs.Literal.{Derivation, a_bool, an_integer, a_float, a_char, a_byte, a_string, a_byte_string, a_c_string}
use Rattle.litrs_build.specs.Printable.{is_printable}
use Rattle.litrs_build.proofs.HexDigits.{glyph_passes, digits_pass}
use Rattle.litrs_build.proofs.PrintableAscii.{is_plain, plain_printable}
use Rattle.litrs_build.proofs.Spellings.{encodes_ascii, scalars_all, scalars_append}
use Rattle.ryu.specs.Plain.{IsPlainNumber}
use Rattle.litrs_explanation.specs.Explanation.{kind_name, field, field_of_part, integer_text, integer_types, name_where_fits, names_of, names_that_fit, integer_fields, fraction_field, float_fields, out_of_range, IsValueText, escaped_char, escaped, is_line_feed_or_printable, Shows}

pub both_show : (a b : List ℕ) → Shows a → Shows b → Shows (a ++ b)
both_show a b x y = record {
  utf8 = IsUtf8-append a b x.utf8 y.utf8;
  clean = ap (list_all is_line_feed_or_printable) (chars-append a b x.utf8)
      ∙ list_all-append is_line_feed_or_printable (chars a) (chars b) x.clean y.clean;
}

encoded_shows : (t : List ℕ) → scalars t ≡ true →
    list_all is_line_feed_or_printable t ≡ true → Shows (encode_utf8_all t)
encoded_shows t text all = record {
  utf8 = (t, (text, refl));
  clean = ap (list_all is_line_feed_or_printable) (chars-encodes t text) ∙ all;
}

-- ASCII: LFs, and the characters from the space to `~`

abbrev pub is_basic : ℕ → Bool
is_basic c = eqb c 10 || is_plain c

or_either : (a b r : Bool) → (a || b) ≡ true → (a ≡ true → r ≡ true) → (b ≡ true → r ≡ true) →
    r ≡ true
or_either true b r e left right = left refl
or_either false b r e left right = right e

or_right : (a b : Bool) → b ≡ true → (a || b) ≡ true
or_right true b e = refl
or_right false b e = e

pub printable_clean : (c : ℕ) → is_printable c ≡ true → is_line_feed_or_printable c ≡ true
printable_clean c shown = or_right (eqb c 10) (is_printable c) shown

basic_clean : (c : ℕ) → is_basic c ≡ true → is_line_feed_or_printable c ≡ true
basic_clean c e =
    or_either (eqb c 10) (is_plain c) (is_line_feed_or_printable c) e
    (λ is. ap (λ (b : Bool). b || is_printable c) is)
    (λ plain. printable_clean c (plain_printable c plain))

basic_ascii : (c : ℕ) → is_basic c ≡ true → is_ascii c ≡ true
basic_ascii c e = grind (arith, nat_tests)

basic_scalar : (c : ℕ) → is_basic c ≡ true → scalar c ≡ true
basic_scalar c e = let low = ltb-true c 128 (basic_ascii c e) in low_scalar c (omega arith)

basic_scalars : (t : List ℕ) → list_all is_basic t ≡ true → scalars t ≡ true
basic_scalars t all = scalars_all t (list_all-weaken is_basic scalar basic_scalar t all)

pub basic_encoded : (t : List ℕ) → list_all is_basic t ≡ true → encode_utf8_all t ≡ t
basic_encoded t all = encodes_ascii t (list_all-weaken is_basic is_ascii basic_ascii t all)

-- the name of a type has the same characters as bytes
pub f32_chars : chars (codes "f32") ≡ codes "f32"
f32_chars =
    ap chars (sym (basic_encoded (codes "f32") refl))
    ∙ chars-encodes (codes "f32") (basic_scalars (codes "f32") refl)

pub basic_shows : (t : List ℕ) → list_all is_basic t ≡ true → Shows t
basic_shows t all =
    subst Shows (basic_encoded t all) (encoded_shows t (basic_scalars t all)
    (list_all-weaken is_basic is_line_feed_or_printable basic_clean t all))

pub coded_shows : (t : List ℕ) → list_all is_basic t ≡ true → Shows (encode_utf8_all t)
coded_shows t all = subst Shows (sym (basic_encoded t all)) (basic_shows t all)

-- a line on a part

pub field_shows : (name part : List ℕ) → list_all is_basic name ≡ true → Shows part →
    Shows (field name part)
field_shows name part basic shows =
    both_show (codes "  ") (name ++ (codes " " ++ (part ++ codes "\n")))
    (basic_shows (codes "  ") refl)
    (both_show name (codes " " ++ (part ++ codes "\n")) (basic_shows name basic)
    (both_show (codes " ") (part ++ codes "\n") (basic_shows (codes " ") refl)
    (both_show part (codes "\n") shows (basic_shows (codes "\n") refl))))

pub part_shows : (name part : List ℕ) → list_all is_basic name ≡ true → Shows part →
    Shows (field_of_part name part)
part_shows name [] basic shows = basic_shows [] refl
part_shows name (c ∷ part) basic shows = field_shows name (c ∷ part) basic shows

-- numbers in decimal

decimal_onto : (k n : ℕ) (acc : List ℕ) → list_all is_basic acc ≡ true →
    list_all is_basic (digits_onto k 10 false n acc) ≡ true
decimal_onto zero n acc rest = rest
decimal_onto (suc k) n acc rest =
    let last = digit_glyph false (n % 10) in
    let more : list_all is_basic (last ∷ acc) ≡ true =
    and_from (is_basic last) (list_all is_basic acc)
    (glyph_passes is_basic refl (n % 10) (omega arith)) rest in
    cond_both (eqb (n / 10) 0) (last ∷ acc) (digits_onto k 10 false (n / 10) (last ∷ acc))
    (λ t. list_all is_basic t ≡ true)
    (λ is. more) (λ is. decimal_onto k (n / 10) (last ∷ acc) more)

pub decimal_basic : (n : ℕ) → list_all is_basic (decimal n) ≡ true
unfolding digits
decimal_basic n = decimal_onto 64 n [] refl

-- integers

digit_basic : (base : IntegerBase) (c : ℕ) → is_digit_or_underscore base c ≡ true →
    is_basic c ≡ true
digit_basic Binary c e = grind (arith, nat_tests)
digit_basic Octal c e = grind (arith, nat_tests)
digit_basic Decimal c e = grind (arith, nat_tests)
digit_basic Hexadecimal c e = grind (arith, nat_tests)

digits_basic : (base : IntegerBase) (t : List ℕ) →
    list_all (is_digit_or_underscore base) t ≡ true → list_all is_basic t ≡ true
digits_basic base t all =
    list_all-weaken (is_digit_or_underscore base) is_basic (digit_basic base) t all

integer_text_basic : (n : ℕ) → list_all is_basic (integer_text n) ≡ true
integer_text_basic n =
    cond_both (nat_le n (greatest_of U128)) (decimal n) (codes "2^128 or more")
    (λ t. list_all is_basic t ≡ true) (λ is. decimal_basic n) (λ is. refl)

type_basic : (ty : IntegerType) → list_all is_basic (codes " " ++ type_name ty) ≡ true
type_basic U8 = refl
type_basic U16 = refl
type_basic U32 = refl
type_basic U64 = refl
type_basic U128 = refl
type_basic Usize = refl
type_basic I8 = refl
type_basic I16 = refl
type_basic I32 = refl
type_basic I64 = refl
type_basic I128 = refl
type_basic Isize = refl

name_basic : (n : ℕ) (ty : IntegerType) → list_all is_basic (name_where_fits n ty) ≡ true
name_basic n ty =
    cond_both (nat_le n (greatest_of ty)) (codes " " ++ type_name ty) []
    (λ t. list_all is_basic t ≡ true) (λ is. type_basic ty) (λ is. refl)

names_basic : (n : ℕ) (types : List IntegerType) → list_all is_basic (names_of n types) ≡ true
names_basic n [] = refl
names_basic n (ty ∷ types) =
    list_all-append is_basic (name_where_fits n ty) (names_of n types) (name_basic n ty)
    (names_basic n types)

fits_basic : (n : ℕ) → list_all is_basic (names_that_fit n) ≡ true
fits_basic n =
    cond_both (nat_le n (greatest_of U128)) (names_of n integer_types) (codes " no integer type")
    (λ t. list_all is_basic t ≡ true) (λ is. names_basic n integer_types) (λ is. refl)

piece : (a b : List ℕ) → list_all is_basic a ≡ true → Shows b → Shows (a ++ b)
piece a b basic shows = both_show a b (basic_shows a basic) shows

pub integer_shows : (d : IntegerParts) → IsInteger d → Shows (integer_fields d)
integer_shows d is =
    piece (codes "  value ") _ refl
    (piece (integer_text (integer_value d)) _ (integer_text_basic (integer_value d))
    (piece (codes "\n  base ") _ refl
    (piece (decimal (base_value d.base)) _ (decimal_basic (base_value d.base))
    (piece (codes "\n  digits ") _ refl
    (both_show (encode_utf8_all d.main) _ (coded_shows d.main (digits_basic d.base d.main is.digits))
    (piece (codes "\n  fits") _ refl
    (piece (names_that_fit (integer_value d)) (codes "\n") (fits_basic (integer_value d))
    (basic_shows (codes "\n") refl))))))))

-- floats

decimals_basic : (t : List ℕ) → list_all is_decimal_char t ≡ true → list_all is_basic t ≡ true
decimals_basic t all = digits_basic Decimal t all

literal_basic : (t : List ℕ) → is_decimal_literal t ≡ true → list_all is_basic t ≡ true
literal_basic t is = decimals_basic t (and_parts _ (list_all is_decimal_char t) is).1

e_basic : (c : ℕ) → is_e c ≡ true → is_basic c ≡ true
e_basic c e = grind (arith, nat_tests)

sign_basic : (c : ℕ) → is_sign c ≡ true → is_basic c ≡ true
sign_basic c e = grind (arith, nat_tests)

exponent_number_basic : (t : List ℕ) → is_exponent_number t ≡ true → list_all is_basic t ≡ true
exponent_number_basic t is = decimals_basic t (and_parts (list_all is_decimal_char t) _ is).0

exponent_basic : (t : List ℕ) → is_exponent t ≡ true → list_all is_basic t ≡ true
unfolding is_exponent
exponent_basic [] is = refl
exponent_basic (c ∷ []) is =
    let both = and_parts (is_e c) _ is in and_from (is_basic c) true (e_basic c both.0) refl
exponent_basic (c ∷ d ∷ t) is = after (is_sign d) refl
  where
    after : (b : Bool) → is_sign d ≡ b → list_all is_basic (c ∷ d ∷ t) ≡ true
    after true sign =
        let both = and_parts (is_e c) (is_exponent_number t) (rw sign at is) in
        and_from (is_basic c) (list_all is_basic (d ∷ t)) (e_basic c both.0)
        (and_from (is_basic d) (list_all is_basic t) (sign_basic d sign) (exponent_number_basic t both.1))
    after false sign =
        let both = and_parts (is_e c) (is_exponent_number (d ∷ t)) (rw sign at is) in
        and_from (is_basic c) (list_all is_basic (d ∷ t)) (e_basic c both.0)
        (exponent_number_basic (d ∷ t) both.1)

empty_basic : (t : List ℕ) → is_empty t ≡ true → list_all is_basic t ≡ true
empty_basic [] is = refl
empty_basic (c ∷ t) is = absurd cc

form_fraction : (fraction : Option (List ℕ)) (exponent suffix : List ℕ) →
    is_float_form fraction exponent suffix ≡ true → Shows (fraction_field fraction)
form_fraction None exponent suffix is = basic_shows [] refl
form_fraction (Some []) exponent suffix is =
    field_shows (codes "fraction") [] refl (basic_shows [] refl)
form_fraction (Some (c ∷ cs)) exponent suffix is =
    field_shows (codes "fraction") (encode_utf8_all (c ∷ cs)) refl
    (coded_shows (c ∷ cs) (literal_basic (c ∷ cs) (and_parts (is_decimal_literal (c ∷ cs)) _ is).0))

form_exponent : (fraction : Option (List ℕ)) (exponent suffix : List ℕ) →
    is_float_form fraction exponent suffix ≡ true → list_all is_basic exponent ≡ true
form_exponent None exponent suffix is = exponent_basic exponent is
form_exponent (Some []) exponent suffix is =
    empty_basic exponent (and_parts (is_empty exponent) (is_empty suffix) is).0
form_exponent (Some (c ∷ cs)) exponent suffix is =
    or_either (is_empty exponent) (is_exponent exponent) (list_all is_basic exponent)
    (and_parts (is_decimal_literal (c ∷ cs)) _ is).1
    (empty_basic exponent) (exponent_basic exponent)

-- the text of a value

all_digits_basic : (t : List ℕ) → AllDigits 10 t → list_all is_basic t ≡ true
all_digits_basic [] are = refl
all_digits_basic (c ∷ t) are =
    let within = digit_from_value c are.0 in
    let basic : is_basic c ≡ true = grind (arith, nat_tests) in
    and_from (is_basic c) (list_all is_basic t) basic (all_digits_basic t are.1)

minus_basic : (negative : Bool) → list_all is_basic (sign_text negative) ≡ true
minus_basic true = refl
minus_basic false = refl

exponent_text_basic : (negative : Bool) (t : List ℕ) → AllDigits 10 t →
    list_all is_basic (exponent_text negative t) ≡ true
exponent_text_basic negative [] are = refl
exponent_text_basic negative (d ∷ t) are =
    and_from (is_basic 101) _ refl
    (list_all-append is_basic (sign_text negative) (d ∷ t) (minus_basic negative)
    (all_digits_basic (d ∷ t) are))

numeral_basic : (p : Parts) → IsWellFormed p → list_all is_basic (text_of p) ≡ true
numeral_basic p is =
    let fraction : list_all is_basic (cond p.point (46 ∷ p.fraction) []) ≡ true =
    cond_both p.point (46 ∷ p.fraction) [] (λ t. list_all is_basic t ≡ true)
    (λ _. and_from (is_basic 46) _ refl (all_digits_basic p.fraction is.fraction_digits)) (λ _. refl) in
    list_all-append is_basic p.whole _ (all_digits_basic p.whole is.whole_digits)
    (list_all-append is_basic (cond p.point (46 ∷ p.fraction) []) _ fraction
    (exponent_text_basic p.exponent_negative p.exponent is.exponent_digits))

plain_number_basic : (t : List ℕ) → IsPlainNumber t → list_all is_basic t ≡ true
plain_number_basic t (negative, p, is, plain) =
    ap (list_all is_basic) is
    ∙ list_all-append is_basic (sign_text negative) (text_of p) (minus_basic negative)
    (numeral_basic p plain.well_formed)

out_of_range_basic : (ty : FloatType) → list_all is_basic (out_of_range ty) ≡ true
out_of_range_basic F32 = refl
out_of_range_basic F64 = refl

value_basic : (d : FloatParts) (t : List ℕ) → IsValueText d t → list_all is_basic t ≡ true
value_basic d t (ty, typed, inl number) = plain_number_basic t number.plain
value_basic d t (ty, typed, inr (large, is)) =
    ap (list_all is_basic) is ∙ out_of_range_basic ty

pub float_shows : (d : FloatParts) (value : List ℕ) → IsFloat d → IsValueText d value →
    Shows (float_fields value d)
float_shows d value is shown =
    piece (codes "  value ") _ refl
    (piece value _ (value_basic d value shown)
    (piece (codes "\n  integer part ") _ refl
    (both_show (encode_utf8_all d.integer) _ (coded_shows d.integer (literal_basic d.integer is.integer))
    (piece (codes "\n") _ refl
    (both_show (fraction_field d.fraction) _ (form_fraction d.fraction d.exponent d.suffix is.form)
    (part_shows (codes "exponent") (encode_utf8_all d.exponent) refl
    (coded_shows d.exponent (form_exponent d.fraction d.exponent d.suffix is.form))))))))

-- bools and kinds

pub bool_shows : (b : Bool) → Shows (bool_text b)
bool_shows true = basic_shows (bool_text true) refl
bool_shows false = basic_shows (bool_text false) refl

pub kind_shows : (d : Derivation) → Shows (kind_name d)
kind_shows (a_bool b) = basic_shows (codes "bool") refl
kind_shows (an_integer d) = basic_shows (codes "integer") refl
kind_shows (a_float d) = basic_shows (codes "float") refl
kind_shows (a_char d) = basic_shows (codes "char") refl
kind_shows (a_byte d) = basic_shows (codes "byte") refl
kind_shows (a_string d) = basic_shows (codes "string") refl
kind_shows (a_byte_string d) = basic_shows (codes "byte string") refl
kind_shows (a_c_string d) = basic_shows (codes "C string") refl

-- values between quotes

pub quoted_clean : (front body : List ℕ) (quote : ℕ) → list_all is_basic front ≡ true →
    list_all is_printable body ≡ true → is_basic quote ≡ true →
    list_all is_line_feed_or_printable (front ++ (body ++ quote ∷ [])) ≡ true
quoted_clean front body quote basic shown close =
    list_all-append is_line_feed_or_printable front (body ++ quote ∷ [])
    (list_all-weaken is_basic is_line_feed_or_printable basic_clean front basic)
    (list_all-append is_line_feed_or_printable body (quote ∷ [])
    (list_all-weaken is_printable is_line_feed_or_printable printable_clean body shown)
    (and_from (is_line_feed_or_printable quote) true (basic_clean quote close) refl))

-- the line on the literal of a value
pub value_shows : (raw text : List ℕ) → IsUtf8 raw → chars raw ≡ text →
    list_all is_line_feed_or_printable text ≡ true → Shows (field (codes "value") raw)
value_shows raw text u is all =
    field_shows (codes "value") raw refl (record {
      utf8 = u;
      clean = ap (list_all is_line_feed_or_printable) is ∙ all;
    })

-- suffixes

pub number_basic : (c : ℕ) → list_all is_basic (codes "\\u{" ++ (digits 16 false c ++ codes "}")) ≡ true
number_basic c =
    list_all-append is_basic (codes "\\u{") (digits 16 false c ++ codes "}") refl
    (list_all-append is_basic (digits 16 false c) (codes "}") (digits_pass is_basic refl c) refl)

escaped_char_clean : (c : ℕ) → list_all is_line_feed_or_printable (escaped_char c) ≡ true
escaped_char_clean c =
    let number = codes "\\u{" ++ (digits 16 false c ++ codes "}") in
    cond_both (is_printable c) (c ∷ []) number
    (λ t. list_all is_line_feed_or_printable t ≡ true)
    (λ shown. and_from (is_line_feed_or_printable c) true (printable_clean c shown) refl)
    (λ not_shown. list_all-weaken is_basic is_line_feed_or_printable basic_clean number (number_basic c))

escaped_clean : (t : List ℕ) → list_all is_line_feed_or_printable (escaped t) ≡ true
escaped_clean [] = refl
escaped_clean (c ∷ t) =
    list_all-append is_line_feed_or_printable (escaped_char c) (escaped t) (escaped_char_clean c)
    (escaped_clean t)

escaped_char_scalars : (c : ℕ) → scalar c ≡ true → scalars (escaped_char c) ≡ true
escaped_char_scalars c e =
    let number = codes "\\u{" ++ (digits 16 false c ++ codes "}") in
    cond_both (is_printable c) (c ∷ []) number (λ t. scalars t ≡ true)
    (λ shown. and_from (scalar c) true e refl) (λ not_shown. basic_scalars number (number_basic c))

escaped_scalars : (t : List ℕ) → scalars t ≡ true → scalars (escaped t) ≡ true
escaped_scalars [] e = refl
escaped_scalars (c ∷ t) e =
    let both = and_parts (scalar c) (scalars t) e in
    scalars_append (escaped_char c) (escaped t) (escaped_char_scalars c both.0)
    (escaped_scalars t both.1)

pub suffix_shows : (t : List ℕ) → scalars t ≡ true →
    Shows (field_of_part (codes "suffix") (encode_utf8_all (escaped t)))
suffix_shows t text =
    part_shows (codes "suffix") (encode_utf8_all (escaped t)) refl
    (encoded_shows (escaped t) (escaped_scalars t text) (escaped_clean t))

-- all of it
pub all_show : (kind lines suffix : List ℕ) → Shows kind → Shows lines → Shows suffix →
    Shows (kind ++ (codes "\n" ++ (lines ++ suffix)))
all_show kind lines suffix k l s =
    both_show kind _ k (piece (codes "\n") _ refl (both_show lines suffix l s))
