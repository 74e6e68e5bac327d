-- Integers. The Rust Reference, Tokens, Literals: "Integer literals".
use Rattle.std.specs.Prelude.{◌≡◌, ℕ, ◌==◌, ◌||◌, Bool, not, IsTrue, IsFalse, List, length, drop, ◌++◌, Option, Some, None, if◌then◌else◌}
use Rattle.std.specs.Char.{is_ascii_digit}
use Rattle.std.specs.List.{list_all, list_any, take_while}
use Rattle.litrs_base.specs.declared.integer.IntegerBase.{IntegerBase}
use Rattle.litrs_base.specs.declared.integer.IntegerBase.TheVariants.{Binary, Octal, Decimal, Hexadecimal}
use Rattle.litrs_base.specs.declared.err.ParseErrorKind.TheVariants.{Empty, DoesNotStartWithDigit, InvalidDigit, NoDigits, IntegerSuffixStartingWithE}
use Rattle.litrs_base.specs.Refusal.{Refusal, without_span, spanning, at_byte}
use Rattle.litrs_base.specs.Characters.{letter_e, capital_e}
use Rattle.litrs_base.specs.Text.{is_empty, byte_len, first_passes, begins_with}
use Rattle.litrs_grammar.specs.Suffix.{is_suffix, suffix_kind}
use Rattle.litrs_base.specs.Base.{prefix, base_value, is_digit, is_digit_or_underscore}
use Rattle.litrs_base.specs.Numeral.{numeral}

-- The grammar.

-- The parts of an integer: the base, which its prefix names, the main part, and the suffix.
pub record IntegerParts : Type 0 where
  pub base : IntegerBase
  pub main : List ℕ
  pub suffix : List ℕ

-- The text of an integer.
abbrev pub integer_text : IntegerParts → List ℕ
integer_text d = prefix d.base ++ (d.main ++ d.suffix)

-- `true` for `e` and `E`.
abbrev pub is_e : ℕ → Bool
is_e c = (c == letter_e) || (c == capital_e)

-- `true` iff the text starts with `0b`, `0o` or `0x`.
abbrev pub has_prefix : List ℕ → Bool
has_prefix t =
    begins_with (prefix Binary) t || begins_with (prefix Octal) t
    || begins_with (prefix Hexadecimal) t

-- `d` are the parts of an integer iff the main part has digits of the base and underscores, with at
-- least one digit, and takes all of them that follow. The suffix is a suffix that does not start
-- with `e` or `E`. A decimal integer starts with a digit, and not with the prefix of another base.
pub record IsInteger (d : IntegerParts) : Type 0 where
  pub digits : IsTrue (list_all (is_digit_or_underscore d.base) d.main)
  pub some_digit : IsTrue (list_any (is_digit d.base) d.main)
  pub ends : IsFalse (first_passes (is_digit_or_underscore d.base) d.suffix)
  pub suffix : IsTrue (is_suffix d.suffix)
  pub no_exponent : IsFalse (first_passes is_e d.suffix)
  pub decimal_digit : d.base ≡ Decimal → IsTrue (first_passes is_ascii_digit d.main)
  pub decimal_prefix : d.base ≡ Decimal → IsFalse (has_prefix (integer_text d))

-- `t` is an integer with the parts `d` iff they spell `t` and are those of an integer.
pub record IsIntegerOf (t : List ℕ) (d : IntegerParts) : Type 0 where
  pub spells : integer_text d ≡ t
  pub grammar : IsInteger d

-- The value of an integer: that of its main part in its base, whatever the suffix is.
abbrev pub integer_value : IntegerParts → ℕ
integer_value d = numeral (base_value d.base) d.main

-- The refusals.

-- The base by the front of a text: `0b`, `0o` and `0x` are always a prefix, and every other text is
-- decimal.
abbrev pub base_of : List ℕ → IntegerBase
base_of t = if begins_with (prefix Binary) t then Binary
    else if begins_with (prefix Octal) t then Octal
    else if begins_with (prefix Hexadecimal) t then Hexadecimal
    else Decimal

-- The text after the prefix.
abbrev pub after_prefix : List ℕ → List ℕ
after_prefix t = drop (length (prefix (base_of t))) t

-- The main part: all digits of the base and underscores after the prefix.
abbrev pub main_of : List ℕ → List ℕ
main_of t = take_while (is_digit_or_underscore (base_of t)) (after_prefix t)

-- The text after the main part.
abbrev pub after_main : List ℕ → List ℕ
after_main t = drop (length (main_of t)) (after_prefix t)

-- The parts of a text, cut after the prefix and after the main part.
unfoldable pub integer_cut : List ℕ → IntegerParts
integer_cut t = record { base = base_of t; main = main_of t; suffix = after_main t }

-- The refusal of a text that starts with a decimal digit, by its parts. The first row that fits
-- decides.
abbrev pub integer_cut_refusal : IntegerParts → Option Refusal
integer_cut_refusal d =
    let start = byte_len (prefix d.base) in
    let end = byte_len (prefix d.base ++ d.main) in
    if not (is_suffix d.suffix) then
    (if first_passes is_ascii_digit d.suffix then Some (at_byte end InvalidDigit)
    else Some (spanning end (byte_len (integer_text d)) (suffix_kind d.suffix)))
    else if first_passes is_e d.suffix then Some (at_byte end IntegerSuffixStartingWithE)
    else if not (list_any (is_digit d.base) d.main) then Some (spanning start end NoDigits)
    else None

-- The refusal of a text as an integer, or `None` if it is an integer.
unfoldable pub integer_refusal : List ℕ → Option Refusal
integer_refusal t =
    if is_empty t then Some (without_span Empty)
    else if not (first_passes is_ascii_digit t) then Some (at_byte 0 DoesNotStartWithDigit)
    else integer_cut_refusal (integer_cut t)
