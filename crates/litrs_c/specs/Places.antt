-- The places of the parts of a literal, in bytes of the text.
use Rattle.std.specs.Prelude.{◌≡◌, ℕ, ◌+◌, List, ◌++◌, Option, Some, None, length}
use Rattle.litrs_base.specs.Base.{prefix}
use Rattle.litrs_base.specs.Text.{byte_len}
use Rattle.litrs_grammar.specs.Float.{fraction_text, number_part}
use Rattle.litrs_grammar.specs.Literal.{Derivation, an_integer, a_float, suffix_of}
use Rattle.litrs_c.specs.declared.Place.{Place}

-- The place of a part that is missing.
abbrev pub nowhere : Place
nowhere = record { start = 0; end = 0 }

-- The place of a part that starts at this byte of the text.
abbrev pub place_of : ℕ → List ℕ → Place
place_of start part = record { start = start; end = start + byte_len part }

-- The digits of an integer, which follow its prefix, or the integer part of a float, which starts
-- at 0.
abbrev pub main_place : Derivation → Place
main_place (an_integer d) = place_of (length (prefix d.base)) d.main
main_place (a_float d) = place_of 0 d.integer
main_place _ = nowhere

-- The fraction, which follows the integer part and the period.
abbrev pub fraction_after : List ℕ → Option (List ℕ) → Place
fraction_after integer None = nowhere
fraction_after integer (Some digits) = place_of (byte_len integer + 1) digits

abbrev pub fraction_place : Derivation → Place
fraction_place (a_float d) = fraction_after d.integer d.fraction
fraction_place _ = nowhere

-- The exponent, with which the number ends.
abbrev pub exponent_place : Derivation → Place
exponent_place (a_float d) = record {
  start = byte_len (d.integer ++ fraction_text d.fraction);
  end = byte_len (number_part d);
}
exponent_place _ = nowhere

-- The suffix, with which a text of `len` bytes ends.
pub record IsSuffixPlace (len : ℕ) (d : Derivation) (place : Place) : Type 0 where
  pub start : place.start + byte_len (suffix_of d) ≡ len
  pub end : place.end ≡ len
