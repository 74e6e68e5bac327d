-- The places at which a float is cut, in bytes.
use Rattle.std.specs.Prelude.{◌≡◌, ℕ, ◌+◌, ◌≤◌, ◌<◌, ◌==◌, List, Option, Some, None, length, slice_range, drop, if◌then◌else◌}
use Rattle.std.specs.List.{prefix_len}
use Rattle.std.specs.Str.{chars, IsCharBoundary}
use Rattle.litrs_lex.specs.declared.float.FloatCut.{FloatCut}
use Rattle.litrs_grammar.specs.Float.{FloatParts, IsFloatOf, fraction_text, fraction_of, exponent_of, is_decimal_char}

-- The fraction of a cut: `None` if there is no period, otherwise the text after it.
abbrev pub fraction_at : FloatCut → List ℕ → Option (List ℕ)
fraction_at cut bytes =
    if cut.end_integer == cut.end_fraction then None
    else Some (chars (slice_range bytes (cut.end_integer + 1) cut.end_fraction))

-- The parts of a cut of the text with these bytes.
abbrev pub float_parts_at : FloatCut → List ℕ → FloatParts
float_parts_at cut bytes = record {
  integer = chars (slice_range bytes 0 cut.end_integer);
  fraction = fraction_at cut bytes;
  exponent = chars (slice_range bytes cut.end_fraction cut.end_number);
  suffix = chars (drop cut.end_number bytes);
}

-- The places are in order and character boundaries of the text, and so is the place after the
-- period.
pub record IsFloatWithin (cut : FloatCut) (bytes : List ℕ) : Type 0 where
  pub integer_first : cut.end_integer ≤ cut.end_fraction
  pub fraction_next : cut.end_fraction ≤ cut.end_number
  pub integer : IsCharBoundary bytes cut.end_integer
  pub after_period : cut.end_integer < cut.end_fraction →
      IsCharBoundary bytes (cut.end_integer + 1)
  pub fraction : IsCharBoundary bytes cut.end_fraction
  pub number : IsCharBoundary bytes cut.end_number

-- The text is a float, cut at these places.
pub record IsFloatAt (cut : FloatCut) (bytes : List ℕ) : Type 0 where
  pub places : IsFloatWithin cut bytes
  pub float : IsFloatOf (chars bytes) (float_parts_at cut bytes)

-- The text is cut after the integer part, the period with the fraction, and the exponent. Each part
-- takes all that belongs to it.
pub record IsPartsCut (cut : FloatCut) (bytes : List ℕ) : Type 0 where
  pub integer : cut.end_integer ≡ prefix_len is_decimal_char bytes
  pub fraction : cut.end_fraction
      ≡ cut.end_integer + length (fraction_text (fraction_of (drop cut.end_integer bytes)))
  pub exponent : cut.end_number
      ≡ cut.end_fraction + length (exponent_of (drop cut.end_fraction bytes))
  pub within : cut.end_number ≤ length bytes
