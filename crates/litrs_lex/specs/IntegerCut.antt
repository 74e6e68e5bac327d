-- The places at which an integer is cut, in bytes.
use Rattle.std.specs.Prelude.{◌≡◌, ℕ, ◌+◌, ◌≤◌, List, length, slice_range, drop}
use Rattle.std.specs.Str.{chars, IsCharBoundary}
use Rattle.litrs_lex.specs.declared.integer.IntegerCut.{IntegerCut}
use Rattle.std.specs.List.{prefix_len}
use Rattle.litrs_base.specs.Base.{prefix, is_digit_or_underscore}
use Rattle.litrs_grammar.specs.Integer.{IntegerParts, IsIntegerOf, base_of}

-- The parts of a cut of the text with these bytes.
abbrev pub integer_parts_at : IntegerCut → List ℕ → IntegerParts
integer_parts_at cut bytes = record {
  base = cut.base;
  main = chars (slice_range bytes cut.start_main cut.end_main);
  suffix = chars (drop cut.end_main bytes);
}

-- The places are in order and character boundaries of the text.
pub record IsIntegerWithin (cut : IntegerCut) (bytes : List ℕ) : Type 0 where
  pub in_order : cut.start_main ≤ cut.end_main
  pub start : IsCharBoundary bytes cut.start_main
  pub end : IsCharBoundary bytes cut.end_main

-- The text is an integer, cut at these places.
pub record IsIntegerAt (cut : IntegerCut) (bytes : List ℕ) : Type 0 where
  pub places : IsIntegerWithin cut bytes
  pub integer : IsIntegerOf (chars bytes) (integer_parts_at cut bytes)

-- The text is cut after the prefix and after all digits of the base and underscores that follow it.
pub record IsDigitsCut (cut : IntegerCut) (bytes : List ℕ) : Type 0 where
  pub base : cut.base ≡ base_of bytes
  pub start : cut.start_main ≡ length (prefix cut.base)
  pub end : cut.end_main
      ≡ cut.start_main + prefix_len (is_digit_or_underscore cut.base) (drop cut.start_main bytes)
  pub within : cut.end_main ≤ length bytes
