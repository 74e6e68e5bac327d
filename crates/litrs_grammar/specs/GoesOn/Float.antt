-- The refused texts that begin a float. The Rust Reference, Tokens, Literals:
-- "Floating-point literals". It does not define refusals.
use Rattle.std.specs.Prelude.{◌≡◌, ◌||◌, [], ◌++◌, IsTrue, IsFalse}
use Rattle.std.specs.Char.{is_ascii_digit}
use Rattle.litrs_base.specs.Text.{is_empty, first_passes}
use Rattle.litrs_grammar.specs.Float.{FloatParts, fraction_text, float_text, has_wrong_fraction}

-- A refused text with the parts `d` begins a float iff three conditions hold. It is empty or starts
-- with a digit, a digit or nothing follows its period, and nothing follows the number. For example,
-- `3`, `1e` and `1.5e+_` do, and `1._`, `1.e4` and `1e+x` do not.
pub record FloatGoesOn (d : FloatParts) : Type 0 where
  pub start : IsTrue (is_empty (float_text d) || first_passes is_ascii_digit d.integer)
  pub fraction : IsFalse (has_wrong_fraction (fraction_text d.fraction ++ d.exponent))
  pub suffix : d.suffix ≡ []
