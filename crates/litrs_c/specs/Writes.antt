-- The answers of the calls that write the literal of a value.
use Rattle.std.specs.Prelude.{ℕ, List}
use Rattle.std.specs.Str.{chars, IsUtf8}
use Rattle.litrs_base.specs.declared.integer.IntegerBase.TheVariants.{Decimal}
use Rattle.litrs_build.specs.BuiltInteger.{built_integer}
use Rattle.litrs_build.specs.WrittenDigits.{written_digits}
use Rattle.litrs_build.specs.declared.error.BuildError.{BuildError}
use Rattle.litrs_build.specs.declared.error.BuildError.TheVariants.{Memory}
use Rattle.litrs_c.specs.declared.TheConstants.{OUT_OF_MEMORY, REFUSED}
use Rattle.litrs_grammar.specs.Integer.{IntegerParts}
use Rattle.litrs_grammar.specs.Literal.{Derivation, IsLiteral}
use Rattle.litrs_c.specs.Answers.{IsWritten}

-- A text with this derivation was written.
pub record WritesLiteral (old new : List ℕ) (len : ℕ) (d : Derivation) : Type 0 where
  pub text : List ℕ
  pub utf8 : IsUtf8 text
  pub literal : IsLiteral (chars text) d
  pub written : IsWritten text old new len

-- The status of an error.
abbrev pub error_status : BuildError → ℕ
error_status Memory = OUT_OF_MEMORY
error_status _ = REFUSED

-- The parts of an integer in base ten, without leading zeros and without groups. `0` before a
-- suffix that begins with `b`, `o` or `x` has a `_`.
abbrev pub decimal : ℕ → List ℕ → IntegerParts
decimal value suffix = built_integer Decimal 0 (written_digits Decimal value) suffix
