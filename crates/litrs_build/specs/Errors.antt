-- The errors, and when they occur.
use Rattle.std.specs.Prelude.{◌≡◌, ℕ, List, Option, Some, None, if◌then◌else◌}
use Rattle.litrs_grammar.specs.Suffix.{is_suffix}
use Rattle.litrs_build.specs.declared.error.BuildError.{BuildError}
use Rattle.litrs_build.specs.declared.error.BuildError.TheVariants.{NotASuffix, Memory}

-- The error of a text that is not a suffix.
abbrev pub suffix_error : List ℕ → Option BuildError
suffix_error suffix = if is_suffix suffix then None else Some NotASuffix

-- The error is that no literal has the value and the suffix, if that holds. Otherwise, an
-- allocation failed.
abbrev pub IsErrorOf : Option BuildError → BuildError → Type 0
IsErrorOf (Some expected) e = e ≡ expected
IsErrorOf None e = e ≡ Memory
