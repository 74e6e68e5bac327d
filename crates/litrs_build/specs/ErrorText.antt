-- The text of an error.
use Rattle.std.specs.Prelude.{ℕ, List, ◌++◌, codes}
use Rattle.std.specs.Fmt.{decimal}
use Rattle.litrs_build.specs.declared.error.BuildError.{BuildError}
use Rattle.litrs_build.specs.declared.error.BuildError.TheVariants.{NotASuffix, HasNul, NotRaw, NotAFloat, Memory}

-- The bytes that `Display` writes for the error. An index is in decimal.
abbrev pub build_error_text : BuildError → List ℕ
build_error_text NotASuffix = codes "not a suffix"
build_error_text (HasNul at) = codes "NUL at byte " ++ (decimal at ++ codes " of a C string")
build_error_text NotRaw = codes "not the value of a raw string"
build_error_text NotAFloat = codes "not the parts of a float"
build_error_text Memory = codes "out of memory"
