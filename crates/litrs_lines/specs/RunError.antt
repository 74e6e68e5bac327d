-- The errors of a run.
use Rattle.std.specs.Prelude.{ℕ, List, codes}
use Rattle.litrs_lines.specs.declared.RunError.{RunError}
use Rattle.litrs_lines.specs.declared.RunError.TheVariants.{Read, Write, Memory}

-- The message of an error.
abbrev pub run_error_text : RunError → List ℕ
run_error_text Read = codes "read failed"
run_error_text Write = codes "write failed"
run_error_text Memory = codes "out of memory"
