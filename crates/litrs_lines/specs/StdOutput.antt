-- Outputs over writers.
use Rattle.std.specs.Prelude.{Bool, false}
use Rattle.litrs_lines.specs.declared.std_output.StdOutput.{StdOutput}

-- An output of which no call has failed.
abbrev pub unfailed_output : {W : Type 0} → W → StdOutput W
unfailed_output writer = record { writer = writer; failed = false }

-- The writer in its current state.
abbrev pub writer_of : {W : Type 0} → StdOutput W → W
writer_of output = output.writer

-- `true` iff a call has failed.
abbrev pub failed_of : {W : Type 0} → StdOutput W → Bool
failed_of output = output.failed
