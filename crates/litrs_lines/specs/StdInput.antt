-- Inputs over readers.
use Rattle.std.specs.Prelude.{Bool, false}
use Rattle.litrs_lines.specs.declared.std_input.StdInput.{StdInput}

-- An input of which no call has failed.
abbrev pub unfailed_input : {R : Type 0} → R → StdInput R
unfailed_input reader = record { reader = reader; failed = false }

-- The reader in its current state.
abbrev pub reader_of : {R : Type 0} → StdInput R → R
reader_of input = input.reader

-- `true` iff a call has failed.
abbrev pub failed_of : {R : Type 0} → StdInput R → Bool
failed_of input = input.failed
