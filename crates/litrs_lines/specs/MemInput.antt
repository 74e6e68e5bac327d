-- Inputs over memory.
use Rattle.std.specs.Prelude.{ℕ, List, Bool}
use Rattle.litrs_lines.specs.declared.device_calls.Calls.{Calls}
use Rattle.litrs_lines.specs.declared.mem_input.MemInput.{MemInput}

-- The bytes that are left.
abbrev pub left_of : MemInput → List ℕ
left_of input = input.rest.now

-- The greatest number of bytes that a call moves.
abbrev pub piece_of : MemInput → ℕ
piece_of input = input.piece

-- The calls that were made.
abbrev pub calls_of : MemInput → Calls
calls_of input = input.calls

-- `true` iff a call has failed.
abbrev pub failed_of : MemInput → Bool
failed_of input = input.failed
