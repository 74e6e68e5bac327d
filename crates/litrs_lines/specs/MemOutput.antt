-- Outputs over memory.
use Rattle.std.specs.Prelude.{ℕ, ◌-◌, List, Bool, length}
use Rattle.litrs_lines.specs.declared.device_calls.Calls.{Calls}
use Rattle.litrs_lines.specs.declared.mem_output.MemOutput.{MemOutput}

-- The bytes that were written.
abbrev pub bytes_of : MemOutput → List ℕ
bytes_of output = output.bytes.items

-- The number of bytes that fit.
abbrev pub room_of : MemOutput → ℕ
room_of output = output.room

-- The number of bytes that can still be written.
abbrev pub room_left : MemOutput → ℕ
room_left output = room_of output - length (bytes_of output)

-- The greatest number of bytes that a call moves.
abbrev pub piece_of : MemOutput → ℕ
piece_of output = output.piece

-- The calls that were made.
abbrev pub calls_of : MemOutput → Calls
calls_of output = output.calls

-- `true` iff a call has failed.
abbrev pub failed_of : MemOutput → Bool
failed_of output = output.failed

-- `true` iff a write has failed.
abbrev pub write_failed_of : MemOutput → Bool
write_failed_of output = output.write_failed

-- `true` iff nothing was written after the last flush.
abbrev pub flushed_of : MemOutput → Bool
flushed_of output = output.flushed
