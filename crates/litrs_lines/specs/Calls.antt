-- The calls of a device over memory, which fail from a given number on.
use Rattle.std.specs.Prelude.{ℕ, ◌+◌, ◌-◌, ◌^◌, min, Bool, false, nat_le, Option, Some, None}
use Rattle.litrs_lines.specs.declared.device_calls.Calls.{Calls}

-- No call was made.
abbrev pub fresh_calls : Option ℕ → Calls
fresh_calls fail_at = record { fail_at = fail_at; made = 0 }

-- `true` iff the call of this number fails.
abbrev pub fails_at : Option ℕ → ℕ → Bool
fails_at None number = false
fails_at (Some first) number = nat_le first number

-- `true` iff the next call fails.
abbrev pub next_fails : Calls → Bool
next_fails calls = fails_at calls.fail_at calls.made

-- The calls after one more call. The greatest number remains.
abbrev pub after_call : Calls → Calls
after_call calls = record calls { made = min (calls.made + 1) (2 ^ 64 - 1) }
