-- The digits so far, and those that follow in groups, are all digits. After the next group, whole
-- groups follow.
use Rattle.std.proofs.Common.{◌≡◌, ◌≤◌, ◌<◌, ◌-◌, ◌%◌, ◌++◌, length, string_bytes}
use Rattle.std.specs.Str.{IsAscii}
use Rattle.litrs_build.specs.WrittenDigits.{grouped}
use Rattle.litrs_build.proofs.integers.push_groups.Given as goal

abbrev pub invariant-loop-rest : goal.invariant-loop-rest
invariant-loop-rest l = record {
  ascii : IsAscii l.rest;
  some : 0 < l.len;
  few : l.len ≤ l.group;
  whole : l.group < length l.rest → (length l.rest - l.len) % l.group ≡ 0;
  written : string_bytes l.text ++ grouped l.group l.rest
      ≡ string_bytes l.fn.text ++ grouped l.group l.digits;
}

abbrev pub decreases-loop-rest : goal.decreases-loop-rest
decreases-loop-rest l = length l.rest
