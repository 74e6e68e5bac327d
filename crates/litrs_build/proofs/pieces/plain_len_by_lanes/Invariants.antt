-- All bytes so far are plain.
use Rattle.std.proofs.Common.{◌≡◌, ◌+◌, ◌-◌, ◌≤◌, length, drop}
use Rattle.std.specs.List.{prefix_len}
use Rattle.litrs_build.specs.Pieces.{is_plain}
use Rattle.litrs_build.proofs.pieces.plain_len_by_lanes.Given as goal

abbrev pub invariant-loop-len : goal.invariant-loop-len
invariant-loop-len l =
    (prefix_len (is_plain l.charset) l.bytes
    ≡ l.len + prefix_len (is_plain l.charset) (drop l.len l.bytes))
    × (l.len ≤ length l.bytes)

abbrev pub decreases-loop-len : goal.decreases-loop-len
decreases-loop-len l = length l.bytes - l.len
