use Rattle.std.proofs.Common.{◌≡◌, ◌+◌, ◌-◌, ◌≤◌, length, drop}
use Rattle.std.specs.List.{prefix_len}
use Rattle.litrs_lex.specs.Special.{is_ordinary}
use Rattle.litrs_lex.proofs.search.mask_by_lanes.Given as goal

abbrev pub invariant-loop-start : goal.invariant-loop-start
invariant-loop-start l =
    (l.from + prefix_len (is_ordinary l.what) (drop l.from l.bytes) ≡ l.start + prefix_len (is_ordinary l.what) (drop l.start l.bytes)) × (l.start ≤ length l.bytes)
    × (l.from ≤ l.start)

abbrev pub decreases-loop-start : goal.decreases-loop-start
decreases-loop-start l = length l.bytes - l.start
