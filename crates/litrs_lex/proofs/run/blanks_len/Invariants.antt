use Rattle.std.proofs.Common.{◌≡◌, ◌+◌, ◌-◌, ◌≤◌, length, drop}
use Rattle.std.specs.List.{prefix_len}
use Rattle.litrs_base.specs.Characters.{is_blank}
use Rattle.litrs_lex.proofs.run.blanks_len.Given as goal

abbrev pub invariant-loop-len : goal.invariant-loop-len
invariant-loop-len l =
    (prefix_len is_blank l.bytes ≡ l.len + prefix_len is_blank (drop l.len l.bytes)) × (l.len ≤ length l.bytes)

abbrev pub decreases-loop-len : goal.decreases-loop-len
decreases-loop-len l = length l.bytes - l.len
