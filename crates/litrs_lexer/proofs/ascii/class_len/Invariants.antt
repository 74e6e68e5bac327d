-- All bytes that were passed are of the class.
use Rattle.std.proofs.Common.{◌≡◌, ◌+◌, ◌-◌, ◌≤◌, length, drop}
use Rattle.std.specs.List.{prefix_len}
use Rattle.litrs_lexer.specs.Cut.{is_of_class}
use Rattle.litrs_lexer.proofs.ascii.class_len.Given as goal

abbrev pub invariant-loop-len : goal.invariant-loop-len
invariant-loop-len l = (prefix_len (is_of_class l.class) l.bytes ≡ l.len + prefix_len (is_of_class l.class) (drop l.len l.bytes)) × (l.len ≤ length l.bytes)

abbrev pub decreases-loop-len : goal.decreases-loop-len
decreases-loop-len l = length l.bytes - l.len
