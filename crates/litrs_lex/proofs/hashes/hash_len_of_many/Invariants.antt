use Rattle.std.proofs.Common.{◌≡◌, ◌+◌, ◌-◌, ◌≤◌, length, drop}
use Rattle.litrs_grammar.specs.Raw.{hash_len}
use Rattle.litrs_lex.proofs.hashes.hash_len_of_many.Given as goal

abbrev pub invariant-loop-len : goal.invariant-loop-len
invariant-loop-len l = (hash_len l.bytes ≡ l.len + hash_len (drop l.len l.bytes)) × (l.len ≤ length l.bytes)

abbrev pub decreases-loop-len : goal.decreases-loop-len
decreases-loop-len l = length l.bytes - l.len
