-- The piece ends at a character, and each shorter one from what opens on is a literal.
use Rattle.litrs_prefix.proofs.Words.{◌-◌, ◌<◌, length, take, chars, IsCharBoundary, IsPiece}
use Rattle.litrs_prefix.proofs.extent.malformed_len.Given as goal

abbrev pub invariant-loop-len : goal.invariant-loop-len
invariant-loop-len l = IsCharBoundary l.text l.len × IsPiece (chars l.text) (chars (take l.len l.text)) × (0 < l.len)

abbrev pub decreases-loop-len : goal.decreases-loop-len
decreases-loop-len l = length l.text - l.len
