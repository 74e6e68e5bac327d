-- The bytes that are left.
use Rattle.std.proofs.Common.{length}
use Rattle.litrs_build.proofs.byte_strings.bytes_len.Given as goal

abbrev pub decreases-loop-rest : goal.decreases-loop-rest
decreases-loop-rest l = length l.rest
