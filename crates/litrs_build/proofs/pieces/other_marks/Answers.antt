-- The lanes are those of the first 16 bytes.
use Rattle.std.proofs.Common.{w8, arith}
use Rattle.std.proofs.lemmas.Simd.{length-chunk, chunk-fits}
use lib.Lanes.{chunk}
use Rattle.litrs_build.proofs.PlainLanes.{marks_other}
use Rattle.litrs_build.proofs.pieces.other_marks.Goals as goal

pub returns : goal.returns
returns c =
    let bytes = c.args.bytes.now in
    marks_other c.args.charset (chunk 0 16 bytes) 16 _ (length-chunk 0 16 bytes (omega arith))
    (omega arith) (chunk-fits w8 0 16 bytes c.type_inv.bytes) c.last_plain.ensures
