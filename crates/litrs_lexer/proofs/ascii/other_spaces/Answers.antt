-- The mask of the comparisons is that of the bytes that are not of the class.
use Rattle.std.proofs.Common.{w8, arith}
use Rattle.std.proofs.lemmas.Simd.{length-chunk, chunk-fits}
use lib.Lanes.{chunk}
use Rattle.litrs_lexer.proofs.Lanes.{space_marks}
use Rattle.litrs_lexer.proofs.ascii.other_spaces.Goals as goal

pub returns : goal.returns
returns c =
    let bytes = c.args.bytes.now in
    space_marks (chunk 0 16 bytes) 16 (length-chunk 0 16 bytes (omega arith)) (omega arith) (chunk-fits w8 0 16 bytes c.type_inv.bytes)
