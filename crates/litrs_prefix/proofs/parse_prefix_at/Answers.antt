-- The spans of an error lie in the source, and so do the moved ones.
use Rattle.litrs_prefix.proofs.Words.{List, ℕ, refl, subst, arith, chars, IsMalformedOrOutOfMemory}
use Rattle.litrs_prefix.proofs.Marks.{moved_marks}
use Rattle.litrs_prefix.proofs.Pieces.{malformed_moves}
use Rattle.litrs_prefix.proofs.parse_prefix_at.Goals as goal

pub offset_span-requires : goal.offset_span-requires
offset_span-requires c =
    malformed_moves c.range_from.result.now c.in-Err.malformed c.args.start c.range_from.utf8 (omega (arith, c.range_from.ensures.len)) c.in-Err.ensures.malformed

pub returns-in-Err-clause-marks : goal.returns-in-Err-clause-marks
returns-in-Err-clause-marks c =
    let is = subst (λ (l : List ℕ). IsMalformedOrOutOfMemory (chars l) c.in-Err.malformed) c.range_from.ensures.value c.in-Err.ensures.malformed in
    moved_marks c.args.source.now c.args.start (record { error = c.offset_span.result; len = c.in-Err.malformed.len }) c.in-Err.malformed c.utf8.source c.requires is refl c.offset_span.ensures.char_span
