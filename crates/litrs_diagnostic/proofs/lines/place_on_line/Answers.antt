-- The text can be cut before its last line end.
use Rattle.std.proofs.Common.{length}
use Rattle.std.proofs.lemmas.Str.{IsCharBoundary-at_seam}
use Rattle.litrs_diagnostic.proofs.Cuts.{boundary_of_min}
use Rattle.litrs_diagnostic.proofs.lines.place_on_line.Goals as goal

pub before_line_end-requires : goal.before_line_end-requires
before_line_end-requires c =
    let text = c.args.text.now in
    let line = c.without_line_end.result.now in
    let front = c.without_line_end.ensures.front in
    boundary_of_min text c.args.place (length line) c.min.result c.min.ensures c.requires
    (IsCharBoundary-at_seam text line front.0 front.2 front.1)
