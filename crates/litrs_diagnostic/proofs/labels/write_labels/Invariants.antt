-- The rows of the labels so far are written.
use Rattle.std.proofs.Common.{◌≡◌, take, map}
use Rattle.std.specs.Fmt.{HasWritten, IsPlainFormatter}
use Rattle.std.specs.Str.{encode_utf8_all}
use Rattle.litrs_diagnostic.specs.Label.{rows_between}
use Rattle.litrs_diagnostic.specs.Row.{below_rows, rows_text}
use Rattle.litrs_diagnostic.specs.Rows.{label_of}
use Rattle.litrs_diagnostic.proofs.labels.write_labels.Given as goal

abbrev pub invariant-loop-label : goal.invariant-loop-label
invariant-loop-label g l =
    let rows = rows_between l.diagnostic.first_line l.diagnostic.width l.fn.from l.fn.to
    (map label_of (take l.label-index l.labels)) in
    (l.below ≡ below_rows l.fn.above rows)
    × (IsPlainFormatter l.initial.f → HasWritten g.W.Write.write_str_gives l.initial.f
    (encode_utf8_all (rows_text l.fn.frame.is_colored l.fn.frame.margin l.fn.above rows)) l.f)
