-- The remarks so far are written.
use Rattle.std.specs.Prelude.{map, take}
use Rattle.std.specs.Fmt.{HasWritten, IsPlainFormatter}
use Rattle.std.specs.List.{flat_map}
use Rattle.std.specs.Str.{encode_utf8_all}
use Rattle.litrs_diagnostic.specs.Diagnostic.{remark_text}
use Rattle.litrs_diagnostic.specs.Rows.{remark_of}
use Rattle.litrs_diagnostic.proofs.remarks.write_remarks.Given as goal

abbrev pub invariant-loop-remark : goal.invariant-loop-remark
invariant-loop-remark g l =
    IsPlainFormatter l.initial.f → HasWritten g.W.Write.write_str_gives l.initial.f
    (encode_utf8_all (flat_map (remark_text l.fn.frame.is_colored l.fn.frame.margin)
    (map remark_of (take l.remark-index l.remarks)))) l.f
