-- The dots, if there is a gap.
use Rattle.std.proofs.Common.{Bool, sym, ap, ◌∙◌}
use Rattle.std.proofs.Output.{has_written_of_eq}
use Rattle.std.specs.Str.{encode_utf8_all}
use Rattle.litrs_diagnostic.specs.Row.{gap_text}
use Rattle.litrs_diagnostic.proofs.Written.{gap_bytes}
use Rattle.litrs_diagnostic.proofs.row.write_gap.Goals as goal

pub returns-then-is_gap : goal.returns-then-is_gap
returns-then-is_gap g c = λ plain ok.
    let frame = c.args.frame in
    has_written_of_eq _ _ _ _ _ (gap_bytes frame.is_colored c.opening-blue.result.now
    c.closing-plain.result.now c.opening-blue.ensures c.closing-plain.ensures
    ∙ ap (λ (b : Bool). encode_utf8_all (gap_text frame.is_colored b)) (sym c.if-is_gap.true))
    (c.write.ensures.writes plain ok)
