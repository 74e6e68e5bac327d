-- The three lines, one after the other.
use Rattle.std.proofs.Common.{rules, ap, ◌∙◌}
use Rattle.std.proofs.Output.{has_written_append, has_written_of_eq}
use Rattle.litrs_diagnostic.specs.Colors.{opening}
use Rattle.litrs_diagnostic.specs.Rows.{message_of}
use Rattle.litrs_diagnostic.proofs.Written.{heading_bytes}
use Rattle.litrs_diagnostic.proofs.text.write_heading.Goals as goal

pub returns : goal.returns
returns g c = λ plain ok.
    let frame = c.args.frame in
    let one = c.write.ensures.writes plain (search rules) in
    let two = c.write-2.ensures.writes one.plain (search rules) in
    let three = c.write-3.ensures.writes two.plain ok in
    let color = c.opening-color.ensures ∙ ap (opening frame.is_colored) c.color.ensures in
    has_written_of_eq _ _ _ _ _ (heading_bytes frame.is_colored frame.margin
    c.args.first.line c.args.first.column c.opening-color.result.now
    c.word-level.result.now c.closing-plain.result.now c.opening-blue.result.now
    (message_of c.args.diagnostic.now) c.requires.margin c.requires.line c.requires.column
    color c.word-level.ensures c.closing-plain.ensures
    c.opening-blue.ensures)
    (has_written_append _ _ _ _ _ _ (has_written_append _ _ _ _ _ _ one two) three)
