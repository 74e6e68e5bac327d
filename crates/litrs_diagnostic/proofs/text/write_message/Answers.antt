-- The heading, the rows and the remarks.
use Rattle.std.proofs.Common.{rules}
use Rattle.std.proofs.Output.{has_written_append, has_written_of_eq}
use Rattle.litrs_diagnostic.specs.Rows.{message_of}
use Rattle.litrs_diagnostic.proofs.RowLines.{message_bytes}
use Rattle.litrs_diagnostic.proofs.text.write_message.Goals as goal

pub returns : goal.returns
returns g c = λ plain ok.
    let m = message_of c.args.diagnostic.now in
    let one = c.write_heading.ensures plain (search rules) in
    let two = c.write_rows.ensures one.plain (search rules) in
    let three = c.write.ensures.writes two.plain ok in
    has_written_of_eq _ _ _ _ _
    (message_bytes c.args.is_colored c.margin.result m c.margin.ensures)
    (has_written_append _ _ _ _ _ _ (has_written_append _ _ _ _ _ _ one two) three)
