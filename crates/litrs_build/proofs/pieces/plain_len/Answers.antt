-- If the first byte does not pass, none do.
use Rattle.std.proofs.Common.{sym, ◌∙◌}
use Rattle.litrs_build.specs.Pieces.{is_plain}
use Rattle.litrs_build.proofs.Plain.{none_passes}
use Rattle.litrs_build.proofs.pieces.plain_len.Goals as goal

pub returns-else-begins_plain-clause-len : goal.returns-else-begins_plain-clause-len
returns-else-begins_plain-clause-len c =
    sym (none_passes (is_plain c.args.charset) c.args.bytes.now
    (sym c.begins_plain.ensures ∙ c.if-begins_plain.false))
