-- The front is printable ASCII, and ends a character.
use Rattle.std.proofs.Common.{ap, ◌∙◌}
use Rattle.std.specs.List.{prefix_len}
use Rattle.litrs_diagnostic.specs.Shown.{is_plain}
use Rattle.litrs_diagnostic.proofs.PlainText.{plain_cut, plain_parts}
use Rattle.litrs_diagnostic.proofs.marks.split_plain.Goals as goal

pub split_at-requires : goal.split_at-requires
split_at-requires c =
    plain_cut c.args.text.now c.plain_len.result c.utf8.text
    (c.plain_len.ensures ∙ ap (prefix_len is_plain) c.as_bytes.ensures.value)

pub returns-clause-plain : goal.returns-clause-plain
returns-clause-plain c =
    (plain_parts c.args.text.now c.split_at.result.0.now c.split_at.result.1.now
    c.plain_len.result c.utf8.text (c.plain_len.ensures
    ∙ ap (prefix_len is_plain) c.as_bytes.ensures.value) c.split_at.ensures.front
    c.split_at.ensures.back).0

pub returns-clause-parts : goal.returns-clause-parts
returns-clause-parts c =
    (plain_parts c.args.text.now c.split_at.result.0.now c.split_at.result.1.now
    c.plain_len.result c.utf8.text (c.plain_len.ensures
    ∙ ap (prefix_len is_plain) c.as_bytes.ensures.value) c.split_at.ensures.front
    c.split_at.ensures.back).1
