-- By the first letter.
use Rattle.std.proofs.Common.{sym, ap, ◌∙◌}
use Rattle.std.specs.Prelude.{codes}
use Rattle.litrs_base.specs.Text.{begins_with}
use Rattle.litrs.proofs.KindErrors.{c_refused, other_refused}
use Rattle.litrs.proofs.other_refusal.Goals as goal

pub returns-then-begins_with : goal.returns-then-begins_with
returns-then-begins_with c =
    c_refused c.args.text.now c.utf8.text c.requires
    (ap (begins_with (codes "c")) (sym c.as_bytes.ensures.value) ∙ sym c.if-begins_with.ensures)

pub returns-else-begins_with : goal.returns-else-begins_with
returns-else-begins_with c =
    other_refused c.args.text.now c.utf8.text c.requires
    (ap (begins_with (codes "c")) (sym c.as_bytes.ensures.value) ∙ sym c.if-begins_with.ensures)
