-- By whether the character is printable.
use Rattle.std.proofs.Common.{sym, ◌∙◌}
use Rattle.std.proofs.lemmas.Result.{on_ok_weaker}
use Rattle.litrs_explanation.proofs.Explained.{plain_pushed, number_pushed}
use Rattle.litrs_explanation.proofs.push_escaped.Goals as goal

pub returns-then-is_printable : goal.returns-then-is_printable
returns-then-is_printable c =
    plain_pushed c.push.result c.args.c _ _ (sym c.is_printable.ensures ∙ c.if-is_printable.true)
    c.push.ensures.bytes

pub returns-else-is_printable : goal.returns-else-is_printable
returns-else-is_printable c =
    on_ok_weaker c.write.result
    (number_pushed c.args.c c.from-number.result _ _ _ (sym c.is_printable.ensures ∙ c.if-is_printable.false)
    c.from-number.ensures c.in_radix.ensures) c.write.ensures.bytes
