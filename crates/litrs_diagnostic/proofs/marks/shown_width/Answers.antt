-- The width of each form.
use Rattle.std.proofs.Common.{arith, ℕ, Option, length, sym, ap, ◌∙◌, unwrap_or}
use Rattle.std.proofs.lemmas.Bool.Decides.{nat_tests}
use Rattle.litrs_diagnostic.proofs.Widths.{tab_width, printable_width, escape_width, escape_count}
use Rattle.litrs_diagnostic.proofs.PlainText.{plain_width}
use Rattle.litrs_diagnostic.proofs.marks.shown_width.Goals as goal

pub returns-then-matches : goal.returns-then-matches
returns-then-matches c = plain_width c.args.c (grind (arith, nat_tests))

pub returns-then-c-eq9 : goal.returns-then-c-eq9
returns-then-c-eq9 c = tab_width c.args.c c.if-c-eq9.true

pub returns-then-is_printable : goal.returns-then-is_printable
returns-then-is_printable c =
    c.unwrap_or.ensures ∙ (ap (λ (o : Option ℕ). unwrap_or o 0) c.width.ensures.value
    ∙ printable_width c.args.c c.if-c-eq9.false (sym c.is_printable.ensures
    ∙ c.if-is_printable.true))

pub returns : goal.returns
returns c =
    escape_count c.escape_unicode.result c.count.result c.count.ensures.ran
    ∙ (ap length c.escape_unicode.ensures.rest
    ∙ escape_width c.args.c c.if-c-eq9.false (sym c.is_printable.ensures ∙ c.if-is_printable.false))
