-- Digits, or digits, a period and more digits.
use Rattle.litrs_prefix.proofs.Words.{sym, ◌∙◌}
use Rattle.litrs_prefix.proofs.PlainLiterals.{integer_at, fraction_at}
use Rattle.litrs_prefix.proofs.plain.after_decimal.Goals as goal

pub returns-then-gives_period : goal.returns-then-gives_period
returns-then-gives_period c = record {
  utf8 = c.after_fraction.utf8;
  literal = fraction_at _ _ _ c.requires c.after_digits-rest.ensures (sym c.gives_period.ensures ∙ c.if-gives_period.true) c.after_fraction.ensures;
}

pub returns-else-gives_period : goal.returns-else-gives_period
returns-else-gives_period c = record {
  utf8 = c.after_digits-rest.utf8;
  literal = integer_at _ _ c.requires c.after_digits-rest.ensures (sym c.gives_period.ensures ∙ c.if-gives_period.false);
}
