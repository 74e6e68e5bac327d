-- Decimal digits alone, or any number.
use Rattle.std.proofs.Common.{sym}
use Rattle.litrs_base.specs.declared.integer.IntegerBase.TheVariants.{Decimal}
use Rattle.litrs_lex.proofs.NumberBytes.{few_decimal_digits, digits_are_an_integer}
use Rattle.litrs_lex.proofs.number.cut_number.Goals as goal

pub returns-then-are_few_digits-clause-ok : goal.returns-then-are_few_digits-clause-ok
returns-then-are_few_digits-clause-ok c =
    let bytes = c.args.input.now in
    digits_are_an_integer Decimal bytes c.utf8.input c.requires
    (few_decimal_digits c.as_bytes.result.now bytes c.as_bytes.ensures.value (sym c.if-are_few_digits.ensures))
