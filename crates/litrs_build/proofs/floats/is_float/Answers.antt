-- The bytes of the integer part are its characters.
use Rattle.std.proofs.Common.{◌≡◌, true, false, sym, ap, ◌∙◌}
use Rattle.std.specs.Str.{chars}
use Rattle.litrs_grammar.specs.Float.{is_decimal_literal}
use Rattle.litrs_build.proofs.FloatLemmas.{decimal-chars, and_true}
use Rattle.std.proofs.lemmas.Bool.{and_left}
use Rattle.litrs_build.proofs.floats.is_float.Goals as goal

pub returns-then-is_decimal_literal : goal.returns-then-is_decimal_literal
returns-then-is_decimal_literal c =
    let integer = c.args.integer.now in
    let decimal : is_decimal_literal (chars integer) ≡ true =
    decimal-chars integer c.utf8.integer
    ∙ (ap is_decimal_literal (sym c.as_bytes.ensures.value)
    ∙ (sym c.is_decimal_literal.ensures ∙ c.if-is_decimal_literal.true)) in
    c.fits_after_integer.ensures ∙ sym (and_true (is_decimal_literal (chars integer)) _ decimal)

pub returns-else-is_decimal_literal : goal.returns-else-is_decimal_literal
returns-else-is_decimal_literal c =
    let integer = c.args.integer.now in
    let decimal : is_decimal_literal (chars integer) ≡ false =
    decimal-chars integer c.utf8.integer
    ∙ (ap is_decimal_literal (sym c.as_bytes.ensures.value)
    ∙ (sym c.is_decimal_literal.ensures ∙ c.if-is_decimal_literal.false)) in
    c.if-is_decimal_literal.false ∙ sym (and_left (is_decimal_literal (chars integer)) _ decimal)
