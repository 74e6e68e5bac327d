-- The beginning of the text decides the kind of number by which it is refused.
use Rattle.std.proofs.Common.{◌≡◌, true, false, sym, ap, ◌∙◌, arith}
use Rattle.std.proofs.lemmas.Bool.Decides.{nat_tests}
use Rattle.std.proofs.lemmas.Grind.{common_steps}
use Rattle.std.proofs.lemmas.Result.{err_from_is_err_and}
use Rattle.litrs_grammar.specs.LiteralRefusals.{begins_with_float}
use Rattle.litrs_base.specs.declared.integer.IntegerBase.TheVariants.{Hexadecimal}
use Rattle.litrs_grammar.specs.Integer.{base_of}
use Rattle.litrs_lex.proofs.NumberBytes.{refused_by_kind, few_hexadecimal_digits, digits_are_an_integer}
use Rattle.litrs_lex.proofs.number.cut_any_number.Goals as goal

pub returns-in_err-cut_float_at-clause-refused : goal.returns-in_err-cut_float_at-clause-refused
returns-in_err-cut_float_at-clause-refused c =
    let p = err_from_is_err_and c.from_residual.result c.from_residual.ensures.1 in
    rw (p.1, p.2) (refused_by_kind c.args.input.now true _ c.utf8.input
    (ap begins_with_float (sym c.as_bytes-bytes.ensures.value) ∙ sym c.if-begins_with_float.ensures) c.in_err-cut_float_at.ensures.refused)

pub returns-in_err-cut_integer_at-clause-refused : goal.returns-in_err-cut_integer_at-clause-refused
returns-in_err-cut_integer_at-clause-refused c =
    let p = err_from_is_err_and c.from_residual-in_err-cut_integer_at.result c.from_residual-in_err-cut_integer_at.ensures.1 in
    rw (p.1, p.2) (refused_by_kind c.args.input.now false _ c.utf8.input
    (ap begins_with_float (sym c.as_bytes-bytes.ensures.value) ∙ sym c.if-begins_with_float.ensures) c.in_err-cut_integer_at.ensures.refused)

pub returns-in_ok-cut_float_at-clause-ok : goal.returns-in_ok-cut_float_at-clause-ok
returns-in_ok-cut_float_at-clause-ok c = (c.in_ok-cut_float_at.ensures.ok, c.in_ok-cut_float_at.ensures.places)

pub returns-in_ok-cut_integer_at-clause-ok : goal.returns-in_ok-cut_integer_at-clause-ok
returns-in_ok-cut_integer_at-clause-ok c = (c.in_ok-cut_integer_at.ensures.ok, c.in_ok-cut_integer_at.ensures.places)

-- hexadecimal digits alone after the prefix
pub returns-clause-ok : goal.returns-clause-ok
returns-clause-ok c =
    let bytes = c.args.input.now in
    let base : Hexadecimal ≡ base_of bytes = grind (arith, common_steps, nat_tests) in
    digits_are_an_integer Hexadecimal bytes c.utf8.input c.requires
    (few_hexadecimal_digits c.as_bytes-bytes.result.now bytes c.as_bytes-bytes.ensures.value base (sym c.if-are_few_digits.ensures))
