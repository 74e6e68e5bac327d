-- The lines are printable.
use Rattle.std.proofs.Common.{◌≡◌, sym, subst, string_bytes}
use Rattle.litrs.specs.IntegerLiteral.{integer_parts}
use Rattle.litrs_explanation.specs.Explanation.{integer_fields, Shows}
use Rattle.litrs_explanation.proofs.Appending.{appended_as}
use Rattle.litrs_explanation.proofs.Printed.{integer_shows}
use Rattle.litrs_explanation.proofs.push_integer.Goals as goal

pub returns-in-Some : goal.returns-in-Some
returns-in-Some g c =
    let d = integer_parts c.args.lit.now in
    appended_as (string_bytes c.args.out.now) (string_bytes c.push_integer_parts.new.out) c.push_integer_parts.result
    (λ lines. lines ≡ integer_fields d) (λ lines. (lines ≡ integer_fields d) × Shows lines)
    (λ lines is. (is, subst Shows (sym is) (integer_shows d c.raw_input.ensures.literal.grammar)))
    c.push_integer_parts.ensures

pub returns-in-None : goal.returns-in-None
returns-in-None g c =
    let d = integer_parts c.args.lit.now in
    appended_as (string_bytes c.args.out.now) (string_bytes c.push_integer_parts-in-None.new.out)
    c.push_integer_parts-in-None.result
    (λ lines. lines ≡ integer_fields d) (λ lines. (lines ≡ integer_fields d) × Shows lines)
    (λ lines is. (is, subst Shows (sym is) (integer_shows d c.raw_input.ensures.literal.grammar)))
    c.push_integer_parts-in-None.ensures
