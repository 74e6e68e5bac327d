-- The lines are those on the value and the parts, and all of them are printable.
use Rattle.std.proofs.Common.{◌≡◌, ◌++◌, ℕ, List, ap, sym, subst, ◌∙◌, append_assoc, codes, string_bytes}
use Rattle.std.proofs.lemmas.Result.{err_from_is_err_and}
use Rattle.litrs.specs.FloatLiteral.{float_parts}
use Rattle.litrs_explanation.specs.Explanation.{field_of_part, IsFloatFields, float_fields, Shows}
use Rattle.litrs_explanation.proofs.Appending.{then_appended}
use Rattle.litrs_explanation.proofs.Explained.{part_is, float_made, float_pieces}
use Rattle.litrs_explanation.proofs.Printed.{float_shows}
use Rattle.litrs_explanation.proofs.push_float.Goals as goal

-- what is appended before an error is not stated
pub returns-in_err-push_fraction : goal.returns-in_err-push_fraction
returns-in_err-push_fraction g c =
    let first = c.in_ok-push_texts.ensures in
    let second = c.in_err-push_fraction.ensures in
    let failed = err_from_is_err_and c.from_residual-in_err-push_fraction.result c.from_residual-in_err-push_fraction.ensures.1 in (
      first.0 ++ second.0,
      second.1 ∙ (ap (λ (t : List ℕ). t ++ second.0) first.1 ∙ append_assoc (string_bytes c.args.out.now) first.0 second.0),
      rw failed.1 tt,
    )

pub returns : goal.returns
returns g c =
    let d = float_parts c.args.lit.now in
    let value = string_bytes c.in_ok-value.value in
    let integer = c.integer_part-integer.result.now in
    let exponent = c.exponent_part.result.now in
    let old = string_bytes c.args.out.now in
    let first = c.in_ok-push_texts.ensures in
    let second = c.in_ok-push_fraction.ensures in
    let text = c.as_str.ensures.value in
    let front : first.0 ≡ codes "  value " ++ (value ++ (codes "\n  integer part " ++ (integer ++ codes "\n"))) =
    first.2 ∙ ap (λ (t : List ℕ). codes "  value " ++ (t ++ (codes "\n  integer part " ++ (integer ++ codes "\n")))) text in
    then_appended old (string_bytes c.push_fraction.new.out) (string_bytes c.push_part.new.out) (first.0 ++ second.0) c.push_part.result
    (λ added. added ≡ field_of_part (codes "exponent") exponent) (λ lines. IsFloatFields d lines × Shows lines)
    (second.1 ∙ (ap (λ (t : List ℕ). t ++ second.0) first.1 ∙ append_assoc old first.0 second.0))
    (λ added was.
    let are : (first.0 ++ second.0) ++ added ≡ float_fields value d =
    float_made value integer second.0 added exponent ((first.0 ++ second.0) ++ added) d
    (part_is integer _ c.integer_part-integer.utf8 c.integer_part-integer.ensures) second.2 was
    (part_is exponent _ c.exponent_part.utf8 c.exponent_part.ensures)
    (ap (λ (t : List ℕ). (t ++ second.0) ++ added) front ∙ float_pieces value integer second.0 added) in (
      (value, c.in_ok-value.ensures, are),
      subst Shows (sym are) (float_shows d value c.raw_input.ensures.literal.grammar c.in_ok-value.ensures),
    ))
    c.push_part.ensures
