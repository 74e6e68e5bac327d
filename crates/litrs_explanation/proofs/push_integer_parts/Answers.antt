-- The lines are those on the parts.
use Rattle.std.proofs.Common.{◌≡◌, ◌++◌, ap, ◌∙◌, codes, string_bytes}
use Rattle.std.specs.Fmt.{decimal}
use Rattle.litrs_base.specs.Base.{base_value}
use Rattle.litrs.specs.IntegerLiteral.{integer_parts}
use Rattle.litrs_explanation.specs.Explanation.{integer_fields}
use Rattle.litrs_explanation.proofs.Appending.{appended_as}
use Rattle.litrs_explanation.proofs.Explained.{part_is, integer_made}
use Rattle.litrs_explanation.proofs.push_integer_parts.Goals as goal

pub returns : goal.returns
returns g c =
    let d = integer_parts c.args.lit.now in
    let value = c.args.value.now in
    let base = c.format-base.result.now in
    let digits = c.raw_main_part-digits.result.now in
    let names = c.args.names.now in
    appended_as (string_bytes c.args.out.now) (string_bytes c.push_texts.new.out) c.push_texts.result
    (λ lines. lines ≡ codes "  value " ++ (value ++ (codes "\n  base " ++ (base ++ (codes "\n  digits " ++ (digits ++ (codes "\n  fits" ++ (names ++ codes "\n"))))))))
    (λ lines. lines ≡ integer_fields d)
    (λ lines made. integer_made value base digits names lines d c.requires.value
    (c.format-base.ensures.text ∙ ap decimal (c.value.ensures ∙ ap base_value c.base.ensures))
    (part_is digits _ c.raw_main_part-digits.utf8 c.raw_main_part-digits.ensures) c.requires.names made)
    c.push_texts.ensures
