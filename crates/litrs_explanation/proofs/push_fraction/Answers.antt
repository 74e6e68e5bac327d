-- The line is that on the digits.
use Rattle.std.proofs.Common.{◌≡◌, codes, string_bytes}
use Rattle.litrs.specs.FloatLiteral.{float_parts}
use Rattle.litrs_explanation.specs.Explanation.{field, fraction_field}
use Rattle.litrs_explanation.proofs.Appending.{appended_as}
use Rattle.litrs_explanation.proofs.Explained.{fraction_made}
use Rattle.litrs_explanation.proofs.push_fraction.Goals as goal

pub returns-in-Some : goal.returns-in-Some
returns-in-Some g c =
    let fraction = (float_parts c.args.lit.now).fraction in
    appended_as (string_bytes c.args.out.now) (string_bytes c.push_texts.new.out) c.push_texts.result
    (λ line. line ≡ field (codes "fraction") c.in-Some.digits.now) (λ line. line ≡ fraction_field fraction)
    (λ line made. fraction_made c.in-Some.digits.now line fraction c.in-Some.ensures.utf8 c.in-Some.ensures.part made)
    c.push_texts.ensures
