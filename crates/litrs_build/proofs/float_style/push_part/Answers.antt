-- Without a case, the digits are written as they are.
use Rattle.std.proofs.Common.{ℕ, List, ◌++◌, string_bytes, sym, ap, ◌∙◌}
use Rattle.std.specs.Prelude.{filter, Option}
use Rattle.litrs_base.specs.Numeral.{is_no_underscore}
use Rattle.litrs_build.specs.RewrittenFloat.{regrouped}
use Rattle.litrs_build.specs.WrittenDigits.{grouped}
use Rattle.litrs_build.proofs.RewrittenFloats.{without_case}
use Rattle.litrs_build.proofs.float_style.push_part.Goals as goal

pub returns-in_ok-push_cased_groups-in-Some : goal.returns-in_ok-push_cased_groups-in-Some
returns-in_ok-push_cased_groups-in-Some c =
    let old = string_bytes c.args.text.now in
    let digits = c.args.digits.now in
    c.in_ok-push_cased_groups-in-Some.ensures
    ∙ (ap (λ (t : List ℕ). old ++ grouped c.in-Some.group t)
    (without_case (filter is_no_underscore digits))
    ∙ ap (λ (g : Option ℕ). old ++ regrouped g digits) (sym c.in-Some.is))
