-- The closure tests each byte and changes nothing.
use Rattle.std.proofs.Common.{ap, ◌∙◌, filter, rules}
use Rattle.std.proofs.lemmas.Fn.{filter_same}
use Rattle.litrs.specs.Numeral.{is_no_underscore}
use Rattle.litrs_value.proofs.floats.without_underscores.Goals as goal

pub returns : goal.returns
returns c =
    filter_same _ is_no_underscore _ (λ x b f' k. search rules) _ _ c.retain.ensures.filtered
    ∙ ap (filter is_no_underscore) c.in_ok-digits.ensures.items
