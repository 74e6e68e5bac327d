use Rattle.std.proofs.Common.{ap, ◌∙◌}
use Rattle.litrs_c.specs.Names.{zero_ended}
use Rattle.litrs_c.proofs.Names.{error_named, error_unknown}
use Rattle.litrs_c.proofs.static_texts.litrs_get_error_name.Goals as goal

pub returns-clause-named : goal.returns-clause-named
returns-clause-named c =
    λ k is. c.error_name.ensures ∙ ap zero_ended (error_named k c.args.error is)

pub returns-clause-unknown : goal.returns-clause-unknown
returns-clause-unknown c =
    λ outside. c.error_name.ensures ∙ ap zero_ended (error_unknown c.args.error outside)
