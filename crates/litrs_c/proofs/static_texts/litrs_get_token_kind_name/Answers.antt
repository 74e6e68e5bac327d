use Rattle.std.proofs.Common.{ap, ◌∙◌}
use Rattle.litrs_c.specs.Names.{zero_ended}
use Rattle.litrs_c.proofs.Names.{token_named, token_unknown}
use Rattle.litrs_c.proofs.static_texts.litrs_get_token_kind_name.Goals as goal

pub returns-clause-named : goal.returns-clause-named
returns-clause-named c =
    λ k is. c.token_kind_name.ensures ∙ ap zero_ended (token_named k c.args.kind is)

pub returns-clause-unknown : goal.returns-clause-unknown
returns-clause-unknown c =
    λ outside. c.token_kind_name.ensures ∙ ap zero_ended (token_unknown c.args.kind outside)
