use Rattle.std.proofs.Common.{ap, ◌∙◌}
use Rattle.litrs_c.specs.Names.{zero_ended}
use Rattle.litrs_c.proofs.Names.{kind_named, kind_unknown}
use Rattle.litrs_c.proofs.static_texts.litrs_get_kind_name.Goals as goal

pub returns-clause-named : goal.returns-clause-named
returns-clause-named c =
    λ k is. c.kind_name.ensures ∙ ap zero_ended (kind_named k c.args.kind is)

pub returns-clause-unknown : goal.returns-clause-unknown
returns-clause-unknown c =
    λ outside. c.kind_name.ensures ∙ ap zero_ended (kind_unknown c.args.kind outside)
