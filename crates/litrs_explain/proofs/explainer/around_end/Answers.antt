-- The place after which no other is nearer is not before `at`.
use Rattle.std.proofs.Common.{◌≤◌, inl, inr, arith}
use Rattle.std.proofs.lemmas.Bool.{cases_lt}
use Rattle.litrs_explain.proofs.explainer.around_end.Goals as goal

pub returns-clause-after : goal.returns-clause-after
returns-clause-after c =
    let saturated = c.saturating_add.ensures in
    let within : c.args.at ≤ c.saturating_add.result = omega arith in
    elim (cases_lt c.floor_char_boundary.result c.args.at) [
      | inl less ↦ absurd (c.floor_char_boundary.ensures.nearest c.args.at less within c.requires)
      | inr more ↦ more
    ]
