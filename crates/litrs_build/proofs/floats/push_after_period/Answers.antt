-- The period is its own character.
use Rattle.std.proofs.Common.{◌++◌, [], ◌∷◌, ap, ◌∙◌}
use Rattle.std.specs.Prelude.{string_bytes}
use Rattle.std.specs.Str.{chars}
use Rattle.std.proofs.lemmas.List.{append_assoc}
use Rattle.litrs_build.proofs.FloatLemmas.{period-chars}
use Rattle.litrs_build.proofs.floats.push_after_period.Goals as goal

pub returns : goal.returns
returns c =
    let digits = chars c.args.digits.now in
    let old = chars (string_bytes c.args.text.now) in
    c.in_ok-push_part-2.ensures
    ∙ (ap (λ t. t ++ digits) (c.in_ok-push_part.ensures ∙ ap (λ t. old ++ t) period-chars)
    ∙ append_assoc old (46 ∷ []) digits)
