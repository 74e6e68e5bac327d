-- One part after another.
use Rattle.std.proofs.Common.{ℕ, List, ◌++◌, ap, ◌∙◌}
use Rattle.std.specs.Str.{chars}
use Rattle.std.proofs.lemmas.Str.{chars-nil}
use Rattle.litrs_build.proofs.FloatLemmas.{four_parts}
use Rattle.litrs_build.proofs.floats.written_text.Goals as goal

pub returns : goal.returns
returns c =
    four_parts _ _ _ _ (chars c.args.integer.now) _ (chars c.args.exponent.now)
    (chars c.args.suffix.now)
    (c.in_ok-push_part.ensures
    ∙ ap (λ (t : List ℕ). t ++ chars c.args.integer.now) (ap chars c.in_ok-text.ensures.bytes
    ∙ chars-nil))
    c.in_ok-push_fraction.ensures c.in_ok-push_part-2.ensures c.in_ok-push_part-3.ensures
