-- The text begins a literal, or is such an integer.
use Rattle.litrs_prefix.proofs.Words.{sym, ◌∙◌, ⊎_elim, chars, true≢false}
use Rattle.litrs_prefix.proofs.MoreText.{goes_on_either, begins_goes_on, period_goes_on}
use Rattle.litrs_prefix.proofs.may_change.prefix_goes_on.Goals as goal

pub returns-then-goes_on : goal.returns-then-goes_on
returns-then-goes_on c = (λ _. begins_goes_on (chars c.args.text.now) (c.goes_on.ensures.0 c.if-goes_on.true), λ _. c.if-goes_on.true)

pub returns-else-goes_on : goal.returns-else-goes_on
returns-else-goes_on c = (
  λ yes. period_goes_on (chars c.args.text.now) (c.is_integer_and_period.ensures.0 yes),
  λ is. ⊎_elim (λ begins. absurd (true≢false (sym (c.goes_on.ensures.1 begins) ∙ c.if-goes_on.false)))
      c.is_integer_and_period.ensures.1 (goes_on_either (chars c.args.text.now) is),
)
