-- The underscore alone, and every other text.
use Rattle.std.proofs.Common.{◌∙◌}
use Rattle.litrs.proofs.Suffixes.{lone_text, other_text}
use Rattle.litrs.proofs.going_on.suffix.suffix_goes_on.Goals as goal

pub returns-in-text : goal.returns-in-text
returns-in-text c = lone_text c.args.suffix.now c.in-text.is

pub returns-in_default : goal.returns-in_default
returns-in_default c = other_text c.args.suffix.now c.is_ok.result c.utf8.suffix
    c.in_default.not-text (c.is_ok.ensures.value ∙ c.check_suffix.ensures.ok)
