-- The empty text has no token.
use Rattle.std.proofs.Common.{ap, ◌∙◌}
use Rattle.std.specs.Str.{chars}
use Rattle.std.proofs.lemmas.Str.{chars-nil}
use Rattle.litrs_lexer.proofs.MayChange.{empty_changes}
use Rattle.litrs_lexer.proofs.may_change.token_may_change.Goals as goal

pub returns-in-None-clause-changes : goal.returns-in-None-clause-changes
returns-in-None-clause-changes c = λ _. empty_changes (chars c.args.text.now) (ap chars c.in-None.ensures.none ∙ chars-nil)
