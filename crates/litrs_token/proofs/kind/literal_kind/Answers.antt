-- Another front does not begin a literal other than a bool.
use Rattle.litrs_token.proofs.NoTokens.{no_kind}
use Rattle.litrs_token.proofs.kind.literal_kind.Goals as goal

pub returns-in-Empty-clause-none : goal.returns-in-Empty-clause-none
returns-in-Empty-clause-none c =
    no_kind c.of.result c.args.text.now c.utf8.text c.of.ensures c.in-Empty.is
