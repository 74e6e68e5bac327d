use Rattle.litrs_grammar.proofs.RawClosings.{closings_begin_at_quotes}
use Rattle.litrs_grammar.proofs.raw.closings_begin_at_quotes.Goals as goal

pub returns : goal.returns
returns c = closings_begin_at_quotes
