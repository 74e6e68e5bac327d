use Rattle.litrs_grammar.proofs.Spans.Quoted.{quoted_spans_lie_in_text}
use Rattle.litrs_grammar.proofs.quoted.quoted_spans_lie_in_text.Goals as goal

pub returns : goal.returns
returns c = quoted_spans_lie_in_text
