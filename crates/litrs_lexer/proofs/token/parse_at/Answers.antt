-- The spans of an error lie in the text, and so do the moved ones in the source.
use Rattle.litrs.specs.Literal.{literal_parse}
use Rattle.litrs.proofs.MovedRefusals.{error_moves}
use Rattle.litrs_lexer.proofs.token.parse_at.Goals as goal

pub offset_span-requires : goal.offset_span-requires
offset_span-requires c = error_moves literal_parse c.args.text.now c.in-Err.error c.args.start c.utf8.text c.requires c.in-Err.ensures.refused

pub returns-in-Err-clause-refused : goal.returns-in-Err-clause-refused
returns-in-Err-clause-refused c = record {
  of_text = c.in-Err.error;
  refused = c.in-Err.ensures.refused;
  refusal = c.offset_span.ensures.refusal;
  char_span = c.offset_span.ensures.char_span;
}
