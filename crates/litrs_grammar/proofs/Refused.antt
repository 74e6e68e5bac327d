-- A row of the table refuses the text.
use Rattle.std.proofs.Common.{◌≡◌, true, ℕ, List, sym, subst}
use Rattle.std.specs.Prelude.{◌↔◌}
use Rattle.litrs_base.specs.declared.err.ParseError.{ParseError}
use Rattle.litrs_base.specs.Refusal.{refusal_of, kind_of, HasCharSpan}
use Rattle.litrs_base.specs.Finality.{is_open}
use Rattle.litrs_base.proofs.CharEnds.{char_span_points}
use Rattle.litrs_grammar.specs.Literal.{Parse, Begins}
use Rattle.litrs_grammar.specs.LiteralRefusals.{IsRefusal}
use Rattle.litrs_grammar.specs.Refused.{IsRefused}
use Rattle.litrs_grammar.proofs.Laws.Literal.{literals_are_not_refused, refusals_are_unique}
use Rattle.litrs_grammar.proofs.Spans.Literal.{refusal_spans_lie_in_text}
use Rattle.litrs_grammar.proofs.LongerTexts.Literal.{final_refusals_stay, open_refusals_close, line_ends_are_decided}

pub is_refused : (parse : Parse) (t : List ℕ) (e : ParseError) → IsRefusal parse t (refusal_of e) → HasCharSpan t e → IsRefused parse t e
is_refused parse t e table ends = record {
  none = λ d r. literals_are_not_refused parse t d (refusal_of e) r table;
  table = table;
  only = λ r other. refusals_are_unique parse t r (refusal_of e) other table;
  span = refusal_spans_lie_in_text parse t (refusal_of e) table;
  char_span = ends;
  char_ends = char_span_points t e (refusal_spans_lie_in_text parse t (refusal_of e) table) ends;
  final = λ final. final_refusals_stay parse t (refusal_of e) table final;
  closes = λ shut. open_refusals_close parse t (refusal_of e) table shut;
  line_end = λ line is. subst (λ l. (is_open (kind_of e) ≡ true) ↔ Begins parse l) is
      (line_ends_are_decided parse line (refusal_of e) (subst (λ l. IsRefusal parse l (refusal_of e)) (sym is) table));
}
