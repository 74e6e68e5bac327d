-- By what ends the items of the line.
use Rattle.std.proofs.Common.{ℕ, List, drop, subst}
use Rattle.std.specs.Prelude.{⊤}
use Rattle.std.specs.Str.{chars}
use Rattle.litrs_base.specs.Quotes.{switches_of}
use Rattle.litrs_lex.specs.BodyStop.{StopsBy}
use Rattle.litrs_lex.specs.declared.body_stop.BodyStop.{BodyStop}
use Rattle.litrs_lines.proofs.OpenBytes.{quoted_reads, shut_after, quote_after}
use Rattle.litrs_lines.proofs.collector.body.quoted_line.Goals as goal

pub ended_line-requires : goal.ended_line-requires
ended_line-requires c =
    let kind = c.args.kind in
    let text : List ℕ = c.args.text.now in
    let end : ℕ = c.stop_of-end.result.0 in record {
      read = quoted_reads kind c.args.place end text (λ _. ⊤) c.utf8.text c.requires c.stop_of-end.ensures.ends;
      ends = subst (λ (s : BodyStop). StopsBy (switches_of kind) (chars (drop end text)) s) c.in-Ended.is c.stop_of-end.ensures.stops;
    }

pub returns-in-Quote : goal.returns-in-Quote
returns-in-Quote c =
    let kind = c.args.kind in
    let text : List ℕ = c.args.text.now in
    let end : ℕ = c.stop_of-end.result.0 in
    quote_after kind end text c.utf8.text (quoted_reads kind c.args.place end text (λ _. ⊤) c.utf8.text c.requires c.stop_of-end.ensures.ends)
    (subst (λ (s : BodyStop). StopsBy (switches_of kind) (chars (drop end text)) s) c.in-Quote.is c.stop_of-end.ensures.stops)

pub returns-in-Refused : goal.returns-in-Refused
returns-in-Refused c =
    let kind = c.args.kind in
    let text : List ℕ = c.args.text.now in
    let end : ℕ = c.stop_of-end.result.0 in
    let stops = subst (λ (s : BodyStop). StopsBy (switches_of kind) (chars (drop end text)) s) c.in-Refused.is c.stop_of-end.ensures.stops in
    shut_after kind end text c.utf8.text (quoted_reads kind c.args.place end text (λ _. ⊤) c.utf8.text c.requires c.stop_of-end.ensures.ends) stops.2
