use Rattle.std.proofs.Common.{◌≡◌, ◌++◌, ◌≤◌, length, Ok}
use Rattle.litrs_lines.specs.Lines.{HasNoLineFeed, ended_lines, open_line}
use Rattle.litrs_lines.specs.Sent.{Leaves}
use Rattle.litrs_lines.proofs.LinesLemmas.{TakesOn}
use Rattle.litrs_lines.proofs.gather.Given as goal

abbrev pub invariant-loop-end : goal.invariant-loop-end
invariant-loop-end g l = record {
  within : length l.rest ≤ length l.piece;
  unended : HasNoLineFeed l.line.items;
  leaves : open_line (l.initial.line.items ++ l.piece) ≡ open_line (l.line.items ++ l.rest);
  takes : Leaves g.O.Output.contents g.O.Output.has_failed g.O.Output.write_failed (Ok tt) l.initial.reporter l.reporter
      (TakesOn l.initial.reporter.collector.now (ended_lines (l.initial.line.items ++ l.piece)) (ended_lines (l.line.items ++ l.rest)));
}

abbrev pub decreases-loop-end : goal.decreases-loop-end
decreases-loop-end g l = length l.rest
