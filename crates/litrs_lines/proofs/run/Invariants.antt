use Rattle.std.proofs.Common.{◌≡◌, [], false}
use Rattle.std.specs.Prelude.{string_bytes}
use Rattle.litrs_lines.proofs.LinesLemmas.{AreReadsOrNone, RunsOn}
use Rattle.litrs_lines.proofs.run.Given as goal

abbrev pub invariant-loop-turn : goal.invariant-loop-turn
invariant-loop-turn g l = record {
  reader_works : g.I.Input.has_failed l.reader ≡ false;
  writer_works : g.O.Output.has_failed l.writer ≡ false;
  written : string_bytes l.unwritten ≡ [];
  reads : AreReadsOrNone g.I.Input.are_reads l._turn l.initial.reader l.reader;
  runs : RunsOn (g.I.Input.remaining l.initial.reader) (g.I.Input.remaining l.reader) (g.O.Output.contents l.initial.writer) (g.O.Output.contents l.writer) l.line.items l.collector l._turn;
}
