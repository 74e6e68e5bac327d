-- the bytes before the rest are added
use Rattle.std.proofs.Common.{length, Ok}
use Rattle.litrs_lines.specs.Sent.{Leaves}
use Rattle.litrs_lines.proofs.Sending.{SendsHex}
use Rattle.litrs_lines.proofs.report.send_hex.Given as goal

abbrev pub invariant-loop-rest : goal.invariant-loop-rest
invariant-loop-rest g l =
    Leaves g.O.Output.contents g.O.Output.has_failed g.O.Output.write_failed (Ok tt) l.initial.reporter l.reporter (SendsHex l.initial.reporter.collector.now l.bytes l.rest)

abbrev pub decreases-loop-rest : goal.decreases-loop-rest
decreases-loop-rest g l = length l.rest
