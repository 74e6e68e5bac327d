use Rattle.std.proofs.Common.{◌≡◌, length}
use Rattle.litrs_lines.proofs.LinesLemmas.{WritesOn}
use Rattle.litrs_lines.proofs.write_all.Given as goal

abbrev pub invariant-loop-rest : goal.invariant-loop-rest
invariant-loop-rest g l = record { works : g.O.Output.has_failed l.writer ≡ g.O.Output.has_failed l.initial.writer; writes : WritesOn (g.O.Output.contents l.initial.writer) (g.O.Output.contents l.writer) l.bytes l.rest }

abbrev pub decreases-loop-rest : goal.decreases-loop-rest
decreases-loop-rest g l = length l.rest
