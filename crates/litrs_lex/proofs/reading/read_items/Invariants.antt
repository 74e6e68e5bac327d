-- The state of the loop is one that is handed on, and the sink has no less room than at first.
use Rattle.std.proofs.Common.{◌-◌, ◌≤◌, length}
use Rattle.litrs_lex.specs.Reading.{IsReading}
use Rattle.litrs_lex.proofs.reading.read_items.Given as goal

abbrev pub invariant-loop-switches : goal.invariant-loop-switches
invariant-loop-switches g l =
    (g.S.Sink.room l.fn.sink ≤ g.S.Sink.room l.sink)
    × IsReading l.switches l.input l.offset (g.S.Sink.holds l.sink) (record { at = l.at; place = l.place; mask = l.mask })

abbrev pub decreases-loop-switches : goal.decreases-loop-switches
decreases-loop-switches g l = length l.input - l.at
