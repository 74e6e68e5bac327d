-- After a step, nothing is held, or lines.
use Rattle.std.proofs.Common.{◌++◌}
use Rattle.std.specs.Prelude.{string_bytes}
use Rattle.litrs_lines.proofs.StepLemmas.{result_is_held}
use Rattle.litrs_lines.proofs.collector.Collector.feed_next.Goals as goal

pub invariant_of-self : goal.invariant_of-self
invariant_of-self c =
    let old = string_bytes c.self.inside.held in
    let read = c.read_added.ensures in
    (result_is_held (old ++ c.args.line.now) old (string_bytes c.read_added.new.held) c.read_added.result c.self.invariant.0 read.fed read.err, read.known)
