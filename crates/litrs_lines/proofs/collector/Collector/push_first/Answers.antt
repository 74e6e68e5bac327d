use Rattle.std.specs.Prelude.{string_bytes}
use Rattle.litrs_lines.proofs.StepLemmas.{pushed_is_held}
use Rattle.litrs_lines.proofs.collector.Collector.push_first.Goals as goal

pub invariant_of-self : goal.invariant_of-self
invariant_of-self c =
    let pushed = c.hold_line.ensures in
    (pushed_is_held (string_bytes c.self.inside.held) c.args.line.now (string_bytes c.hold_line.new.held) c.hold_line.result c.self.invariant.0 pushed.pushed pushed.err, pushed.known)
