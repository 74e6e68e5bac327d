use Rattle.std.proofs.Common.{subst}
use Rattle.std.specs.Prelude.{string_bytes}
use Rattle.std.specs.Str.{IsUtf8}
use Rattle.std.proofs.lemmas.Str.{IsUtf8-append, IsUtf8-string_bytes}
use Rattle.litrs_lines.proofs.StepLemmas.{pushed_is_held}
use Rattle.litrs_lines.proofs.collector.Collector.push_next.Goals as goal

pub invariant_of-self : goal.invariant_of-self
invariant_of-self c =
    let pushed = c.push_line.ensures in
    (pushed_is_held (string_bytes c.self.inside.held) c.args.line.now (string_bytes c.push_line.new.held) c.push_line.result c.self.invariant.0 pushed.pushed pushed.err, pushed.known)

pub returns-clause-utf8 : goal.returns-clause-utf8
returns-clause-utf8 c = IsUtf8-append c.args.self.now c.args.line.now (subst IsUtf8 c.self.view_is (IsUtf8-string_bytes c.self.inside.held)) c.utf8.line
