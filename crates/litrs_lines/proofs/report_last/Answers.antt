use Rattle.std.proofs.lemmas.Result.{err_from_is_err_and}
use Rattle.litrs_lines.specs.Lines.{unless_empty}
use Rattle.litrs_lines.proofs.GroupReports.{last_reports, last_reported}
use Rattle.litrs_lines.proofs.Leaving.{leaves_stopped, leaves_then}
use Rattle.litrs_lines.proofs.report_last.Goals as goal

pub returns-in_err-process_open_line-clause-adds : goal.returns-in_err-process_open_line-clause-adds
returns-in_err-process_open_line-clause-adds g c =
    let p = err_from_is_err_and c.from_residual.result c.from_residual.ensures.1 in
    rw (p.1, p.2) (leaves_stopped _ _ _ _ _ _ _ _
    (λ left out is. let all = last_reports c.args.reporter.now.collector.now (unless_empty c.args.line.now) left out is in (left, all.0, all.1))
    c.in_err-process_open_line.ensures.adds)

pub returns-clause-adds : goal.returns-clause-adds
returns-clause-adds g c = leaves_then _ _ _ _ _ _ _ _ _ _
    (λ out left more ended is. last_reported c.args.reporter.now.collector.now (unless_empty c.args.line.now) c.process_open_line.new.reporter.collector.now left out more ended is)
    c.in_ok-process_open_line.ensures.adds c.report_held.ensures.adds
