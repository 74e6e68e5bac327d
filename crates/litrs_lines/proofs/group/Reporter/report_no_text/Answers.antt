use Rattle.std.proofs.Common.{refl}
use Rattle.std.proofs.lemmas.Result.{err_from_is_err_and}
use Rattle.std.specs.Prelude.{codes}
use Rattle.litrs_lines.proofs.Leaving.{leaves_memory, leaves_added, leaves_stopped, leaves_then_bytes}
use Rattle.litrs_lines.proofs.GroupReports.{other_reported}
use Rattle.litrs_lines.proofs.group.Reporter.report_no_text.Goals as goal

pub returns-in_err-report_held : goal.returns-in_err-report_held
returns-in_err-report_held g c =
    let p = err_from_is_err_and c.from_residual.result c.from_residual.ensures.1 in
    rw (p.1, p.2) (leaves_stopped _ _ _ _ _ _ _ _ (λ left out is. (left, codes "error input is not UTF-8\n", other_reported c.args.self.now.collector.now c.args.line.now left out c.requires is)) c.in_err-report_held.ensures.adds)

pub returns-in_err-push_str : goal.returns-in_err-push_str
returns-in_err-push_str g c =
    let p = err_from_is_err_and c.from_residual-in_err-push_str.result c.from_residual-in_err-push_str.ensures.1 in
    let held = c.report_held.new.self.collector.now in
    rw (p.1, p.2) (leaves_then_bytes _ _ _ _ _ c.report_held.new.self _ _ _ (codes "error input is not UTF-8\n") (λ out is. other_reported c.args.self.now.collector.now c.args.line.now held out c.requires is) c.in_ok-report_held.ensures.adds
    (leaves_memory _ _ _ _ _ _ held _ (record { collector = refl; unwritten = refl; writer = refl }) refl (refl, refl)))

pub returns : goal.returns
returns g c =
    let held = c.report_held.new.self.collector.now in
    leaves_then_bytes _ _ _ _ _ c.report_held.new.self _ _ _ (codes "error input is not UTF-8\n") (λ out is. other_reported c.args.self.now.collector.now c.args.line.now held out c.requires is) c.in_ok-report_held.ensures.adds
    (leaves_added _ _ _ _ _ _ _ (record { collector = refl; unwritten = refl; writer = refl }) refl (refl, refl) c.in_ok-push_str.ensures.bytes)
