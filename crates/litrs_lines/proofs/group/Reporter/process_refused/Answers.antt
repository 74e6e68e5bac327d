-- The bytes added, or written before a failure, are the report of the line, unless it is held.
use Rattle.std.proofs.Common.{[], ◌∷◌, refl, sym, append-nil}
use Rattle.std.proofs.lemmas.Result.{err_from_is_err_and}
use Rattle.litrs_lines.proofs.Leaving.{leaves_memory, leaves_added}
use Rattle.litrs_lines.proofs.GroupReports.{have_ended_reports, goes_on_reported, first_reported, refusal_finishes}
use Rattle.litrs_lines.proofs.group.Reporter.process_refused.Goals as goal

pub returns-in_err-push_refused : goal.returns-in_err-push_refused
returns-in_err-push_refused g c =
    let p = err_from_is_err_and c.from_residual.result c.from_residual.ensures.1 in
    let all = have_ended_reports c.args.self.now.collector.now (c.args.line.now ∷ []) in
    rw (p.1, p.2) (leaves_memory _ _ _ _ _ _ all.0 all.1 (record { collector = refl; unwritten = refl; writer = refl }) refl all.2)

pub returns-then-branch : goal.returns-then-branch
returns-then-branch g c =
    let pushed = c.in_ok-push_refused.ensures.pushed.more c.if-branch.true in
    leaves_added _ _ _ _ _ _ [] (record { collector = refl; unwritten = refl; writer = refl }) refl
    (goes_on_reported c.args.self.now.collector.now c.args.line.now c.push_refused.new.self c.utf8.line pushed.0 pushed.1) (sym (append-nil _))

pub returns-in_err-report_refusal : goal.returns-in_err-report_refusal
returns-in_err-report_refusal g c =
    let p = err_from_is_err_and c.from_residual-in_err-report_refusal.result c.from_residual-in_err-report_refusal.ensures.1 in
    let all = have_ended_reports c.args.self.now.collector.now (c.args.line.now ∷ []) in
    rw (p.1, p.2) (leaves_memory _ _ _ _ _ _ all.0 all.1 (record { collector = refl; unwritten = refl; writer = refl }) refl all.2)

pub returns : goal.returns
returns g c =
    let kept = c.in_ok-push_refused.ensures.pushed.other c.if-branch.false in
    leaves_added _ _ _ _ _ _ _ (record { collector = refl; unwritten = refl; writer = refl }) refl
    (first_reported c.args.self.now.collector.now c.args.line.now _ _ _
    (refusal_finishes c.args.self.now.collector.now c.args.line.now c.args.refusal.now c.requires.none c.utf8.line c.requires.refused kept.0) (kept.1, refl))
    c.in_ok-report_refusal.ensures
