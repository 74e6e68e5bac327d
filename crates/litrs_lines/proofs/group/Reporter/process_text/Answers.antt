-- The line is held, or the text of all lines is processed in its place.
use Rattle.std.proofs.Common.{◌∷◌, [], refl, sym, append-nil, ◌∙◌}
use Rattle.std.proofs.lemmas.Result.{err_from_is_err_and}
use Rattle.litrs_lines.proofs.Leaving.{leaves_memory, leaves_added, leaves_from}
use Rattle.litrs_lines.proofs.GroupReports.{have_ended_reports, goes_on_reported, joined_ends}
use Rattle.litrs_lines.proofs.group.Reporter.process_text.Goals as goal

pub returns-in_err-push_next : goal.returns-in_err-push_next
returns-in_err-push_next g c =
    let p = err_from_is_err_and c.from_residual.result c.from_residual.ensures.1 in
    let all = have_ended_reports c.args.self.now.collector.now (c.args.line.now ∷ []) in
    rw (p.1, p.2) (leaves_memory _ _ _ _ _ _ all.0 all.1 (record { collector = refl; unwritten = refl; writer = refl }) refl all.2)

pub returns-then-branch : goal.returns-then-branch
returns-then-branch g c =
    let pushed = c.in_ok-push_next.ensures.pushed.more c.if-branch.true in
    leaves_added _ _ _ _ _ _ [] (record { collector = refl; unwritten = refl; writer = refl }) refl (goes_on_reported c.args.self.now.collector.now c.args.line.now c.push_next.new.self c.utf8.line pushed.0 pushed.1) (sym (append-nil _))

pub returns-in_err-text : goal.returns-in_err-text
returns-in_err-text g c =
    let p = err_from_is_err_and c.from_residual-in_err-text.result c.from_residual-in_err-text.ensures.1 in
    let all = have_ended_reports c.args.self.now.collector.now (c.args.line.now ∷ []) in
    rw (p.1, p.2) (leaves_memory _ _ _ _ _ _ all.0 all.1 (record { collector = refl; unwritten = refl; writer = refl }) refl all.2)

pub returns : goal.returns
returns g c =
    let kept = (c.in_ok-push_next.ensures.pushed.other c.if-branch.false).1 in
    let text = c.as_str.ensures.value ∙ c.in_ok-text.ensures.text in
    leaves_from _ _ _ _ _ _ _ _ _ (record { collector = refl; unwritten = refl; writer = refl }) refl refl
    (λ left out is. joined_ends c.args.self.now.collector.now c.args.line.now c.take_with.new.self c.as_str.result.now left out c.in_ok-text.ensures.held (rw kept at text) c.utf8.line c.as_str.utf8 is)
    c.process_first-2.ensures
