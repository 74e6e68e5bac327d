use Rattle.std.proofs.lemmas.Result.{err_from_is_err_and}
use Rattle.std.proofs.Common.{◌≡◌, ◌∙◌, ℕ, List, [], ◌∷◌, ◌++◌, refl, ap, subst}
use Rattle.litrs_lines.specs.Ended.{AreEndedReports}
use Rattle.litrs_lines.specs.Lines.{strip_cr}
use Rattle.litrs_lines.proofs.GroupReports.{have_ended_reports}
use Rattle.litrs_lines.proofs.Leaving.{leaves_memory, leaves_as}
use Rattle.litrs_lines.proofs.end_line.Goals as goal

pub returns-in_err-extend_from_slice-clause-adds : goal.returns-in_err-extend_from_slice-clause-adds
returns-in_err-extend_from_slice-clause-adds g c =
    let p = err_from_is_err_and c.from_residual.result c.from_residual.ensures.1 in
    let all = have_ended_reports c.args.reporter.now.collector.now (strip_cr (c.args.line.now.items ++ c.args.end.now) ∷ []) in
    rw (p.1, p.2) (leaves_memory _ _ _ _ _ _ all.0 all.1 (record { collector = refl; unwritten = refl; writer = refl }) refl all.2)

pub returns-clause-adds : goal.returns-clause-adds
returns-clause-adds g c =
    let line : c.strip_cr-2.result.now ≡ strip_cr (c.args.line.now.items ++ c.args.end.now) =
    c.strip_cr-2.ensures ∙ ap strip_cr (c.deref.ensures.value ∙ c.in_ok-extend_from_slice.ensures.items) in
    leaves_as _ _ _ _ _ _ _ _ (λ left out is. subst (λ (l : List ℕ). AreEndedReports c.args.reporter.now.collector.now (l ∷ []) left out) line is) c.in_ok-process_line.ensures
