use Rattle.std.proofs.Common.{ℕ, List, [], ◌∷◌, subst}
use Rattle.litrs_lines.specs.Ended.{AreEndedReports}
use Rattle.litrs_lines.proofs.Leaving.{leaves_as}
use Rattle.litrs_lines.proofs.group.Reporter.process_line.Goals as goal

pub returns-in-Ok : goal.returns-in-Ok
returns-in-Ok g c = leaves_as _ _ _ _ _ _ _ _ (λ left out is. subst (λ (l : List ℕ). AreEndedReports c.args.self.now.collector.now (l ∷ []) left out) c.in-Ok.ensures.cases.0 is) c.process_text.ensures
