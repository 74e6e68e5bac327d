use Rattle.std.proofs.Common.{◌∙◌, ℕ, List, [], refl, subst}
use Rattle.std.proofs.lemmas.Result.{err_from_is_err_and}
use Rattle.litrs_lines.specs.Held.{IsRefusalOfHeld}
use Rattle.litrs_prefix.proofs.PieceLaws.{no_end}
use Rattle.litrs_lines.proofs.Leaving.{leaves_memory, leaves_added}
use Rattle.litrs_lines.proofs.GroupReports.{held_adds}
use Rattle.litrs_lines.proofs.group.Reporter.report_held.Goals as goal

pub returns-in_err-report_refusal-in-Some-clause-adds : goal.returns-in_err-report_refusal-in-Some-clause-adds
returns-in_err-report_refusal-in-Some-clause-adds g c =
    let p = err_from_is_err_and c.from_residual.result c.from_residual.ensures.1 in
    rw (p.1, p.2) (leaves_memory _ _ _ _ _ _ [] _ (record { collector = refl; unwritten = refl; writer = refl }) refl
    (held_adds c.args.self.now.collector.now [] c.in-Some.e refl (subst (λ (h : List ℕ). IsRefusalOfHeld h c.in-Some.e) c.replace.ensures.value c.in-Some.ensures.refusal)))

pub returns-in_ok-report_refusal-in-Some-clause-adds : goal.returns-in_ok-report_refusal-in-Some-clause-adds
returns-in_ok-report_refusal-in-Some-clause-adds g c = leaves_added _ _ _ _ _ _ _ (record { collector = refl; unwritten = refl; writer = refl }) refl
    (held_adds c.args.self.now.collector.now c.replace.new.dest c.in-Some.e (c.replace.ensures.after ∙ c.new.ensures) (subst (λ (h : List ℕ). IsRefusalOfHeld h c.in-Some.e) c.replace.ensures.value c.in-Some.ensures.refusal))
    c.in_ok-report_refusal-in-Some.ensures

pub returns-in_err-report_refusal-in-Some-clause-memory : goal.returns-in_err-report_refusal-in-Some-clause-memory
returns-in_err-report_refusal-in-Some-clause-memory g c = λ _ none.
    let refusal = subst (λ (h : List ℕ). IsRefusalOfHeld h c.in-Some.e) c.replace.ensures.value c.in-Some.ensures.refusal in
    no_end refusal.0 10 [] (refusal.2 ∙ none)
