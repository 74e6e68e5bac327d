use Rattle.std.proofs.lemmas.Result.{err_from_is_err_and}
use Rattle.std.proofs.Common.{arith, rules, ◌-◌, ◌+◌, drop, ◌++◌, [], refl, sym, ◌∙◌, length, length-take, length-drop}
use Rattle.std.proofs.lemmas.Grind.{common_steps}
use Rattle.litrs_lines.specs.Lines.{ended_lines}
use Rattle.litrs_lines.proofs.Leaving.{leaves_memory, leaves_stopped, leaves_as, leaves_then, leaves_written}
use Rattle.litrs_lines.proofs.LinesLemmas.{steps_on, takes_line, takes_longer, takes_all, goes_on, ends_line}
use Rattle.litrs_lines.proofs.gather.Goals as goal

pub overflow_add-rest : goal.overflow_add-rest
overflow_add-rest g c =
    let step = ends_line c.loop-end.line.items c.loop-end.rest.now c.in-Some.end c.loop-end.invariant.unended (sym c.in-Some.ensures) in
    let within = step.within in
    first_of (omega arith, search rules, grind (arith, common_steps))

pub returns-in_err-end_line-clause-adds : goal.returns-in_err-end_line-clause-adds
returns-in_err-end_line-clause-adds g c =
    let p = err_from_is_err_and c.from_residual.result c.from_residual.ensures.1 in
    let inv = c.loop-end.invariant in
    let step = ends_line c.loop-end.line.items c.loop-end.rest.now c.in-Some.end inv.unended (sym c.in-Some.ensures) in
    rw (p.1, p.2) (leaves_stopped _ _ _ _ _ _ _ _ (λ left out is. takes_longer c.args.reporter.now.collector.now (ended_lines (c.args.line.now.items ++ c.args.piece.now)) (ended_lines (drop (c.in-Some.end + 1) c.loop-end.rest.now)) left out is)
    (leaves_then _ _ _ _ _ c.loop-end.reporter _ _ _ _ (λ out left more so_far ended. takes_line _ _ _ _ _ c.loop-end.reporter.collector.now left out more step.lines so_far ended) inv.takes c.in_err-end_line.ensures.adds))

pub loop-end-preserved : goal.loop-end-preserved
loop-end-preserved g c =
    let inv = c.loop-end.invariant in
    let step = steps_on c.loop-end.line.items c.loop-end.rest.now c.end_line.new.line.items c.in-Some.end inv.unended c.in-Some.ensures c.in_ok-end_line.ensures.line in
    record {
      within = omega (arith, length-take (length c.loop-end.rest.now - (c.in-Some.end + 1)) (drop (c.in-Some.end + 1) c.loop-end.rest.now), length-drop (c.in-Some.end + 1) c.loop-end.rest.now);
      unended = step.unended;
      leaves = inv.leaves ∙ step.leaves;
      takes = leaves_then _ _ _ _ _ c.loop-end.reporter _ _ _ _ (λ out left more so_far ended. takes_line _ _ _ _ _ c.loop-end.reporter.collector.now left out more step.lines so_far ended) inv.takes
          c.in_ok-end_line.ensures.adds;
    }

pub returns-in_err-extend_from_slice-clause-adds : goal.returns-in_err-extend_from_slice-clause-adds
returns-in_err-extend_from_slice-clause-adds g c =
    let p = err_from_is_err_and c.from_residual-in_err-extend_from_slice.result c.from_residual-in_err-extend_from_slice.ensures.1 in
    let inv = c.loop-end.invariant in
    let last = goes_on c.loop-end.line.items c.loop-end.rest.now inv.unended (sym c.in_default.ensures) in
    rw (p.1, p.2) (leaves_as _ _ _ _ _ _ _ _ (λ left out is. takes_all _ _ _ left out last.lines is)
    (leaves_written _ _ _ _ _ _ _ _ inv.takes (leaves_memory _ _ _ _ _ _ c.loop-end.reporter.collector.now [] (record { collector = refl; unwritten = refl; writer = refl }) refl (refl, refl))))

pub returns-clause-line : goal.returns-clause-line
returns-clause-line g c =
    let inv = c.loop-end.invariant in
    let last = goes_on c.loop-end.line.items c.loop-end.rest.now inv.unended (sym c.in_default.ensures) in
    c.in_ok-extend_from_slice.ensures.items ∙ sym (inv.leaves ∙ last.leaves)

pub returns-clause-adds : goal.returns-clause-adds
returns-clause-adds g c =
    let inv = c.loop-end.invariant in
    let last = goes_on c.loop-end.line.items c.loop-end.rest.now inv.unended (sym c.in_default.ensures) in
    leaves_as _ _ _ _ _ _ _ _ (λ left out is. takes_all _ _ _ left out last.lines is) inv.takes
