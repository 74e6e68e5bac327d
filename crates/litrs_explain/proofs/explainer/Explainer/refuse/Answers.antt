-- The part of the text around the error can be cut at both ends of it.
use Rattle.std.proofs.Common.{◌-◌, List, ℕ, sym, subst}
use Rattle.litrs_base.specs.CharEnd.{IsCutBy}
use Rattle.litrs_explain.proofs.Cuts.{cut_within}
use Rattle.litrs_explain.proofs.explainer.Explainer.refuse.Goals as goal

pub invariant_of-problem : goal.invariant_of-problem
invariant_of-problem c =
    let from = c.moved_before-mark.result.at in
    let marked = c.marked_part-marked.result in
    record {
      cuts = subst (λ (t : List ℕ). IsCutBy t (record { start = marked.start - from; end = marked.end - from }))
          (sym c.range.ensures.value)
          (cut_within c.args.text.now from c.line_end-end.result marked c.line_end-end.ensures.boundary.0 c.moved_before-mark.ensures.mark.before
          c.line_end-end.ensures.after c.marked_part-marked.ensures.cuts);
    }
