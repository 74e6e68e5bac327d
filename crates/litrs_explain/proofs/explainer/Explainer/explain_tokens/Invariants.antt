-- Each token makes the rest shorter, and the marks are not after it.
use Rattle.std.proofs.Common.{◌≡◌, ◌-◌, length}
use Rattle.litrs_prefix.specs.Ends.{IsEndOf}
use Rattle.litrs_explain.specs.Places.{AreMarks}
use Rattle.litrs_explain.proofs.explainer.Explainer.explain_tokens.Given as goal

abbrev pub invariant-loop-token : goal.invariant-loop-token
invariant-loop-token l =
    (l.left.source.now ≡ l.text) × IsEndOf l.text l.left.rest.now × AreMarks l.text (length l.text - length l.left.rest.now) l.marks

abbrev pub decreases-loop-token : goal.decreases-loop-token
decreases-loop-token l = length l.left.rest.now
