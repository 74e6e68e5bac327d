-- A text can be cut at its start and its end.
use Rattle.std.proofs.Common.{arith}
use Rattle.std.proofs.lemmas.Str.{IsCharBoundary-start, IsCharBoundary-end}
use Rattle.litrs_explain.proofs.Cuts.{start_mark}
use Rattle.litrs_explain.proofs.explainer.Explainer.explain_error.Goals as goal

pub refuse-requires-clause-piece : goal.refuse-requires-clause-piece
refuse-requires-clause-piece c = record {
  start = IsCharBoundary-start c.args.text.now c.utf8.text;
  end = IsCharBoundary-end c.args.text.now;
  in_order = omega arith;
  within = omega arith;
}

pub refuse-requires-clause-mark : goal.refuse-requires-clause-mark
refuse-requires-clause-mark c = start_mark c.args.text.now 0 c.start.result c.utf8.text c.start.ensures.at
