-- A text can be cut at its start.
use Rattle.std.proofs.Common.{length}
use Rattle.litrs_explain.proofs.Cuts.{start_mark}
use Rattle.litrs_explain.proofs.explainer.Explainer.explain_text.Goals as goal

pub add_literal-requires-clause-start : goal.add_literal-requires-clause-start
add_literal-requires-clause-start c = start_mark c.args.text.now (length c.args.text.now) c.start.result c.utf8.text c.start.ensures.at
