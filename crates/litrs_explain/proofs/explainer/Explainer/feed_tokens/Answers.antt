-- A text can be cut at its start.
use Rattle.std.proofs.lemmas.Str.{IsCharBoundary-start}
use Rattle.litrs_explain.proofs.explainer.Explainer.feed_tokens.Goals as goal

pub explain_lines-requires : goal.explain_lines-requires
explain_lines-requires c = IsCharBoundary-start c.args.line.now c.utf8.line
