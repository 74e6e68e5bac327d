-- Both marks begin at the start of the text.
use Rattle.std.proofs.Common.{◌-◌, length, refl}
use Rattle.litrs_prefix.proofs.Ends.{after_bytes}
use Rattle.litrs_explain.proofs.Cuts.{start_mark}
use Rattle.litrs_explain.proofs.explainer.Explainer.explain_tokens.Goals as goal

pub loop-token-init : goal.loop-token-init
loop-token-init c =
    let text = c.args.text.now in
    let rest = c.range_from.result.now in (
      refl,
      after_bytes text rest c.args.start c.range_from.ensures.value,
      record {
        literal = start_mark text (length text - length rest) c.start.result c.utf8.text c.start.ensures.at;
        error = start_mark text (length text - length rest) c.start-2.result c.utf8.text c.start-2.ensures.at;
      },
    )
