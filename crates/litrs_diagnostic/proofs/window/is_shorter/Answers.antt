-- The part is cut off the text at one end.
use Rattle.std.proofs.Common.{inl, inr}
use Rattle.litrs_diagnostic.proofs.Shorter.{shorter_prefix, shorter_suffix}
use Rattle.litrs_diagnostic.proofs.window.is_shorter.Goals as goal

pub returns : goal.returns
returns c = elim c.requires.1 [
  | inl is ↦ shorter_prefix c.args.part.now c.requires.0 c.args.text.now c.utf8.part c.utf8.text is
  | inr is ↦ shorter_suffix c.args.part.now c.requires.0 c.args.text.now c.utf8.part c.utf8.text is
]
