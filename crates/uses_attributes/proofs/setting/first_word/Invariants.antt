-- A word of what is left is one of the text.
use Rattle.std.proofs.Common.{length}
use Rattle.uses_attributes.specs.Settings.{IsWord}
use Rattle.uses_attributes.specs.declared.word.Word.{Word}
use Rattle.uses_attributes.proofs.setting.first_word.Given as goal

abbrev pub invariant-loop-it : goal.invariant-loop-it
invariant-loop-it l = (word : Word) → IsWord word l.left.rest.now → IsWord word l.text

abbrev pub decreases-loop-it : goal.decreases-loop-it
decreases-loop-it l = length l.left.rest.now
