-- Only a parse lacks memory.
use Rattle.std.proofs.Common.{sym, ◌∙◌, rules}
use Rattle.std.specs.Str.{chars}
use Rattle.litrs_c.proofs.Memory.{lacks_memory}
use Rattle.litrs_c.proofs.write_message.Goals as goal
use Rattle.litrs_c.proofs.write_message.Goals.{in-Ok, in-Err+in-OutOfMemory, in-Err+in_default}

pub returns-clause-memory : goal.returns-clause-memory
returns-clause-memory c = elim c.match-parse.branch [
  | in-Ok w ↦ search rules
  | in-Err+in-OutOfMemory w ↦ λ _. lacks_memory (chars c.args.text.now) w.in-Err.e w.in-Err.ensures.refused (sym w.kind.ensures ∙ w.in-OutOfMemory.is)
  | in-Err+in_default w ↦ search rules
]
