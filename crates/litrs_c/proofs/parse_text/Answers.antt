use Rattle.std.proofs.Common.{sym, ◌∙◌}
use Rattle.std.specs.Str.{chars}
use Rattle.litrs_c.proofs.Memory.{lacks_memory, out_of_memory_not_refused}
use Rattle.litrs_c.proofs.parse_text.Goals as goal

pub returns-in-OutOfMemory-clause-memory : goal.returns-in-OutOfMemory-clause-memory
returns-in-OutOfMemory-clause-memory c =
    λ _. lacks_memory (chars c.args.text.now) c.in-Err.e c.in-Err.ensures.refused (sym c.kind.ensures ∙ c.in-OutOfMemory.is)

pub returns-in-OutOfMemory-clause-refused : goal.returns-in-OutOfMemory-clause-refused
returns-in-OutOfMemory-clause-refused c = λ refused. absurd (out_of_memory_not_refused refused)
