-- A parse lacks memory only for the value of a literal that is not a number.
use Rattle.std.proofs.Common.{inl, sym, ◌∙◌}
use Rattle.std.specs.Str.{chars}
use Rattle.litrs_c.proofs.Memory.{lacks_memory}
use Rattle.litrs_c.proofs.numbers.write_number.Goals as goal

pub returns-in-OutOfMemory-clause-memory : goal.returns-in-OutOfMemory-clause-memory
returns-in-OutOfMemory-clause-memory g c =
    λ _. inl (lacks_memory (chars c.args.text.now) c.in-Err.e c.in-Err.ensures.refused (sym c.kind.ensures ∙ c.in-OutOfMemory.is))
