-- The rest after the literal is the end of the line. Only for a literal at the front an allocation fails.
use Rattle.std.proofs.Common.{sym, ◌∙◌}
use Rattle.std.specs.Str.{chars}
use Rattle.litrs.specs.LiteralDerivation.{derivation}
use Rattle.litrs_prefix.proofs.OutOfMemory.{of_memory}
use Rattle.litrs_lines.proofs.StepLemmas.{allocated_no_bool}
use Rattle.litrs_lines.proofs.collector.front.Goals as goal

pub end_of-rest-requires : goal.end_of-rest-requires
end_of-rest-requires c =
    let found = rw c.in-Ok-Some.field-0-is at c.in-Ok-Some.ensures.found in
    (c.args.text.now, derivation c.in-Ok-Some.prefix.literal, c.requires, found)

pub returns-in-OutOfMemory-clause-copied : goal.returns-in-OutOfMemory-clause-copied
returns-in-OutOfMemory-clause-copied c = λ failed.
    let lack = of_memory (chars c.args.text.now) c.in-Err.malformed (sym c.kind.ensures ∙ c.in-OutOfMemory.is) c.in-Err.ensures.malformed in
    (lack.refused.derivation, lack.rest, lack.prefix, allocated_no_bool lack.refused.derivation lack.refused.allocated)
