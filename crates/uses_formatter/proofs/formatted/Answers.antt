-- The parse runs out of memory only for a literal.
use Rattle.std.proofs.Common.{sym, ◌∙◌}
use Rattle.std.specs.Str.{chars}
use Rattle.litrs.specs.Literal.{literal_parse}
use Rattle.litrs.specs.Refused.{IsRefusedOrOutOfMemory}
use Rattle.litrs.proofs.OutOfMemory.{of_memory}
use Rattle.uses_formatter.proofs.formatted.Goals as goal

pub returns-in-OutOfMemory-clause-err : goal.returns-in-OutOfMemory-clause-err
returns-in-OutOfMemory-clause-err c = λ failed.
    let text = chars c.args.text.now in
    let error : IsRefusedOrOutOfMemory literal_parse text c.in-Err.e = rw c.in-Err.is at c.parse.ensures.refused in
    let lack = of_memory literal_parse text c.in-Err.e (sym c.kind.ensures ∙ c.in-OutOfMemory.is) error in
    (lack.derivation, lack.literal)
