use Rattle.std.proofs.Common.{◌≡◌, ℕ, length, sym, ap, ◌∙◌, subst}
use Rattle.std.specs.Str.{chars, IsUtf8}
use Rattle.litrs.specs.LiteralDerivation.{derivation, literal_raw}
use Rattle.litrs_c.specs.LiteralFields.{IsLiteralFields}
use Rattle.litrs_c.proofs.Memory.{out_of_memory_not_refused}
use Rattle.litrs_c.proofs.Prefixes.{prefix_at, ends_front, lacks_memory_at}
use Rattle.litrs_c.proofs.prefix.parse_prefix_text.Goals as goal

pub returns-in-Ok-Some-clause-literal : goal.returns-in-Ok-Some-clause-literal
returns-in-Ok-Some-clause-literal c = λ _.
    let lit = c.in-Ok-Some.prefix.literal in
    let spells = rw c.in-Ok-Some.field-0-is at c.in-Ok-Some.ensures.spells in
    let found = rw c.in-Ok-Some.field-0-is at c.in-Ok-Some.ensures.found in
    let len : length c.raw_input.result.now ≡ length (literal_raw lit) = ap length c.raw_input.ensures.raw in (
      derivation lit,
      prefix_at (literal_raw lit) c.in-Ok-Some.prefix.rest.now c.args.text.now (length c.raw_input.result.now) (derivation lit) spells len found,
      ends_front (literal_raw lit) c.in-Ok-Some.prefix.rest.now c.args.text.now (length c.raw_input.result.now) spells len c.utf8.text
          (subst IsUtf8 c.raw_input.ensures.raw c.raw_input.utf8),
      subst (λ (n : ℕ). IsLiteralFields n (derivation lit) c.write_literal_fields.new.fields) (sym len) c.write_literal_fields.ensures,
    )

pub returns-in-OutOfMemory-clause-memory : goal.returns-in-OutOfMemory-clause-memory
returns-in-OutOfMemory-clause-memory c = λ _.
    lacks_memory_at (chars c.args.text.now) c.in-Err.malformed c.in-Err.ensures.malformed (sym c.kind.ensures ∙ c.in-OutOfMemory.is)

pub returns-in-OutOfMemory-clause-refused : goal.returns-in-OutOfMemory-clause-refused
returns-in-OutOfMemory-clause-refused c = λ refused. absurd (out_of_memory_not_refused refused)
