use Rattle.std.proofs.Common.{◌≡◌, List, ℕ, sym, ap, ◌∙◌, subst, Some, rules}
use Rattle.std.specs.Str.{chars}
use Rattle.litrs_base.specs.declared.quotes.StringKind.TheVariants.{ByteString as byte_string_kind}
use Rattle.litrs_c.specs.Answers.{IsWritten}
use Rattle.litrs_grammar.specs.Literal.{IsString, string_value}
use Rattle.litrs_c.proofs.write.litrs_write_bytes.Goals as goal

pub returns-in-Ok-byte_string-clause-literal : goal.returns-in-Ok-byte_string-clause-literal
returns-in-Ok-byte_string-clause-literal c = λ _.
    let suffix : c.in-Ok.suffix.now ≡ c.args.suffix.now = search rules in
    let parts = rw suffix at c.in-Ok-byte_string.ensures.parts in
    record {
      text = c.raw_input.result.now;
      utf8 = c.raw_input.utf8;
      literal = subst (IsString byte_string_kind (chars c.raw_input.result.now)) parts c.raw_input.ensures.literal;
      written = subst (λ (text : List ℕ). IsWritten text c.args.room.now c.write.new.room c.write.result)
          c.as_bytes.ensures.value c.write.ensures;
    }

pub returns-in-Ok-byte_string-clause-value : goal.returns-in-Ok-byte_string-clause-value
returns-in-Ok-byte_string-clause-value c = λ _.
    let suffix : c.in-Ok.suffix.now ≡ c.args.suffix.now = search rules in
    let parts = rw suffix at c.in-Ok-byte_string.ensures.parts in
    ap Some (ap string_value (sym parts) ∙ c.in-Ok-byte_string.ensures.value)
