use Rattle.std.proofs.Common.{◌≡◌, List, ℕ, ◌+◌, ◌*◌, ◌^◌, sym, ap, ◌∙◌, subst, Some, rules}
use Rattle.std.specs.Str.{chars}
use Rattle.litrs_c.specs.Answers.{IsWritten}
use Rattle.litrs_c.specs.Writes.{decimal}
use Rattle.litrs_grammar.specs.Integer.{IntegerParts, integer_value, IsIntegerOf}
use Rattle.litrs_c.proofs.write.litrs_write_integer.Goals as goal

pub returns-in-Ok-integer-clause-literal : goal.returns-in-Ok-integer-clause-literal
returns-in-Ok-integer-clause-literal c = λ _.
    let suffix : c.in-Ok.suffix.now ≡ c.args.suffix.now = search rules in
    let parts = rw (c.from.ensures, c.from-2.ensures, suffix) at c.in-Ok-integer.ensures.parts in
    record {
      text = c.raw_input.result.now;
      utf8 = c.raw_input.utf8;
      literal = subst (IsIntegerOf (chars c.raw_input.result.now))
          {y = decimal (c.args.value_low + 2 ^ 64 * c.args.value_high) (chars c.args.suffix.now)}
          parts c.raw_input.ensures.literal;
      written = subst (λ (text : List ℕ). IsWritten text c.args.room.now c.write.new.room c.write.result)
          c.as_bytes.ensures.value c.write.ensures;
    }

value_of : (d e : IntegerParts) (n : ℕ) → d ≡ e → integer_value d ≡ n → integer_value e ≡ n
value_of d e n same value = ap integer_value (sym same) ∙ value

pub returns-in-Ok-integer-clause-value : goal.returns-in-Ok-integer-clause-value
returns-in-Ok-integer-clause-value c = λ _.
    let suffix : c.in-Ok.suffix.now ≡ c.args.suffix.now = search rules in
    let parts = rw (c.from.ensures, c.from-2.ensures, suffix) at c.in-Ok-integer.ensures.parts in
    let value = rw (c.from.ensures, c.from-2.ensures) at c.in-Ok-integer.ensures.value in
    ap Some (value_of _ (decimal (c.args.value_low + 2 ^ 64 * c.args.value_high) (chars c.args.suffix.now)) _ parts value)
