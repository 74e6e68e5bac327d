-- The parts are those of a float, and the text has no others.
use Rattle.std.proofs.Common.{◌≡◌, true, ℕ, List, sym, ◌∙◌, Bor}
use Rattle.std.specs.Prelude.{option_map, string_bytes}
use Rattle.std.specs.Str.{chars}
use Rattle.litrs_grammar.specs.Float.{FloatParts, IsFloatOf}
use Rattle.litrs_build.specs.BuiltFloat.{is_float}
use Rattle.litrs_build.proofs.FloatLemmas.{float_of_test}
use Rattle.litrs_build.proofs.floats.float.Goals as goal

pub float_of-requires : goal.float_of-requires
float_of-requires c =
    let d : FloatParts = record {
      integer = chars c.args.integer.now;
      fraction = option_map (λ (digits : Bor (List ℕ)). chars digits.now) c.args.fraction;
      exponent = chars c.args.exponent.now;
      suffix = chars c.args.suffix.now;
    } in
    let test : is_float d ≡ true = sym c.is_float.ensures ∙ c.if-not-is_float.false in
    (d, record { spells = sym c.in_ok-text.ensures; grammar = float_of_test d test })

pub returns-clause-parts : goal.returns-clause-parts
returns-clause-parts c =
    let d : FloatParts = record {
      integer = chars c.args.integer.now;
      fraction = option_map (λ (digits : Bor (List ℕ)). chars digits.now) c.args.fraction;
      exponent = chars c.args.exponent.now;
      suffix = chars c.args.suffix.now;
    } in
    let test : is_float d ≡ true = sym c.is_float.ensures ∙ c.if-not-is_float.false in
    let is : IsFloatOf (chars (string_bytes c.in_ok-text.text)) d =
    record { spells = sym c.in_ok-text.ensures; grammar = float_of_test d test } in
    sym (c.float_of.ensures.only.1 d is)

pub returns-clause-not_a_float : goal.returns-clause-not_a_float
returns-clause-not_a_float c =
    let d : FloatParts = record {
      integer = chars c.args.integer.now;
      fraction = option_map (λ (digits : Bor (List ℕ)). chars digits.now) c.args.fraction;
      exponent = chars c.args.exponent.now;
      suffix = chars c.args.suffix.now;
    } in
    let test : is_float d ≡ true = sym c.is_float.ensures ∙ c.if-not-is_float.false in
    (λ wrong. absurd cc, λ none. absurd (none (float_of_test d test)))
