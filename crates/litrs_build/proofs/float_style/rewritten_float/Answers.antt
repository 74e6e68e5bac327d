-- The parts are those of a float, so that their bytes are their characters.
use Rattle.std.proofs.Common.{◌≡◌, ℕ, List, string_bytes, sym, subst, ◌∙◌}
use Rattle.std.specs.Str.{IsAscii}
use Rattle.litrs_grammar.specs.Float.{number_part}
use Rattle.litrs.specs.FloatLiteral.{float_parts}
use Rattle.litrs_build.proofs.RewrittenFloats.{are_numbers, five_parts, fraction_ascii, fraction_is, number_ascii, number_bytes, written_float}
use Rattle.litrs_build.proofs.float_style.rewritten_float.Goals as goal

pub push_part-requires : goal.push_part-requires
push_part-requires g c =
    let d = float_parts c.args.lit.now in
    let n = are_numbers d c.raw_input.ensures.literal.grammar in
    let same : c.as_bytes-integer.result.now ≡ d.integer = c.as_bytes-integer.ensures.value
    ∙ number_bytes c.integer_part.result.now d.integer c.integer_part.utf8
    c.integer_part.ensures n.integer in
    subst (λ (t : List ℕ). IsAscii t) (sym same) (number_ascii d.integer n.integer)

pub push_fraction-requires : goal.push_fraction-requires
push_fraction-requires g c =
    let d = float_parts c.args.lit.now in
    let n = are_numbers d c.raw_input.ensures.literal.grammar in
    fraction_ascii c.fractional_part-fraction.result d.fraction
    c.fractional_part-fraction.ensures.part c.fractional_part-fraction.ensures.utf8 n.fraction

pub push_exponent-requires : goal.push_exponent-requires
push_exponent-requires g c =
    let d = float_parts c.args.lit.now in
    let n = are_numbers d c.raw_input.ensures.literal.grammar in
    let same : c.as_bytes-exponent.result.now ≡ d.exponent = c.as_bytes-exponent.ensures.value
    ∙ number_bytes c.exponent_part.result.now d.exponent c.exponent_part.utf8
    c.exponent_part.ensures n.exponent in
    subst (λ (t : List ℕ). IsAscii t) (sym same) (number_ascii d.exponent n.exponent)

pub returns : goal.returns
returns g c =
    let d = float_parts c.args.lit.now in
    let h = c.raw_input.ensures.literal.grammar in
    let n = are_numbers d h in
    let lens = c.part_lens-lens.result in
    let number : c.as_bytes.result.now ≡ number_part d = c.as_bytes.ensures.value
    ∙ number_bytes c.number_part.result.now (number_part d) c.number_part.utf8
    c.number_part.ensures n.all in
    let integer : c.as_bytes-integer.result.now ≡ d.integer = c.as_bytes-integer.ensures.value
    ∙ number_bytes c.integer_part.result.now d.integer c.integer_part.utf8
    c.integer_part.ensures n.integer in
    let exponent : c.as_bytes-exponent.result.now ≡ d.exponent = c.as_bytes-exponent.ensures.value
    ∙ number_bytes c.exponent_part.result.now d.exponent c.exponent_part.utf8
    c.exponent_part.ensures n.exponent in
    written_float c.args.style.now d h lens c.as_bytes.result.now c.as_bytes-integer.result.now
    c.as_bytes-exponent.result.now c.suffix-suffix.result.now (string_bytes c.push_str.new.self)
    c.fractional_part-fraction.result c.part_lens-lens.ensures number integer
    (fraction_is lens.fraction c.fractional_part-fraction.result d.fraction
    c.fractional_part-fraction.ensures.part c.fractional_part-fraction.ensures.utf8 n.fraction)
    exponent c.suffix-suffix.ensures
    (five_parts _ _ _ _ (string_bytes c.in_ok-text.text) _ _ _ _ c.in_ok-text.ensures.bytes
    c.in_ok-push_part.ensures c.in_ok-push_fraction.ensures c.in_ok-push_exponent.ensures
    c.in_ok-push_str.ensures.bytes)
