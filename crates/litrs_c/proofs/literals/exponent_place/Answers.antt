use Rattle.litrs.specs.FloatLiteral.{float_parts}
use Rattle.litrs_c.proofs.PartPlaces.{exponent_fits, exponent_found}
use Rattle.litrs_c.proofs.literals.exponent_place.Goals as goal

pub overflow_sub-result : goal.overflow_sub-result
overflow_sub-result c =
    exponent_fits (float_parts c.args.lit.now) c.number_part-end.result.now c.exponent_part.result.now c.number_part-end.utf8 c.exponent_part.utf8
    c.number_part-end.ensures c.exponent_part.ensures

pub returns : goal.returns
returns c =
    exponent_found (float_parts c.args.lit.now) c.number_part-end.result.now c.exponent_part.result.now c.number_part-end.utf8 c.exponent_part.utf8
    c.number_part-end.ensures c.exponent_part.ensures
