use Rattle.litrs.specs.LiteralDerivation.{literal_raw, derivation}
use Rattle.litrs_c.proofs.PartPlaces.{suffix_within, suffix_found}
use Rattle.litrs_c.proofs.literals.suffix_place.Goals as goal

pub overflow_sub-result : goal.overflow_sub-result
overflow_sub-result c =
    suffix_within c.raw_input-end.result.now c.suffix.result.now (derivation c.args.lit.now) c.raw_input-end.utf8 c.suffix.utf8 c.suffix.ensures
    c.raw_input-end.ensures.literal

pub returns : goal.returns
returns c =
    suffix_found (literal_raw c.args.lit.now) c.raw_input-end.result.now c.suffix.result.now (derivation c.args.lit.now) c.raw_input-end.ensures.raw
    c.raw_input-end.utf8 c.suffix.utf8 c.suffix.ensures c.raw_input-end.ensures.literal
