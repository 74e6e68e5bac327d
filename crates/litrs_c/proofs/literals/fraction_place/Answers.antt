use Rattle.std.specs.Str.{chars}
use Rattle.litrs_c.proofs.PartPlaces.{fraction_found}
use Rattle.litrs_c.proofs.literals.fraction_place.Goals as goal

pub returns-in-Some : goal.returns-in-Some
returns-in-Some c =
    fraction_found _ c.integer_part.result.now (chars c.in-Some.digits.now) _ c.place_of.result c.integer_part.utf8 c.integer_part.ensures
    c.in-Some.ensures.part c.place_of.ensures
