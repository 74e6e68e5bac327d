-- The front is two bytes.
use Rattle.std.proofs.Common.{refl}
use Rattle.std.specs.Prelude.{codes}
use Rattle.litrs.proofs.Chars.{byte_decided}
use Rattle.litrs.proofs.Fronts.{front_ends}
use Rattle.litrs.proofs.going_on.char.byte_goes_on.Goals as goal

pub range_from-requires : goal.range_from-requires
range_from-requires c = λ _. front_ends (codes "b'") c.args.text.now refl c.utf8.text c.requires

pub returns : goal.returns
returns c = byte_decided c.args.text.now c.range_from.result.now c.item_goes_on.result c.utf8.text
    c.requires c.range_from.ensures.value c.item_goes_on.ensures
