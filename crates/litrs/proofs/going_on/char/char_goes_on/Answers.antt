-- The front is one byte.
use Rattle.std.proofs.Common.{refl}
use Rattle.std.specs.Prelude.{codes}
use Rattle.litrs.proofs.Chars.{char_decided}
use Rattle.litrs.proofs.Fronts.{front_ends}
use Rattle.litrs.proofs.going_on.char.char_goes_on.Goals as goal

pub range_from-requires : goal.range_from-requires
range_from-requires c = λ _. front_ends (codes "'") c.args.text.now refl c.utf8.text c.requires

pub returns : goal.returns
returns c = char_decided c.args.text.now c.range_from.result.now c.item_goes_on.result c.utf8.text
    c.requires c.range_from.ensures.value c.item_goes_on.ensures
