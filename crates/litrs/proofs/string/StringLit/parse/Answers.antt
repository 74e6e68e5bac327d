-- The front is that of the text.
use Rattle.litrs.proofs.string.StringLit.parse.Goals as goal

pub parse_with_front-requires : goal.parse_with_front-requires
parse_with_front-requires g c = rw c.as_str.ensures at c.of-front.ensures
