-- The five parts, one after the other.
use Rattle.litrs_c.proofs.Rooms.{written_on}
use Rattle.litrs_c.proofs.message.write_span.Goals as goal

pub returns : goal.returns
returns c =
    let start = rw c.format.ensures.text at c.write_from-dots.ensures in
    let end = rw c.format-2.ensures.text at c.write_from-closing.ensures in
    let to_start = written_on c.args.place _ _ _ _ _ _ _ c.write_from-start.ensures start in
    let to_dots = written_on _ _ _ _ _ _ _ _ to_start c.write_from-end.ensures in
    let to_end = written_on _ _ _ _ _ _ _ _ to_dots end in
    written_on _ _ _ _ _ _ _ _ to_end c.write_from.ensures
