-- By the room, or from its state on.
use Rattle.std.proofs.Common.{inl, arith}
use Rattle.litrs_lex.proofs.Readings.{reading_none}
use Rattle.litrs_lex.proofs.string.read_value.Goals as goal

pub returns-in-Refused : goal.returns-in-Refused
returns-in-Refused g c = inl c.in-Refused.ensures.reached.1

pub read_items-requires-clause-from : goal.read_items-requires-clause-from
read_items-requires-clause-from g c =
    let start = c.empty_at-mask.ensures.start in
    reading_none _ c.args.input.now _ _ _ _ c.utf8.input c.requires.at c.new-room.ensures c.requires.run (omega arith) (c.empty_at-mask.ensures.mask _ _ c.requires.run.boundary.0)
