-- By the room for more, or from its state on.
use Rattle.std.proofs.Common.{inl}
use Rattle.litrs_lex.proofs.string.read_longest.Goals as goal

pub returns-in-Refused : goal.returns-in-Refused
returns-in-Refused g c = inl c.in-Refused.ensures.reached.1
