-- More bytes are moved than are added.
use Rattle.std.proofs.Common.{◌-◌, ◌++◌, take, drop, ◌∙◌, ap, arith}
use Rattle.std.proofs.lemmas.List.{length-take-le}
use Rattle.litrs_lex.proofs.Sinks.{part_moved}
use Rattle.litrs_lex.proofs.room.Room.push_part.Goals as goal

pub returns-then-self-ge-MOVE_LEN-clause-taken : goal.returns-then-self-ge-MOVE_LEN-clause-taken
returns-then-self-ge-MOVE_LEN-clause-taken g c =
    let before = take c.self.inside.len c.self.inside.room in
    let fits = c.self.invariant in let told = c.self.told in λ _.
    part_moved c.copy_at.new.room before c.args.text.now _ c.self.inside.len c.args.start (c.args.end - c.args.start) c.copy_from_slice.ensures.after
    c.if-count-le-MOVE_LEN.true c.if-text-start-ge-MOVE_LEN.true (length-take-le c.self.inside.len c.self.inside.room (omega arith)) c.copy_at.ensures
    ∙ ap (λ l. l ++ take (c.args.end - c.args.start) (drop c.args.start c.args.text.now)) c.self.view_is
