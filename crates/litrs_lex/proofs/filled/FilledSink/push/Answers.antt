-- The value goes into the piece, or into an empty one after the piece.
use Rattle.std.proofs.Common.{length, sym, ap, arith}
use Rattle.litrs_lex.specs.QuotedItems.{item_bytes}
use Rattle.litrs_lex.proofs.Sinks.{grown, piece_grows, refilled, pushed, few_bytes}
use Rattle.litrs_lex.proofs.filled.FilledSink.push.Goals as goal

pub returns-then-push_value-clause-taken : goal.returns-then-push_value-clause-taken
returns-then-push_value-clause-taken g c = λ _ v held.
    grown g.C.EscapeContainer.TAKES_BYTES (g.C.EscapeContainer.contents c.args.self.now.into) c.push_value.new.self v _ _ (sym (ap item_bytes c.in-Some.is))
    (piece_grows g.C.EscapeContainer.TAKES_BYTES (g.C.EscapeContainer.contents c.args.self.now.into) c.args.self.now.piece c.push_value.new.self v _
    (c.push_value.ensures.taken c.if-push_value.true)
    (c.push_value.ensures.text _ (pushed g.C.EscapeContainer.TAKES_BYTES c.args.value c.in-Some.value c.in-Some.is c.requires.pushable)) held)

pub returns-then-flush-clause-taken : goal.returns-then-flush-clause-taken
returns-then-flush-clause-taken g c = λ ok v held.
    let full = c.push_value.ensures.full c.if-push_value.false in
    let done = c.flush.ensures.done c.if-flush.true in
    grown g.C.EscapeContainer.TAKES_BYTES (g.C.EscapeContainer.contents c.flush.new.self.into) c.push_value-then-flush.new.self v _ _ (sym (ap item_bytes c.in-Some.is))
    (refilled g.C.EscapeContainer.TAKES_BYTES (g.C.EscapeContainer.contents c.args.self.now.into) c.flush.new.self.piece c.args.self.now.piece c.push_value.new.self
    (g.C.EscapeContainer.contents c.flush.new.self.into) c.push_value-then-flush.new.self v _ full.0 done.0 done.1 (c.push_value-then-flush.ensures.taken ok)
    (c.push_value.ensures.text _ (pushed g.C.EscapeContainer.TAKES_BYTES c.args.value c.in-Some.value c.in-Some.is c.requires.pushable)) held)

pub returns-then-flush-clause-full : goal.returns-then-flush-clause-full
returns-then-flush-clause-full g c = λ no v held.
    let done = c.flush.ensures.done c.if-flush.true in
    let full = c.push_value-then-flush.ensures.full no in
    absurd (omega (arith, full.1, ap length done.1, few_bytes c.in-Some.value))
