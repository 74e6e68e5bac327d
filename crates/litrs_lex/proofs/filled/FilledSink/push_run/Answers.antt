-- The run goes into the piece.
use Rattle.std.proofs.Common.{◌-◌, ◌++◌, take, drop, ◌∙◌, ap, subst}
use Rattle.std.specs.Str.{IsUtf8}
use Rattle.litrs_lex.proofs.Sinks.{piece_grows}
use Rattle.litrs_lex.proofs.filled.FilledSink.push_run.Goals as goal

pub returns-then-push_part-clause-taken : goal.returns-then-push_part-clause-taken
returns-then-push_part-clause-taken g c = λ _ v held.
    piece_grows g.C.EscapeContainer.TAKES_BYTES (g.C.EscapeContainer.contents c.args.self.now.into) c.args.self.now.piece _ v _
    (c.push_part.ensures.taken c.if-push_part.true ∙ ap (λ l. c.args.self.now.piece ++ take (c.args.end - c.args.start) (drop c.args.start l)) c.as_bytes.ensures.value)
    (λ _. subst IsUtf8 c.range-run.ensures.value c.range-run.utf8) held
