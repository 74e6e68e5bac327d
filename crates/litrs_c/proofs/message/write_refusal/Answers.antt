-- The description and the span, one after the other.
use Rattle.std.proofs.Common.{ℕ, ◌++◌, sym, subst, ◌∙◌}
use Rattle.std.specs.Prelude.{Option}
use Rattle.std.specs.declared.ops.Range.{Range}
use Rattle.litrs_base.specs.Refusal.{kind_of, span_text}
use Rattle.litrs_base.specs.Kind.{kind_text}
use Rattle.litrs_c.specs.Answers.{IsWritten}
use Rattle.litrs_c.proofs.Rooms.{written_on, written_all}
use Rattle.litrs_c.proofs.message.write_refusal.Goals as goal

pub returns-in-Some : goal.returns-in-Some
returns-in-Some c =
    let both = written_all _ _ _ _ (written_on 0 _ _ _ _ _ _ _ c.write_from-end.ensures c.write_span.ensures) in
    let first = rw (c.description.ensures, c.kind.ensures) at both in
    subst (λ (span : Option (Range ℕ)). IsWritten (kind_text (kind_of c.args.error.now) ++ span_text span) c.args.room.now c.write_span.new.room c.write_span.result)
    (sym c.in-Some.is ∙ c.span.ensures) first
