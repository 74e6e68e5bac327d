-- A text that is not a literal is refused, and that is shown.
use Rattle.std.proofs.Common.{inl, inr, ap, sym}
use Rattle.std.proofs.lemmas.Result.{IfOk-weaker}
use denote.Enum.Bare.{same_false}
use Rattle.litrs.specs.contracts.ParseErrorKind.{the_type}
use Rattle.litrs.specs.declared.ParseErrorKind.TheVariants.{OutOfMemory}
use Rattle.litrs_lines.specs.Refusal.{Refusal}
use Rattle.uses_prompt.proofs.answer_to.Goals as goal

pub returns-in-Err-2 : goal.returns-in-Err-2
returns-in-Err-2 c =
    IfOk-weaker c.shown_refusal.result _ _ (λ answer shows. elim (c.in-Err.ensures.refused) [
      | inl refused ↦ inr (c.in-Err.error, refused, shows)
      | inr lack ↦
          let kind = ap (λ (r : Refusal). r.kind) lack.error in
          absurd (same_false the_type c.kind.result OutOfMemory (sym c.if-eq.ensures) (cc))
    ]) c.shown_refusal.ensures.text
