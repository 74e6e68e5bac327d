-- By the first byte.
use Rattle.std.proofs.Common.{◌≡◌, ◌∙◌, Some, None, sym, ap, slice_get}
use Rattle.std.specs.Str.{chars}
use Rattle.litrs_base.specs.Refusal.{at_byte}
use Rattle.litrs_base.proofs.CharEnds.{no_span}
use Rattle.litrs_lex.proofs.QuotedBytes.{char_refused, end_refused}
use Rattle.litrs_lex.proofs.stop.stop_refusal.Goals as goal

pub returns-in-Some : goal.returns-in-Some
returns-in-Some c = λ w stops.
    let first : slice_get c.args.rest.now 0 ≡ Some c.in-Some.first.now = ap (λ bs. slice_get bs 0) (sym c.as_bytes.ensures.value) ∙ sym c.in-Some.ensures.value in record {
      table = char_refused w c.args.rest.now c.in-Some.first.now c.utf8.rest first c.requires.quote c.requires.slash stops
          ∙ (ap (λ k. Some (at_byte 0 k)) (sym c.char_refusal.ensures) ∙ ap Some (sym c.in_text.ensures.refusal));
      char_span = c.in_text.ensures.char_span;
    }

pub returns-in-None : goal.returns-in-None
returns-in-None c = λ w stops.
    let none : slice_get c.args.rest.now 0 ≡ None = ap (λ bs. slice_get bs 0) (sym c.as_bytes.ensures.value) ∙ sym c.in-None.ensures.value in record {
      table = end_refused w c.args.rest.now none ∙ ap Some (sym c.new.ensures.refusal);
      char_span = no_span (chars c.args.rest.now) c.new.result _ c.new.ensures.refusal;
    }
