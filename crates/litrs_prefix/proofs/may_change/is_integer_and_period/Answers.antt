-- The text before the period decides, and its parse.
use Rattle.litrs_prefix.proofs.Words.{refl, sym, ap, ◌∙◌, encode_utf8_all, false≢true, is_empty, IntegerParts, an_integer, integer_parts}
use Rattle.litrs_prefix.proofs.Pieces.{period_bytes, period_after}
use Rattle.litrs_prefix.proofs.may_change.is_integer_and_period.Goals as goal

pub returns-in-Ok : goal.returns-in-Ok
returns-in-Ok c =
    let is = c.in-Some.ensures.cases in
    let front = period_after c.args.text.now c.in-Some.front.now is.0 c.utf8.text is.2 is.1.0 is.1.1 is.1.2 in
    let only = c.in-Ok.ensures.ok in
    let same = c.is_empty.ensures ∙ ap is_empty c.suffix.ensures in (
      λ yes. front.1 (integer_parts c.in-Ok.lit, only.0, sym same ∙ yes),
      λ integer. let bare = front.0 integer in same ∙ (ap (λ (d : IntegerParts). is_empty d.suffix) (sym (only.1 bare.0 bare.1)) ∙ bare.2),
    )

pub returns-in-Err : goal.returns-in-Err
returns-in-Err c =
    let is = c.in-Some.ensures.cases in
    let front = period_after c.args.text.now c.in-Some.front.now is.0 c.utf8.text is.2 is.1.0 is.1.1 is.1.2 in (
      λ yes. absurd (false≢true yes),
      λ integer. let bare = front.0 integer in absurd (c.in-Err.ensures.refused.none (an_integer bare.0) (refl, bare.1)),
    )

pub returns-in-None : goal.returns-in-None
returns-in-None c = (
  λ yes. absurd (false≢true yes),
  λ integer. absurd (c.in-None.ensures.cases (encode_utf8_all integer.0) (sym (period_bytes c.args.text.now integer.0 c.utf8.text integer.2))),
)
