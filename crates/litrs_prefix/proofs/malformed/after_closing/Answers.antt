-- The search stops at the closing, at a character before which no closing begins, or at the end.
use Rattle.litrs_prefix.proofs.Words.{◌≡◌, [], ◌∷◌, drop, length, sym, ap, ◌∙◌, arith, drop_all, chars, ne_eqb, and_left, IsCharBoundary-from_drop, begins_with, raw_closing, first_passes, false, after_closing}
use Rattle.litrs_prefix.specs.Words.{string_kind, is_quote}
use Rattle.litrs_prefix.proofs.PieceBodies.{closing_later}
use Rattle.litrs_prefix.proofs.PlainLiterals.{stop_in, closing_in, closing_passed, closed_at}
use Rattle.litrs_prefix.proofs.malformed.after_closing.Goals as goal

pub overflow_add-end-in-Some : goal.overflow_add-end-in-Some
overflow_add-end-in-Some c =
    let s = stop_in string_kind _ _ _ _ _ _ c.switches.ensures c.as_bytes.ensures.value c.body_end-end.ensures.stop in
    let closing = closing_in _ _ _ _ _ _ _ _ c.as_bytes.ensures.value s c.range_from-stop.ensures.value c.body_end-end.ensures.closing (ap (first_passes is_quote) c.in-Some.ensures.parts ∙ ap is_quote c.if-c-eq34.true) in
    let within = closing.within in
    let fits = c.as_bytes.ensures.len in
    omega (arith, ap length c.as_bytes.ensures.value)

pub range_from-requires : goal.range_from-requires
range_from-requires c =
    let s = stop_in string_kind _ _ _ _ _ _ c.switches.ensures c.as_bytes.ensures.value c.body_end-end.ensures.stop in
    let closing = closing_in _ _ _ _ _ _ _ _ c.as_bytes.ensures.value s c.range_from-stop.ensures.value c.body_end-end.ensures.closing (ap (first_passes is_quote) c.in-Some.ensures.parts ∙ ap is_quote c.if-c-eq34.true) in
    λ _. IsCharBoundary-from_drop c.loop-c.rest.now _ closing.within closing.utf8

pub returns-in-Some : goal.returns-in-Some
returns-in-Some c =
    let s = stop_in string_kind _ _ _ _ _ _ c.switches.ensures c.as_bytes.ensures.value c.body_end-end.ensures.stop in
    let closing = closing_in _ _ _ _ _ _ _ _ c.as_bytes.ensures.value s c.range_from-stop.ensures.value c.body_end-end.ensures.closing (ap (first_passes is_quote) c.in-Some.ensures.parts ∙ ap is_quote c.if-c-eq34.true) in
    ap chars c.range_from.ensures.value ∙ (sym (closed_at c.args.hashes _ _ closing) ∙ (sym (closing_passed _ _ c.args.hashes _ _ _ s) ∙ c.loop-c.invariant.1))

pub loop-c-preserved : goal.loop-c-preserved
loop-c-preserved c =
    let n = c.args.hashes in
    let after = chars c.in-Some.field-0-1.now in
    let s = stop_in string_kind _ _ _ _ _ _ c.switches.ensures c.as_bytes.ensures.value c.body_end-end.ensures.stop in
    let none : begins_with (raw_closing n) (c.in-Some.c ∷ after) ≡ false = and_left _ _ (ne_eqb 34 c.in-Some.c (λ e. c.if-c-eq34.false (sym e))) in
    let left : chars (drop c.body_end-end.result c.loop-c.rest.now) ≡ c.in-Some.c ∷ after = ap chars (sym c.range_from-stop.ensures.value) ∙ c.in-Some.ensures.parts in (
      c.in-Some.ensures.rest,
      sym (ap (after_closing n) left ∙ closing_later n c.in-Some.c after none) ∙ (sym (closing_passed _ _ n _ _ _ s) ∙ c.loop-c.invariant.1),
    )

pub returns-in-None : goal.returns-in-None
returns-in-None c =
    let n = c.args.hashes in
    let s = stop_in string_kind _ _ _ _ _ _ c.switches.ensures c.as_bytes.ensures.value c.body_end-end.ensures.stop in
    let nothing : after_closing n [] ≡ [] = drop_all _ [] (omega arith) in
    c.in-None.ensures.empty ∙ (sym nothing ∙ (ap (after_closing n) (sym (ap chars (sym c.range_from-stop.ensures.value) ∙ c.in-None.ensures.empty)) ∙ (sym (closing_passed _ _ n _ _ _ s) ∙ c.loop-c.invariant.1)))
