-- The ASCII characters at the front are passed by their bytes, and each other one is of the run.
use Rattle.litrs_prefix.proofs.Words.{◌≡◌, true, List, ◌∷◌, ℕ, sym, ap, ◌∙◌, prefix_len, chars, is_word, is_xid_continue, after_run, after_bytes, after_first, if_true}
use Rattle.litrs_prefix.proofs.Runs.{name_cut}
use Rattle.litrs_prefix.proofs.opening.after_run.Goals as goal

pub range_from-rest-requires : goal.range_from-rest-requires
range_from-rest-requires c = λ _. (name_cut c.args.text.now c.run_end.result c.utf8.text (c.run_end.ensures.run ∙ ap (prefix_len is_word) c.as_bytes.ensures.value)).0

pub loop-c-init : goal.loop-c-init
loop-c-init c =
    let back = c.range_from-rest.ensures.value in (
      c.range_from-rest.utf8,
      ap (λ (l : List ℕ). after_run (chars l)) back ∙ (name_cut c.args.text.now c.run_end.result c.utf8.text (c.run_end.ensures.run ∙ ap (prefix_len is_word) c.as_bytes.ensures.value)).1,
      after_bytes c.args.text.now _ c.run_end.result back,
    )

pub loop-c-preserved : goal.loop-c-preserved
loop-c-preserved c =
    let passes : is_xid_continue c.in-Some.c ≡ true = sym c.is_xid_continue.ensures.value ∙ c.if-is_xid_continue.true in
    let after = c.in-Some.after.now in
    let inv = c.loop-c.invariant in (
      c.in-Some.ensures.rest,
      sym (ap after_run c.in-Some.ensures.parts ∙ if_true (is_xid_continue c.in-Some.c) (after_run (chars after)) (c.in-Some.c ∷ chars after) passes) ∙ inv.1,
      after_first c.args.text.now c.loop-c.rest.now after c.in-Some.c inv.2 c.in-Some.ensures.bytes,
    )
