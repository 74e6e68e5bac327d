-- The marks that are left of an earlier load, and after them a new one.
use Rattle.std.proofs.Common.{◌≡◌, ◌+◌, ◌-◌, ◌/◌, ◌^◌, ◌<◌, ◌≤◌, List, drop, subst, ap, ◌∙◌, arith, ℕ}
use Rattle.std.specs.List.{prefix_len}
use Rattle.std.proofs.lemmas.List.{take_rest}
use Rattle.litrs_lex.specs.declared.search.Mask.{Mask}
use Rattle.litrs_lex.specs.declared.search.Special.{Special}
use Rattle.litrs_lex.specs.Mask.{IsMaskOf}
use Rattle.litrs_lex.specs.Special.{is_special, is_ordinary}
use Rattle.litrs_lex.proofs.MarkedRuns.{run_through, run_stops, run_empty, run_one, rest_marks}
use Rattle.litrs_lex.proofs.search.next_special_masked.Goals as goal
use Rattle.litrs_lex.proofs.search.next_special_masked.Goals.{then-from-mask+else-not-what+else-not-what-2+else-found-ne0, else-from-mask}

pub returns-then-found-eq1-clause-place : goal.returns-then-found-eq1-clause-place
returns-then-found-eq1-clause-place c =
    let m = c.args.mask in
    let rest = rest_marks (is_special c.args.what) c.args.bytes.now m.start m.end c.args.from m.bits c.requires.mask.bits c.requires.after (omega arith) in
    let fits = c.requires.mask.within in let few = c.requires.mask.few in
    omega (arith, run_empty (is_special c.args.what) c.args.bytes.now c.args.from (m.end - c.args.from) _ rest (omega arith) (omega arith) (omega arith))

pub returns-then-found-eq2-clause-place : goal.returns-then-found-eq2-clause-place
returns-then-found-eq2-clause-place c =
    let m = c.args.mask in
    let rest = rest_marks (is_special c.args.what) c.args.bytes.now m.start m.end c.args.from m.bits c.requires.mask.bits c.requires.after (omega arith) in
    let fits = c.requires.mask.within in let few = c.requires.mask.few in
    omega (arith, run_one (is_special c.args.what) c.args.bytes.now c.args.from (m.end - c.args.from) _ rest (omega arith) (omega arith) (omega arith))

pub returns-then-found-ne0-clause-place : goal.returns-then-found-ne0-clause-place
returns-then-found-ne0-clause-place c =
    let m = c.args.mask in
    let rest = rest_marks (is_special c.args.what) c.args.bytes.now m.start m.end c.args.from m.bits c.requires.mask.bits c.requires.after (omega arith) in
    let fits = c.requires.mask.within in let few = c.requires.mask.few in
    omega (arith, run_stops (is_special c.args.what) c.args.bytes.now c.args.from (m.end - c.args.from) _ rest (omega arith) (omega arith) (omega arith))

-- If no mark is left, the search continues at the end of the mask.
after_marks : (what : Special) (bytes : List ℕ) (m : Mask) (from unread found : ℕ) → IsMaskOf what bytes m → m.start ≤ from → from < m.end →
    m.bits / 2 ^ (from - m.start) ≡ 0 → unread ≡ m.end → found ≡ unread + prefix_len (is_ordinary what) (drop unread bytes) →
    found ≡ from + prefix_len (is_ordinary what) (drop from bytes)
after_marks what bytes m from unread found is after before none end place =
    let fits = is.within in
    let rest = rest_marks (is_special what) bytes m.start m.end from m.bits is.bits after (omega arith) in
    let on : unread ≡ from + (m.end - from) = omega arith in
    let moved = subst (λ (n : ℕ). found ≡ n + prefix_len (is_ordinary what) (drop n bytes)) on place in
    omega (arith, run_through (is_special what) bytes from (m.end - from) _ rest (omega arith) none, moved)

unmoved : (what : Special) (bytes : List ℕ) (from unread found : ℕ) → unread ≡ from → found ≡ unread + prefix_len (is_ordinary what) (drop unread bytes) →
    found ≡ from + prefix_len (is_ordinary what) (drop from bytes)
unmoved what bytes from unread found same place = subst (λ (n : ℕ). found ≡ n + prefix_len (is_ordinary what) (drop n bytes)) same place

pub returns-in-0-to-3-clause-place : goal.returns-in-0-to-3-clause-place
returns-in-0-to-3-clause-place c =
    let unread = c.if-from-mask.unread in
    let place : unread + c.ordinary_len.result ≡ unread + prefix_len (is_ordinary c.args.what) (drop unread c.args.bytes.now) =
    ap (λ n. unread + n) (c.ordinary_len.ensures.len ∙ ap (prefix_len (is_ordinary c.args.what)) (take_rest c.args.bytes.now unread)) in
    elim c.if-from-mask.branch [
      | then-from-mask+else-not-what+else-not-what-2+else-found-ne0 w ↦
          after_marks c.args.what c.args.bytes.now c.args.mask c.args.from _ _ c.requires.mask c.requires.after (omega arith) (omega arith) w.unread-is place
      | else-from-mask w ↦ unmoved c.args.what c.args.bytes.now c.args.from _ _ w.unread-is place
    ]

pub returns-in-4-to-7-clause-place : goal.returns-in-4-to-7-clause-place
returns-in-4-to-7-clause-place c =
    elim c.if-from-mask.branch [
      | then-from-mask+else-not-what+else-not-what-2+else-found-ne0 w ↦
          after_marks c.args.what c.args.bytes.now c.args.mask c.args.from _ _ c.requires.mask c.requires.after (omega arith) (omega arith) w.unread-is c.mask_all.ensures.place
      | else-from-mask w ↦ unmoved c.args.what c.args.bytes.now c.args.from _ _ w.unread-is c.mask_all.ensures.place
    ]

pub returns-in-8-to-31-clause-place : goal.returns-in-8-to-31-clause-place
returns-in-8-to-31-clause-place c =
    elim c.if-from-mask.branch [
      | then-from-mask+else-not-what+else-not-what-2+else-found-ne0 w ↦
          after_marks c.args.what c.args.bytes.now c.args.mask c.args.from _ _ c.requires.mask c.requires.after (omega arith) (omega arith) w.unread-is c.mask_all-in-8-to-31.ensures.place
      | else-from-mask w ↦ unmoved c.args.what c.args.bytes.now c.args.from _ _ w.unread-is c.mask_all-in-8-to-31.ensures.place
    ]

pub returns-in_default-clause-place : goal.returns-in_default-clause-place
returns-in_default-clause-place c =
    elim c.if-from-mask.branch [
      | then-from-mask+else-not-what+else-not-what-2+else-found-ne0 w ↦
          after_marks c.args.what c.args.bytes.now c.args.mask c.args.from _ _ c.requires.mask c.requires.after (omega arith) (omega arith) w.unread-is c.mask_by_lanes.ensures.place
      | else-from-mask w ↦ unmoved c.args.what c.args.bytes.now c.args.from _ _ w.unread-is c.mask_by_lanes.ensures.place
    ]
