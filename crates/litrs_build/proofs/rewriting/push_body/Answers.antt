-- Each turn takes a run or one item; at the quote all have been appended.
use Rattle.std.proofs.Common.{◌≡◌, ◌<◌, ◌++◌, ◌∷◌, ℕ, List, true, false, length, take, refl, sym, ap, ◌∙◌, subst, arith, encode_utf8_all, string_bytes}
use Rattle.std.proofs.lemmas.List.{length-drop}
use Rattle.litrs_grammar.specs.Quoted.{body_text}
use Rattle.litrs_build.specs.Rewriting.{rewritten_items, run_len}
use Rattle.litrs_build.specs.declared.rewriting.Before.TheVariants.{Mark, Text}
use Rattle.litrs_build.proofs.RewrittenLiterals.{IsLeft, take_item, item_step, some_begins, at_quote, front_slice, quote_test}
use Rattle.litrs_build.proofs.RewrittenRuns.{run_cut, take_run}
use Rattle.litrs_build.proofs.rewriting.push_body.Goals as goal

pub loop-allowed-init : goal.loop-allowed-init
loop-allowed-init c = (c.utf8.body, λ items suffix b. (items, b, refl))

pub range-requires-clause-end_boundary : goal.range-requires-clause-end_boundary
range-requires-clause-end_boundary c =
    let rest = c.loop-allowed.rest.now in
    let before = c.loop-allowed.before in
    let style = c.args.style.now in
    run_cut style before rest c.run_len-run.result c.loop-allowed.invariant.0
    (c.run_len-run.ensures.len
    ∙ ap (run_len style.escapes before) c.as_bytes-in-loop-allowed.ensures.value)
    c.if-run-gt0.true

pub range_from-rest-requires : goal.range_from-rest-requires
range_from-rest-requires c = λ some.
    let rest = c.loop-allowed.rest.now in
    let before = c.loop-allowed.before in
    let style = c.args.style.now in
    run_cut style before rest c.run_len-run.result c.loop-allowed.invariant.0
    (c.run_len-run.ensures.len
    ∙ ap (run_len style.escapes before) c.as_bytes-in-loop-allowed.ensures.value)
    c.if-run-gt0.true

pub loop-allowed-preserved-then-run-gt0 : goal.loop-allowed-preserved-then-run-gt0
loop-allowed-preserved-then-run-gt0 c = (
  c.range_from-rest.utf8,
  λ items suffix b.
      let rest = c.loop-allowed.rest.now in
      let before = c.loop-allowed.before in
      let n = c.run_len-run.result in
      let text = string_bytes c.loop-allowed.text in
      let new = string_bytes c.push_str.new.self in
      let total = string_bytes c.args.text.now ++ encode_utf8_all
      (body_text (rewritten_items c.args.style.now Mark items) ++ 34 ∷ suffix) in
      let escapes = c.args.style.now.escapes in
      let is : n ≡ run_len escapes before rest = c.run_len-run.ensures.len
      ∙ ap (run_len escapes before) c.as_bytes-in-loop-allowed.ensures.value in
      let pushed : new ≡ text ++ take n rest = c.in_ok-push_str.ensures.bytes
      ∙ ap (λ (t : List ℕ). text ++ t) (c.range.ensures.value ∙ front_slice rest n) in
      subst (λ (l : List ℕ). IsLeft c.args.allowed c.args.style.now Text l new suffix total)
      (sym c.range_from-rest.ensures.value)
      (take_run c.args.allowed c.args.style.now before n rest text new suffix total
      c.loop-allowed.invariant.0 is c.if-run-gt0.true pushed
      (c.loop-allowed.invariant.1 items suffix b)),
)

pub read_item-item-requires : goal.read_item-item-requires
read_item-item-requires c =
    let rest = c.loop-allowed.rest.now in
    let left = c.loop-allowed.invariant.1 c.requires.0 c.requires.1 c.requires.2 in
    let other = quote_test rest c.as_bytes.result.now c.starts_with.result false
    c.as_bytes.ensures.value c.starts_with.ensures
    c.loop-allowed-test.true in
    some_begins c.args.allowed rest left.0 c.requires.1 c.loop-allowed.invariant.0 other left.1

pub range-requires-in-loop-allowed-clause-end_boundary : goal.range-requires-in-loop-allowed-clause-end_boundary
range-requires-in-loop-allowed-clause-end_boundary c =
    let rest = c.loop-allowed.rest.now in
    let left = c.loop-allowed.invariant.1 c.requires.0 c.requires.1 c.requires.2 in
    let other = quote_test rest c.as_bytes.result.now c.starts_with.result false
    c.as_bytes.ensures.value c.starts_with.ensures
    c.loop-allowed-test.true in
    (item_step c.args.allowed rest c.read_item-item.result.1 c.read_item-item.result.0 left.0
    c.requires.1 c.loop-allowed.invariant.0 other left.1 c.read_item-item.ensures).2.boundary

pub range_from-rest-requires-in-loop-allowed : goal.range_from-rest-requires-in-loop-allowed
range_from-rest-requires-in-loop-allowed c = λ some.
    let rest = c.loop-allowed.rest.now in
    let left = c.loop-allowed.invariant.1 c.requires.0 c.requires.1 c.requires.2 in
    let other = quote_test rest c.as_bytes.result.now c.starts_with.result false
    c.as_bytes.ensures.value c.starts_with.ensures
    c.loop-allowed-test.true in
    (item_step c.args.allowed rest c.read_item-item.result.1 c.read_item-item.result.0 left.0
    c.requires.1 c.loop-allowed.invariant.0 other left.1 c.read_item-item.ensures).2.boundary

pub loop-allowed-smaller : goal.loop-allowed-smaller
loop-allowed-smaller c =
    let rest = c.loop-allowed.rest.now in
    let left = c.loop-allowed.invariant.1 c.requires.0 c.requires.1 c.requires.2 in
    let other = quote_test rest c.as_bytes.result.now c.starts_with.result false
    c.as_bytes.ensures.value c.starts_with.ensures
    c.loop-allowed-test.true in
    let turn = (item_step c.args.allowed rest c.read_item-item.result.1 c.read_item-item.result.0 left.0
    c.requires.1 c.loop-allowed.invariant.0 other left.1 c.read_item-item.ensures).2 in
    let some = turn.some in
    let within = turn.within in
    let size = ap length c.range_from-rest-in-loop-allowed.ensures.value
    ∙ length-drop c.read_item-item.result.1 rest in
    let less : length c.range_from-rest-in-loop-allowed.result.now < length rest =
    omega (arith, some, within, size) in less

pub loop-allowed-preserved : goal.loop-allowed-preserved
loop-allowed-preserved c = (
  c.range_from-rest-in-loop-allowed.utf8,
  λ items suffix b.
      let rest = c.loop-allowed.rest.now in
      let len = c.read_item-item.result.1 in
      let total = string_bytes c.args.text.now ++ encode_utf8_all
      (body_text (rewritten_items c.args.style.now Mark items) ++ 34 ∷ suffix) in
      let other = quote_test rest c.as_bytes.result.now c.starts_with.result false
      c.as_bytes.ensures.value c.starts_with.ensures
      c.loop-allowed-test.true in
      subst (λ (l : List ℕ). IsLeft c.args.allowed c.args.style.now c.after-before.result l
      (string_bytes c.push_rewriting.new.text) suffix total) (sym c.range_from-rest-in-loop-allowed.ensures.value)
      (take_item c.args.allowed c.args.style.now c.loop-allowed.before c.after-before.result rest
      (string_bytes c.loop-allowed.text) (string_bytes c.push_rewriting.new.text) suffix total
      c.read_item-item.result.0 len c.rewriting_of-rewriting.result c.loop-allowed.invariant.0 other
      c.read_item-item.ensures c.rewriting_of-rewriting.ensures
      (λ item front. c.in_ok-push_rewriting.ensures item
      (c.range-in-loop-allowed.ensures.value ∙ (front_slice rest len ∙ front)))
      c.after-before.ensures (c.loop-allowed.invariant.1 items suffix b)),
)

pub returns : goal.returns
returns c = λ items suffix b.
    let rest = c.loop-allowed.rest.now in
    let quote = quote_test rest c.as_bytes.result.now c.starts_with.result true
    c.as_bytes.ensures.value c.starts_with.ensures
    c.loop-allowed-test.false in
    at_quote c.args.allowed c.args.style.now c.loop-allowed.before rest
    (string_bytes c.loop-allowed.text) (string_bytes c.push_str-2.new.self) suffix _
    c.loop-allowed.invariant.0 quote c.in_ok-push_str-2.ensures.bytes
    (c.loop-allowed.invariant.1 items suffix b)
