-- Each turn adds the start of the next line.
use Rattle.std.proofs.Common.{◌≡◌, ℕ, List, [], ◌∷◌, ◌+◌, ◌-◌, ◌<◌, ◌≤◌, length, drop, count_by, subst, sym, arith, length-append}
use Rattle.std.specs.Str.{chars}
use Rattle.litrs_diagnostic.specs.Position.{is_line_feed}
use Rattle.std.proofs.lemmas.List.{get_or_default}
use Rattle.std.proofs.lemmas.List.Sorted.{IsNonDecreasingBy-short, IsNonDecreasingBy-push}
use Rattle.litrs_diagnostic.specs.Lines.{IsLineStart}
use Rattle.litrs_diagnostic.proofs.LineStarts.{all_line_feeds, each_start, first_start, next_start, more_starts, no_later}
use Rattle.litrs_diagnostic.proofs.line_starts.Lines.new.Goals as goal

pub loop-len-init : goal.loop-len-init
loop-len-init c =
    rw c.new-starts.ensures.items (record {
      here = first_start c.args.source.now c.utf8.source;
      starts = λ k within. absurd (omega arith);
      sorted = IsNonDecreasingBy-short (λ (x : ℕ). x) [] (omega arith);
      last = λ k within. absurd (omega arith);
    })

pub loop-len-preserved : goal.loop-len-preserved
loop-len-preserved c =
    let source = c.args.source.now in
    let starts = c.loop-len.starts.items in
    let start = c.loop-len.start + c.in-Some.len in
    let now = c.loop-len.invariant in
    let next = next_start source _ (length starts) c.loop-len.start c.in-Some.len c.utf8.source
    now.here c.range_from.ensures.value c.in-Some.ensures.some in
    let order : c.loop-len.start ≤ start = omega arith in
    rw c.in_ok-push.ensures.items (record {
      here = subst (λ (n : ℕ). IsLineStart source n start)
          (sym (length-append starts (start ∷ []))) next;
      starts = more_starts source starts start now.starts next;
      sorted = IsNonDecreasingBy-push (λ (x : ℕ). x) starts start now.sorted (λ d some.
          let within : length starts - 1 < length starts = omega (arith, some) in
          let last = now.last (length starts - 1) within in
          let same = get_or_default starts (length starts - 1) d 0 within in
          omega (arith, last, same, order));
      last = no_later starts c.loop-len.start start order now.last;
    })

pub returns-in_err-push-clause-succeeds : goal.returns-in_err-push-clause-succeeds
returns-in_err-push-clause-succeeds c = λ none.
    let source = c.args.source.now in
    let number = length c.loop-len.starts.items in
    let start = c.loop-len.start + c.in-Some.len in
    let next = next_start source _ number c.loop-len.start c.in-Some.len c.utf8.source
    c.loop-len.invariant.here c.range_from.ensures.value c.in-Some.ensures.some in
    let all = all_line_feeds source (number + 1) start c.utf8.source next in
    absurd (omega (arith, all, none))

pub invariant_of-result : goal.invariant_of-result
invariant_of-result c =
    let source = c.args.source.now in
    let now = c.loop-len.invariant in
    let none : count_by is_line_feed (chars (drop c.loop-len.start source)) ≡ 0 =
    subst (λ (bs : List ℕ). count_by is_line_feed (chars bs) ≡ 0) c.range_from.ensures.value
    c.in_default.ensures.none in (
      c.utf8.source,
      now.starts,
      now.sorted,
      each_start source (length c.loop-len.starts.items) c.loop-len.start c.utf8.source now.here none,
    )
