-- One more digit, or a `_` that is left out.
use Rattle.std.proofs.Common.{◌≡◌, ◌≤◌, ◌+◌, ◌-◌, ◌++◌, suc, length, map, drop, get_or, string_bytes, sym, ap, ◌∙◌, arith}
use Rattle.std.specs.Prelude.{filter}
use Rattle.std.proofs.lemmas.List.{drop_more, drop_all}
use Rattle.litrs_base.specs.Numeral.{is_no_underscore}
use Rattle.litrs_build.specs.RewrittenInteger.{cased}
use Rattle.litrs_build.specs.WrittenDigits.{grouped}
use Rattle.litrs_build.proofs.GroupLemmas.{count-digit}
use Rattle.litrs_build.proofs.CasedIntegers.{push_step, push_done}
use Rattle.litrs_build.proofs.integer_style.push_cased_groups.Goals as goal

pub returns : goal.returns
returns c =
    let main = c.args.main.now in
    let i = c.loop-byte.byte-index in
    let past : length main ≤ i = omega arith in
    push_done (cased c.args.case) c.args.group (string_bytes c.loop-byte.text) _
    (ap (λ t. string_bytes c.loop-byte.text
    ++ grouped c.args.group (map (cased c.args.case) (filter is_no_underscore t)))
    (sym (drop_all i main past)) ∙ c.loop-byte.invariant.written)

pub loop-byte-preserved : goal.loop-byte-preserved
loop-byte-preserved c =
    let main = c.args.main.now in
    let group = c.args.group in
    let i = c.loop-byte.byte-index in
    let byte = get_or main i 0 in
    let r = drop (i + 1) main in
    let after = c.loop-byte.after in
    let text = string_bytes c.loop-byte.text in
    let front = drop_more main i 0 c.loop-byte-test.true in
    let one = count-digit byte r c.if-byte-eq95.false in
    let before : after ≡ suc (length (filter is_no_underscore r)) =
    c.loop-byte.invariant.count ∙ (ap (λ t. length (filter is_no_underscore t)) front ∙ one) in
    let count : after - 1 ≡ length (filter is_no_underscore r) = omega arith in
    record {
      count = count;
      written = push_step (cased c.args.case) group byte
          (after - 1) c.cased.result c.ends_group.result r text
          (string_bytes c.push_digit.new.text) _
          c.if-byte-eq95.false count c.cased.ensures.value c.ends_group.ensures
          c.in_ok-push_digit.ensures
          (ap (λ t. text ++ grouped group (map (cased c.args.case) (filter is_no_underscore t)))
          (sym front) ∙ c.loop-byte.invariant.written);
    }
