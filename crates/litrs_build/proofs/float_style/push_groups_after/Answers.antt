-- One more digit, with or without a `_` before it, or a `_` that is left out.
use Rattle.std.proofs.Common.{◌≤◌, ◌+◌, ◌++◌, length, drop, get_or, string_bytes, sym, ap, ◌∙◌, arith}
use Rattle.std.specs.Prelude.{filter}
use Rattle.std.proofs.lemmas.List.{drop_more, drop_all}
use Rattle.litrs_base.specs.Numeral.{is_no_underscore}
use Rattle.litrs_build.specs.RewrittenFloat.{grouped_after}
use Rattle.litrs_build.proofs.RewrittenFloats.{after_done, after_step}
use Rattle.litrs_build.proofs.float_style.push_groups_after.Goals as goal

pub returns : goal.returns
returns c =
    let main = c.args.main.now in
    let i = c.loop-byte.byte-index in
    let past : length main ≤ i = omega arith in
    after_done c.args.group c.loop-byte.before (string_bytes c.loop-byte.text) _
    (ap (λ t. string_bytes c.loop-byte.text
    ++ grouped_after c.args.group c.loop-byte.before (filter is_no_underscore t))
    (sym (drop_all i main past)) ∙ c.loop-byte.invariant.written)

pub loop-byte-preserved : goal.loop-byte-preserved
loop-byte-preserved c =
    let main = c.args.main.now in
    let group = c.args.group in
    let i = c.loop-byte.byte-index in
    let byte = get_or main i 0 in
    let r = drop (i + 1) main in
    let before = c.loop-byte.before in
    let text = string_bytes c.loop-byte.text in
    let front = drop_more main i 0 c.loop-byte-test.true in
    record {
      within = omega (arith, c.loop-byte.invariant.within);
      written = after_step group before byte c.ends_group.result r text
          (string_bytes c.push_str.new.self) (string_bytes c.push_digit.new.text) _
          c.if-byte-eq95.false c.ends_group.ensures
          (c.in_ok-push_str.ensures.bytes ∙ ap (λ t. text ++ t) c.separator.ensures)
          c.in_ok-push_digit.ensures
          (ap (λ t. text ++ grouped_after group before (filter is_no_underscore t)) (sym front)
          ∙ c.loop-byte.invariant.written);
    }
