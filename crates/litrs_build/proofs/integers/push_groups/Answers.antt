-- Each turn appends one group and a `_`; the last group has no other after it.
use Rattle.std.proofs.Common.{◌≡◌, ◌<◌, ◌+◌, ◌%◌, ◌++◌, ℕ, List, length, take, drop, string_bytes, refl, sym, ap, subst, ◌∙◌, arith}
use Rattle.std.specs.Prelude.{OnOk}
use Rattle.std.proofs.lemmas.List.{take_rest, length-drop}
use Rattle.std.proofs.lemmas.Str.{IsAscii-take, IsAscii-drop, encode_ascii}
use Rattle.std.proofs.Math.Nat.{mod-lt, mod-eq-sub-mod}
use Rattle.litrs_build.specs.WrittenDigits.{grouped}
use Rattle.litrs_build.proofs.GroupRuns.{grouped_none, grouped_short, rest_whole, group_step}
use Rattle.litrs_build.proofs.integers.push_groups.Goals as goal

pub returns-then-group-eq0 : goal.returns-then-group-eq0
returns-then-group-eq0 c =
    let digits = c.args.digits.now in
    let none : digits ≡ grouped c.args.group digits =
    sym (ap (λ (g : ℕ). grouped g digits) c.if-group-eq0.true ∙ grouped_none digits) in
    subst (λ (t : List ℕ). OnOk c.push_ascii.result
    (string_bytes c.push_ascii.new.text ≡ string_bytes c.args.text.now ++ t)) none
    c.push_ascii.ensures

pub loop-rest-init : goal.loop-rest-init
loop-rest-init c =
    let group = c.args.group in
    let before = c.saturating_sub.result in
    let some : 0 < group = omega arith in
    record {
      ascii = c.requires;
      some = omega arith;
      few = omega (arith, mod-lt before some);
      whole = λ many. rest_whole group (length c.args.digits.now) (before % group + 1) some (omega arith)
          (ap (λ n. n % group + 1) c.saturating_sub.ensures);
      written = refl;
    }

pub loop-rest-preserved : goal.loop-rest-preserved
loop-rest-preserved c =
    let rest = c.loop-rest.rest.now in
    let len = c.loop-rest.len in
    let group = c.args.group in
    let held = c.loop-rest.invariant in
    let mid = string_bytes c.push_ascii-in-loop-rest.new.text in
    let left = held.whole c.loop-rest-test.true in
    record {
      ascii = IsAscii-take (drop len rest) _ (IsAscii-drop rest len held.ascii);
      some = omega arith;
      few = omega arith;
      whole = λ many. sym (mod-eq-sub-mod (omega arith))
          ∙ (ap (λ n. n % group) (ap length (take_rest rest len) ∙ length-drop len rest) ∙ left);
      written = group_step group len (string_bytes c.loop-rest.text) (take len rest) mid
          (string_bytes c.push.new.self) rest _ _ held.some held.few c.loop-rest-test.true left refl
          (take_rest rest len) c.in_ok-push_ascii.ensures
          (c.in_ok-push.ensures.bytes
          ∙ ap (λ (t : List ℕ). mid ++ t) (encode_ascii 95 (omega arith)))
          held.written;
    }

pub returns : goal.returns
returns c =
    let rest = c.loop-rest.rest.now in
    let all = ap (λ (t : List ℕ). string_bytes c.loop-rest.text ++ t)
    (sym (grouped_short c.args.group rest c.loop-rest-test.false))
    ∙ c.loop-rest.invariant.written in
    subst (λ (t : List ℕ). OnOk c.push_ascii-2.result (string_bytes c.push_ascii-2.new.text ≡ t))
    all c.push_ascii-2.ensures
