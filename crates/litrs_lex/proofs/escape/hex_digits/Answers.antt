-- A digit more, or underscores.
use Rattle.std.proofs.Common.{◌≡◌, [], ◌∷◌, ◌-◌, drop, take, length, sym, List, ℕ, ◌^◌, ◌*◌, cond, get_or, ap, ◌∙◌, refl, arith}
use Rattle.std.specs.Char.{is_ascii_hexdigit}
use Rattle.std.proofs.lemmas.Grind.{pow_more}
use Rattle.std.proofs.lemmas.Bool.{or_left}
use Rattle.litrs_grammar.specs.Escape.{is_hex_or_underscore}
use Rattle.std.proofs.lemmas.Bool.Decides.{Decides-eqb}
use Rattle.std.proofs.lemmas.Slice.Eq.{starts_is}
use Rattle.litrs_lex.proofs.FloatBytes.{rest_is}
use Rattle.litrs_lex.proofs.NumeralLemmas.{numeral-nil, numeral_digit}
use Rattle.litrs_lex.proofs.EscapeBytes.{six_digits, digit_small, all_more, count_one, digit_no_underscore, four_underscores_more, underscore_more}
use Rattle.litrs_lex.proofs.escape.hex_digits.Goals as goal
use Rattle.litrs_lex.proofs.escape.hex_digits.Goals.{then-byte-ne95+in-Some, else-byte-ne95}

pub loop-len-init : goal.loop-len-init
loop-len-init c = record {
  within = omega arith;
  passes = refl;
  count = refl;
  few = omega arith;
  value = numeral-nil 16;
  small = omega arith;
}

pub overflow_mul-value : goal.overflow_mul-value
overflow_mul-value c =
    let small = six_digits c.loop-len.value c.loop-len.count c.loop-len.invariant.small c.if-count-lt6.true in omega arith

pub overflow_add-value : goal.overflow_add-value
overflow_add-value c =
    let small = six_digits c.loop-len.value c.loop-len.count c.loop-len.invariant.small c.if-count-lt6.true in
    let digit = digit_small (get_or c.args.bytes.now c.loop-len.len 0) c.in-Some.ensures.0 in
    let is = c.in-Some.ensures.1 in
    let wide = c.from.ensures in omega arith

pub loop-len-preserved-then-starts_with : goal.loop-len-preserved-then-starts_with
loop-len-preserved-then-starts_with c =
    let t = c.args.bytes.now in
    let i = c.loop-len.len in
    let begins = (starts_is Decides-eqb (take (length t - i) (drop i t)) (95 ∷ 95 ∷ 95 ∷ 95 ∷ []) _ c.starts_with.ensures.value).0 c.if-starts_with.true in
    let rest = rest_is t t i refl in
    let front : drop i t ≡ 95 ∷ 95 ∷ 95 ∷ 95 ∷ drop 4 (drop i t) = sym rest ∙ (begins ∙ ap (λ (l : List ℕ). 95 ∷ 95 ∷ 95 ∷ 95 ∷ drop 4 l) rest) in
    let more = four_underscores_more t (drop 4 (drop i t)) i front c.loop-len.invariant.passes in
    record {
      within = more.0;
      passes = more.1;
      count = more.2 ∙ c.loop-len.invariant.count;
      few = c.loop-len.invariant.few;
      value = more.3 ∙ c.loop-len.invariant.value;
      small = c.loop-len.invariant.small;
    }

pub loop-len-preserved : goal.loop-len-preserved
loop-len-preserved c =
    let t = c.args.bytes.now in
    let i = c.loop-len.len in
    let b = get_or t i 0 in
    elim c.if-byte-ne95.branch [
      | then-byte-ne95+in-Some w ↦
          let hex = w.in-Some.ensures.0 in
          let digit = digit_small b hex in
          let is = w.in-Some.ensures.1 in
          let wide = w.from.ensures in
          let is-count = w.count-is in
          let is-value = w.value-is in
          let small = c.loop-len.invariant.small in
          let value = c.loop-len.invariant.value in
          let power : 16 ^ c.if-byte-ne95.count ≡ 16 ^ c.loop-len.count * 16 =
          ap (λ n. 16 ^ n) is-count ∙ pow_more 16 c.loop-len.count in
          let all = c.loop-len.invariant.count in
          record {
            within = omega arith;
            passes = all_more is_hex_or_underscore t i c.loop-len-test.true c.loop-len.invariant.passes (or_left _ _ hex);
            count = (let one : cond {A = ℕ} (is_ascii_hexdigit b) 1 0 ≡ 1 = ap (λ v. cond {A = ℕ} v 1 0) hex in
                let more = count_one is_ascii_hexdigit t i c.loop-len-test.true in omega arith);
            few = omega arith;
            value = (let more = numeral_digit 16 t i c.loop-len-test.true (digit_no_underscore b hex) in omega arith);
            small = omega arith;
          }
      | else-byte-ne95 w ↦
          let is-count = w.count-is in
          let is-value = w.value-is in
          let more = underscore_more t i c.loop-len-test.true w.if-byte-ne95.false c.loop-len.invariant.passes in
          let longer = more.1 in
          let number = more.2 in
          let count = c.loop-len.invariant.count in
          let few = c.loop-len.invariant.few in
          let value = c.loop-len.invariant.value in
          let small = c.loop-len.invariant.small in
          let power : 16 ^ c.if-byte-ne95.count ≡ 16 ^ c.loop-len.count = ap (λ n. 16 ^ n) is-count in
          record {
            within = omega arith;
            passes = more.0;
            count = omega arith;
            few = omega arith;
            value = omega arith;
            small = omega arith;
          }
    ]
