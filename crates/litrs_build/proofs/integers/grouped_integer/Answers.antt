-- The digits in the buffer are those of the value.
use Rattle.std.proofs.Common.{◌≡◌, ◌-◌, length, drop, true, sym, ap, ◌∙◌, arith, rules}
use Rattle.std.specs.Str.{chars}
use Rattle.std.proofs.lemmas.List.{take_all, length-drop}
use Rattle.std.proofs.lemmas.Result.{err_from_is_err_and}
use Rattle.litrs_grammar.specs.Integer.{integer_value}
use Rattle.litrs_build.specs.BuiltInteger.{built_integer, is_integer_suffix}
use Rattle.litrs_build.proofs.IntegerLemmas.{written-main, written-any, written-decimal, written-digits_of, written-number, some_integer}
use Rattle.litrs_build.proofs.integers.grouped_integer.Goals as goal

pub written-requires-clause-digits : goal.written-requires-clause-digits
written-requires-clause-digits c =
    let start = c.write_digits-start.result in
    let buffer = c.write_digits-start.new.buffer in
    let room : length buffer ≡ 128 = search rules in
    let is = take_all (128 - start) (drop start buffer) (omega (arith, length-drop start buffer))
    ∙ c.write_digits-start.ensures.digits in
    written-main c.args.base c.args.value _ is

pub written-requires-clause-some_digit : goal.written-requires-clause-some_digit
written-requires-clause-some_digit c =
    let start = c.write_digits-start.result in
    let buffer = c.write_digits-start.new.buffer in
    let room : length buffer ≡ 128 = search rules in
    let is = take_all (128 - start) (drop start buffer) (omega (arith, length-drop start buffer))
    ∙ c.write_digits-start.ensures.digits in
    written-any c.args.base c.args.value _ is

pub written-requires-clause-decimal : goal.written-requires-clause-decimal
written-requires-clause-decimal c =
    let start = c.write_digits-start.result in
    let buffer = c.write_digits-start.new.buffer in
    let room : length buffer ≡ 128 = search rules in
    let is = take_all (128 - start) (drop start buffer) (omega (arith, length-drop start buffer))
    ∙ c.write_digits-start.ensures.digits in
    written-decimal c.args.base c.args.value _ is

pub written-requires-clause-bare : goal.written-requires-clause-bare
written-requires-clause-bare c =
    let start = c.write_digits-start.result in
    let buffer = c.write_digits-start.new.buffer in
    let room : length buffer ≡ 128 = search rules in
    let is = take_all (128 - start) (drop start buffer) (omega (arith, length-drop start buffer))
    ∙ c.write_digits-start.ensures.digits in
    λ bare. written-digits_of c.args.base c.args.value _ is ∙ sym is

pub returns-in_err-written-clause-not_a_suffix : goal.returns-in_err-written-clause-not_a_suffix
returns-in_err-written-clause-not_a_suffix c =
    let allowed : is_integer_suffix c.args.base (chars c.args.suffix.now)
    ≡ true = sym c.is_integer_suffix.ensures ∙ c.if-not-is_integer_suffix.false in
    let p = err_from_is_err_and c.from_residual.result c.from_residual.ensures.1 in (
      λ wrong. let made = p.1 in let memory = p.2 in cc,
      λ none. absurd (some_integer c.args.base (chars c.args.suffix.now) allowed none),
    )

pub returns-clause-parts : goal.returns-clause-parts
returns-clause-parts c =
    let start = c.write_digits-start.result in
    let buffer = c.write_digits-start.new.buffer in
    let room : length buffer ≡ 128 = search rules in
    let is = take_all (128 - start) (drop start buffer) (omega (arith, length-drop start buffer))
    ∙ c.write_digits-start.ensures.digits in
    c.in_ok-written.ensures.parts
    ∙ ap (λ ds. built_integer c.args.base c.args.group ds (chars c.args.suffix.now))
    (written-digits_of c.args.base c.args.value _ is)

pub returns-clause-value : goal.returns-clause-value
returns-clause-value c =
    let start = c.write_digits-start.result in
    let buffer = c.write_digits-start.new.buffer in
    let room : length buffer ≡ 128 = search rules in
    let is = take_all (128 - start) (drop start buffer) (omega (arith, length-drop start buffer))
    ∙ c.write_digits-start.ensures.digits in
    let parts = c.in_ok-written.ensures.parts
    ∙ ap (λ ds. built_integer c.args.base c.args.group ds (chars c.args.suffix.now))
    (written-digits_of c.args.base c.args.value _ is) in
    ap integer_value parts
    ∙ written-number c.args.base c.args.group c.args.value (chars c.args.suffix.now)

pub returns-clause-not_a_suffix : goal.returns-clause-not_a_suffix
returns-clause-not_a_suffix c =
    let allowed : is_integer_suffix c.args.base (chars c.args.suffix.now)
    ≡ true = sym c.is_integer_suffix.ensures ∙ c.if-not-is_integer_suffix.false in (
      λ wrong. absurd cc,
      λ none. absurd (some_integer c.args.base (chars c.args.suffix.now) allowed none),
    )
