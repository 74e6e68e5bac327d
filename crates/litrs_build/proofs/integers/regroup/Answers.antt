-- The parts are those of an integer.
use Rattle.std.proofs.Common.{◌≡◌, ap, sym, subst, ◌∙◌}
use Rattle.std.specs.Prelude.{IfOk}
use Rattle.std.specs.List.{list_all, list_any}
use Rattle.litrs_base.specs.Base.{is_digit, is_digit_or_underscore}
use Rattle.litrs_base.specs.Text.{first_passes}
use Rattle.std.specs.Char.{is_ascii_digit}
use Rattle.std.proofs.lemmas.Result.{IfOk-weaker}
use Rattle.litrs_grammar.specs.Integer.{IntegerParts, integer_value}
use Rattle.litrs.specs.Digits.{digits_of}
use Rattle.litrs_build.specs.BuiltInteger.{built_integer}
use Rattle.litrs_build.proofs.GroupLemmas.{all_digits_of}
use Rattle.litrs.specs.IntegerLiteral.{integer_parts}
use Rattle.litrs_build.proofs.IntegerLemmas.{main_bytes, regrouped-value}
use Rattle.litrs_build.proofs.integers.regroup.Goals as goal

pub written-requires-clause-digits : goal.written-requires-clause-digits
written-requires-clause-digits g c =
    let d = integer_parts c.args.lit.now in
    let h = c.raw_input.ensures.literal.grammar in
    let same = main_bytes d h c.raw_main_part-main.result.now c.as_bytes.result.now
    c.raw_main_part-main.utf8 c.raw_main_part-main.ensures c.as_bytes.ensures.value in
    (λ i. list_all (is_digit_or_underscore (c.base.ensures i)) (same i)) ∙ h.digits

pub written-requires-clause-some_digit : goal.written-requires-clause-some_digit
written-requires-clause-some_digit g c =
    let d = integer_parts c.args.lit.now in
    let h = c.raw_input.ensures.literal.grammar in
    let same = main_bytes d h c.raw_main_part-main.result.now c.as_bytes.result.now
    c.raw_main_part-main.utf8 c.raw_main_part-main.ensures c.as_bytes.ensures.value in
    (λ i. list_any (is_digit (c.base.ensures i)) (same i)) ∙ h.some_digit

pub written-requires-clause-decimal : goal.written-requires-clause-decimal
written-requires-clause-decimal g c = λ decimal.
    let d = integer_parts c.args.lit.now in
    let h = c.raw_input.ensures.literal.grammar in
    let same = main_bytes d h c.raw_main_part-main.result.now c.as_bytes.result.now
    c.raw_main_part-main.utf8 c.raw_main_part-main.ensures c.as_bytes.ensures.value in
    ap (first_passes is_ascii_digit) same ∙ h.decimal_digit (sym c.base.ensures ∙ decimal)

pub returns-clause-parts : goal.returns-clause-parts
returns-clause-parts g c =
    let d = integer_parts c.args.lit.now in
    let h = c.raw_input.ensures.literal.grammar in
    let same = main_bytes d h c.raw_main_part-main.result.now c.as_bytes.result.now
    c.raw_main_part-main.utf8 c.raw_main_part-main.ensures c.as_bytes.ensures.value in
    subst (λ (e : IntegerParts). IfOk c.written.result (λ lit. integer_parts lit ≡ e))
    (λ i. built_integer (c.base.ensures i) c.args.group (digits_of (same i)) (c.suffix.ensures i))
    c.written.ensures.parts

pub returns-clause-value : goal.returns-clause-value
returns-clause-value g c =
    let d = integer_parts c.args.lit.now in
    let h = c.raw_input.ensures.literal.grammar in
    let same = main_bytes d h c.raw_main_part-main.result.now c.as_bytes.result.now
    c.raw_main_part-main.utf8 c.raw_main_part-main.ensures c.as_bytes.ensures.value in
    let new = built_integer d.base c.args.group (digits_of d.main) d.suffix in
    let parts = subst (λ (e : IntegerParts). IfOk c.written.result (λ lit. integer_parts lit ≡ e))
    (λ i. built_integer (c.base.ensures i) c.args.group (digits_of (same i)) (c.suffix.ensures i))
    c.written.ensures.parts in
    IfOk-weaker c.written.result (λ lit. integer_parts lit ≡ new)
    (λ lit. integer_value (integer_parts lit) ≡ integer_value d)
    (λ lit is. ap integer_value is
    ∙ regrouped-value d.base c.args.group d.main d.suffix (all_digits_of d.base d.main h.digits))
    parts
