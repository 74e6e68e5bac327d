-- A fraction is empty, or one by its bytes.
use Rattle.std.proofs.Common.{◌≡◌, true, false, ◌&&◌, ◌||◌, sym, ap, ◌∙◌}
use Rattle.std.specs.Str.{chars}
use Rattle.litrs_base.specs.Text.{is_empty}
use Rattle.litrs_base.proofs.Chars.{chars_empty}
use Rattle.litrs_grammar.specs.Float.{is_decimal_literal, is_exponent}
use Rattle.litrs_build.proofs.FloatLemmas.{empty-chars, decimal-chars, exponent-chars, form_of_none, form_of_some}
use Rattle.litrs_build.proofs.floats.has_fraction_form.Goals as goal

pub returns-then-is_empty-2 : goal.returns-then-is_empty-2
returns-then-is_empty-2 c =
    let exponent = c.args.exponent.now in
    let suffix = c.args.suffix.now in
    let none : is_empty (chars c.args.digits.now)
    ≡ true = chars_empty c.args.digits.now c.utf8.digits
    ∙ (sym c.is_empty.ensures ∙ c.if-is_empty.true) in
    let bare : is_empty (chars exponent) ≡ true = chars_empty exponent c.utf8.exponent
    ∙ (sym c.is_empty-then-is_empty.ensures ∙ c.if-is_empty-2.true) in
    c.is_empty-then-is_empty-2.ensures
    ∙ (sym (chars_empty suffix c.utf8.suffix)
    ∙ sym (form_of_none (chars c.args.digits.now) (chars exponent) (chars suffix) none
    ∙ ap (λ v. v && is_empty (chars suffix)) bare))

pub returns-else-is_empty-2 : goal.returns-else-is_empty-2
returns-else-is_empty-2 c =
    let exponent = c.args.exponent.now in
    let suffix = c.args.suffix.now in
    let none : is_empty (chars c.args.digits.now)
    ≡ true = chars_empty c.args.digits.now c.utf8.digits
    ∙ (sym c.is_empty.ensures ∙ c.if-is_empty.true) in
    let some : is_empty (chars exponent) ≡ false = chars_empty exponent c.utf8.exponent
    ∙ (sym c.is_empty-then-is_empty.ensures ∙ c.if-is_empty-2.false) in
    c.if-is_empty-2.false
    ∙ sym (form_of_none (chars c.args.digits.now) (chars exponent) (chars suffix) none
    ∙ ap (λ v. v && is_empty (chars suffix)) some)

pub returns-then-is_decimal_literal : goal.returns-then-is_decimal_literal
returns-then-is_decimal_literal c =
    let digits = c.args.digits.now in
    let exponent = c.args.exponent.now in
    let filled : is_empty (chars digits) ≡ false = chars_empty digits c.utf8.digits
    ∙ (sym c.is_empty.ensures ∙ c.if-is_empty.false) in
    let decimal : is_decimal_literal (chars digits) ≡ true =
    decimal-chars digits c.utf8.digits
    ∙ (ap is_decimal_literal (sym c.as_bytes.ensures.value)
    ∙ (sym c.is_decimal_literal.ensures ∙ c.if-is_decimal_literal.true)) in
    c.is_optional_exponent.ensures
    ∙ (ap (λ t. is_empty t || is_exponent t) c.as_bytes-then-is_decimal_literal.ensures.value
    ∙ (sym (λ i. empty-chars exponent c.utf8.exponent i
    || exponent-chars exponent c.utf8.exponent i)
    ∙ sym (form_of_some (chars digits) (chars exponent) (chars c.args.suffix.now) filled
    ∙ ap (λ v. v && (is_empty (chars exponent) || is_exponent (chars exponent))) decimal)))

pub returns-else-is_decimal_literal : goal.returns-else-is_decimal_literal
returns-else-is_decimal_literal c =
    let digits = c.args.digits.now in
    let exponent = c.args.exponent.now in
    let filled : is_empty (chars digits) ≡ false = chars_empty digits c.utf8.digits
    ∙ (sym c.is_empty.ensures ∙ c.if-is_empty.false) in
    let decimal : is_decimal_literal (chars digits) ≡ false =
    decimal-chars digits c.utf8.digits
    ∙ (ap is_decimal_literal (sym c.as_bytes.ensures.value)
    ∙ (sym c.is_decimal_literal.ensures ∙ c.if-is_decimal_literal.false)) in
    c.if-is_decimal_literal.false
    ∙ sym (form_of_some (chars digits) (chars exponent) (chars c.args.suffix.now) filled
    ∙ ap (λ v. v && (is_empty (chars exponent) || is_exponent (chars exponent))) decimal)
