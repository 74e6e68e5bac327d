-- The main part is decimal, so that its first digit is its first character.
use Rattle.std.proofs.Common.{◌≡◌, ◌&&◌, true, false, eqb, length, sym, ap, ◌∙◌}
use Rattle.std.specs.Prelude.{filter}
use Rattle.std.specs.Str.{chars}
use Rattle.litrs_base.specs.declared.integer.IntegerBase.{IntegerBase}
use Rattle.litrs_base.specs.Numeral.{is_no_underscore}
use Rattle.litrs_base.specs.Text.{first_passes}
use Rattle.litrs.specs.Digits.{digits_of}
use Rattle.litrs_build.specs.BuiltInteger.{needs_separator, is_base_letter}
use Rattle.litrs_build.proofs.IntegerLemmas.{separated, letter-chars}
use Rattle.litrs_build.proofs.integers.needs_separator.Goals as goal

pub returns-then-is_lone_zero : goal.returns-then-is_lone_zero
returns-then-is_lone_zero c =
    let main = c.args.main.now in
    let suffix = c.args.suffix.now in
    let zero = first_passes (λ d. eqb d 48) main in
    let letter = first_passes is_base_letter (chars suffix) in
    let lone : (eqb (length (filter is_no_underscore main)) 1 && zero) ≡ true =
    ap (λ n. eqb n 1 && zero) (sym c.requires.count)
    ∙ (sym c.is_lone_zero.ensures ∙ c.if-is_lone_zero.true) in
    c.begins_with_base_letter.ensures
    ∙ (ap (first_passes is_base_letter) c.as_bytes.ensures.value
    ∙ (sym (letter-chars suffix c.utf8.suffix)
    ∙ sym (ap (λ (b : IntegerBase). needs_separator b (digits_of main) (chars suffix))
    c.in-Decimal.is
    ∙ (separated main (chars suffix) (c.requires.decimal c.in-Decimal.is)
    ∙ ap (λ v. v && letter) lone))))

pub returns-else-is_lone_zero : goal.returns-else-is_lone_zero
returns-else-is_lone_zero c =
    let main = c.args.main.now in
    let suffix = c.args.suffix.now in
    let zero = first_passes (λ d. eqb d 48) main in
    let letter = first_passes is_base_letter (chars suffix) in
    let lone : (eqb (length (filter is_no_underscore main)) 1 && zero) ≡ false =
    ap (λ n. eqb n 1 && zero) (sym c.requires.count)
    ∙ (sym c.is_lone_zero.ensures ∙ c.if-is_lone_zero.false) in
    c.if-is_lone_zero.false
    ∙ sym (ap (λ (b : IntegerBase). needs_separator b (digits_of main) (chars suffix))
    c.in-Decimal.is
    ∙ (separated main (chars suffix) (c.requires.decimal c.in-Decimal.is)
    ∙ ap (λ v. v && letter) lone))
