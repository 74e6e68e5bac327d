-- The first byte is the first character if it is ASCII.
use Rattle.std.proofs.Common.{◌≡◌, true, not, ◌&&◌, sym, ap, ◌∙◌}
use Rattle.std.specs.Str.{chars}
use Rattle.litrs_base.specs.Base.{is_digit_or_underscore}
use Rattle.litrs_base.specs.Text.{first_passes}
use Rattle.litrs_grammar.specs.Integer.{is_e}
use Rattle.litrs_grammar.specs.Suffix.{is_suffix}
use Rattle.litrs_build.proofs.IntegerLemmas.{suffix-chars}
use Rattle.litrs_build.proofs.integers.is_integer_suffix.Goals as goal

pub returns-then-is_ok : goal.returns-then-is_ok
returns-then-is_ok c =
    let bs = c.args.suffix.now in
    let base = c.args.base in
    let suffix : is_suffix (chars bs) ≡ true = sym c.check_suffix.ensures.ok
    ∙ (sym c.is_ok.ensures.value ∙ c.if-is_ok.true) in
    let apart = not (first_passes is_e bs) && not (first_passes (is_digit_or_underscore base) bs) in
    c.begins_apart.ensures
    ∙ (ap (λ t. not (first_passes is_e t) && not (first_passes (is_digit_or_underscore base) t))
    c.as_bytes.ensures.value
    ∙ sym (suffix-chars base bs c.utf8.suffix ∙ ap (λ v. v && apart) suffix))
