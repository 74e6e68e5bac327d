-- The first byte is the first character if it is ASCII.
use Rattle.std.proofs.Common.{◌≡◌, true, not, ◌&&◌, sym, ap, ◌∙◌}
use Rattle.std.specs.Str.{chars}
use Rattle.litrs_base.specs.Text.{first_passes, is_empty}
use Rattle.litrs_base.proofs.Chars.{chars_empty, first_passes-chars}
use Rattle.litrs_grammar.specs.Float.{is_underscore}
use Rattle.litrs_grammar.specs.Integer.{is_e}
use Rattle.litrs_grammar.specs.Suffix.{is_suffix}
use Rattle.litrs_lex.proofs.IntegerBytes.{e_is_ascii}
use Rattle.litrs_build.proofs.FloatLemmas.{underscore_is_ascii}
use Rattle.litrs_build.proofs.floats.is_float_suffix.Goals as goal

pub returns-then-is_ok : goal.returns-then-is_ok
returns-then-is_ok c =
    let bs = c.args.suffix.now in
    let exponent = c.args.exponent.now in
    let suffix : is_suffix (chars bs) ≡ true = sym c.check_suffix.ensures.ok
    ∙ (sym c.is_ok.ensures.value ∙ c.if-is_ok.true) in
    let bare : c.is_empty.result ≡ is_empty (chars exponent) = c.is_empty.ensures
    ∙ sym (chars_empty exponent c.utf8.exponent) in
    let line = first_passes-chars is_underscore bs underscore_is_ascii c.utf8.suffix in
    let letter = first_passes-chars is_e bs e_is_ascii c.utf8.suffix in
    c.begins_apart.ensures
    ∙ ((λ i. not (first_passes is_underscore (c.as_bytes.ensures.value i))
    && not (bare i && first_passes is_e (c.as_bytes.ensures.value i)))
    ∙ sym (ap (λ v. v && (not (first_passes is_underscore (chars bs))
    && not (is_empty (chars exponent) && first_passes is_e (chars bs)))) suffix
    ∙ (λ i. not (line i) && not (is_empty (chars exponent) && letter i))))
