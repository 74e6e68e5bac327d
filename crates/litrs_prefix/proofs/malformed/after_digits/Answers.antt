-- The text after the decimal digits.
use Rattle.litrs_prefix.proofs.Words.{◌≡◌, ℕ, drop, sym, ap, subst, ◌∙◌, prefix_len, chars, IsCharBoundary, is_decimal_char}
use Rattle.litrs_prefix.proofs.NumberEnds.{digits_front}
use Rattle.litrs_prefix.proofs.malformed.after_digits.Goals as goal

pub range_from-requires : goal.range_from-requires
range_from-requires c = λ _.
    let text = c.args.text.now in
    let n : c.run_end.result ≡ prefix_len is_decimal_char text = c.run_end.ensures.run ∙ ap (prefix_len is_decimal_char) c.as_bytes.ensures.value in
    subst (λ (k : ℕ). IsCharBoundary text k) (sym n) (digits_front text c.utf8.text).0

pub returns : goal.returns
returns c =
    let text = c.args.text.now in
    let n : c.run_end.result ≡ prefix_len is_decimal_char text = c.run_end.ensures.run ∙ ap (prefix_len is_decimal_char) c.as_bytes.ensures.value in
    ap chars c.range_from.ensures.value ∙ (ap (λ (k : ℕ). chars (drop k text)) n ∙ (digits_front text c.utf8.text).1)
