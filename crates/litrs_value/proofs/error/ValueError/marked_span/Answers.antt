-- The length of a text in bytes is that of its characters.
use Rattle.std.proofs.Common.{◌≡◌, ◌-◌, ℕ, ap, sym, ◌∙◌, length}
use Rattle.std.specs.Str.{chars}
use Rattle.std.proofs.lemmas.Str.{encodes-chars}
use Rattle.litrs.specs.Text.{byte_len}
use Rattle.litrs_value.specs.Reads.{marked}
use Rattle.litrs_value.proofs.Errors.{other_marked}
use Rattle.litrs_value.proofs.error.ValueError.marked_span.Goals as goal

pub returns-in-Suffix : goal.returns-in-Suffix
returns-in-Suffix c =
    let text = c.args.text.now in
    let size : length text ≡ byte_len (chars text) = sym (ap length (encodes-chars text c.utf8.text)) in
    (λ i. record { start = (c.last_bytes.ensures.start ∙ ap (λ (n : ℕ). n - c.in-Suffix.len) size) i; end = (c.last_bytes.ensures.end ∙ size) i })
    ∙ ap (marked (chars text)) (sym c.in-Suffix.is)

pub returns-in_default : goal.returns-in_default
returns-in_default c =
    (λ i. record { start = 0; end = sym (ap length (encodes-chars c.args.text.now c.utf8.text)) i })
    ∙ sym (other_marked (chars c.args.text.now) c.args.self.now c.in_default.not-Malformed c.in_default.not-Suffix)
