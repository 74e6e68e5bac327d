-- The suffix is compared with the name of the type.
use Rattle.std.proofs.Common.{sym, ap, ◌∙◌, refl, codes}
use Rattle.std.specs.Cmp.Lexicographic.{same_text, other_text}
use Rattle.std.specs.Str.{chars}
use Rattle.litrs_explanation.proofs.Explained.{part_is}
use Rattle.litrs_explanation.proofs.Printed.{basic_encoded, f32_chars}
use Rattle.litrs_explanation.proofs.float_type.Goals as goal

pub returns-then-eq : goal.returns-then-eq
returns-then-eq g c =
    let text = c.suffix.result.now in
    sym c.suffix.ensures
    ∙ (ap chars (same_text text (codes "f32") (sym c.if-eq.true ∙ c.eq.ensures)) ∙ f32_chars)

pub returns-else-eq : goal.returns-else-eq
returns-else-eq g c =
    let text = c.suffix.result.now in
    λ is. other_text text (codes "f32") (sym c.if-eq.false ∙ c.eq.ensures)
    (part_is text (codes "f32") c.suffix.utf8 (c.suffix.ensures ∙ is) ∙ basic_encoded (codes "f32") refl)
