-- A bool and a number are printable.
use Rattle.std.proofs.Common.{◌≡◌, sym, subst, ap, ◌∙◌, refl, string_bytes}
use Rattle.std.specs.Prelude.{codes, decimal}
use Rattle.litrs.specs.BoolLiteral.{bool_value}
use Rattle.litrs.specs.CharLiteral.{byte_parts}
use Rattle.litrs_grammar.specs.Bool.{bool_text}
use Rattle.litrs_grammar.specs.CharByte.{char_value}
use Rattle.litrs_explanation.specs.Explanation.{field, Shows}
use Rattle.litrs_explanation.proofs.Appending.{appended_as}
use Rattle.litrs_explanation.proofs.Printed.{basic_shows, field_shows, bool_shows, decimal_basic}
use Rattle.litrs_explanation.proofs.push_fields.Goals as goal

pub returns-in-Bool : goal.returns-in-Bool
returns-in-Bool g c =
    let text = bool_text (bool_value c.in-Bool.lit) in
    rw c.in-Bool.is (appended_as (string_bytes c.args.out.now) (string_bytes c.push_value.new.out) c.push_value.result
    (λ line. line ≡ field (codes "value") c.as_str.result.now) (λ line. (line ≡ field (codes "value") text) × Shows line)
    (λ line made.
    let is : line ≡ field (codes "value") text = made ∙ ap (field (codes "value")) c.as_str.ensures in
    (is, subst Shows (sym is) (field_shows (codes "value") text refl (bool_shows (bool_value c.in-Bool.lit)))))
    c.push_value.ensures)

pub returns-in-Byte : goal.returns-in-Byte
returns-in-Byte g c =
    let text = decimal (char_value (byte_parts c.in-Byte.lit).item) in
    rw c.in-Byte.is (appended_as (string_bytes c.args.out.now) (string_bytes c.push_value-in-Byte.new.out) c.push_value-in-Byte.result
    (λ line. line ≡ field (codes "value") c.format.result.now) (λ line. (line ≡ field (codes "value") text) × Shows line)
    (λ line made.
    let is : line ≡ field (codes "value") text =
    made ∙ ap (field (codes "value")) (c.format.ensures.text ∙ ap decimal c.value.ensures) in
    (is, subst Shows (sym is) (field_shows (codes "value") text refl (basic_shows text (decimal_basic _)))))
    c.push_value-in-Byte.ensures)
