-- The first character is taken off the front.
use Rattle.std.proofs.Common.{◌++◌, sym, ap, ◌∙◌}
use Rattle.std.proofs.lemmas.Str.{chars_past_char}
use Rattle.std.specs.Char.{encode_utf8}
use Rattle.litrs_base.proofs.characters.split_first_char.Goals as goal

pub returns-clause-parts : goal.returns-clause-parts
returns-clause-parts c =
    chars_past_char c.args.text.now c.as_str.result.now c.in_ok-first.first c.utf8.text
    (sym c.chars-chars.ensures.rest ∙ (c.in_ok-first.ensures.steps.0
    ∙ ap (λ rest. encode_utf8 c.in_ok-first.first ++ rest) (sym c.as_str.ensures)))
