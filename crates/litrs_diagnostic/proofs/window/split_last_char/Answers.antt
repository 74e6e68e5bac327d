-- The last character is taken off the end.
use Rattle.std.proofs.Common.{◌≡◌, ◌++◌, [], length, rules, sym, ap, ◌∙◌}
use Rattle.std.specs.Char.{encode_utf8}
use Rattle.std.specs.Str.{chars}
use Rattle.litrs_diagnostic.proofs.Within.{last_char, no_chars}
use Rattle.litrs_diagnostic.proofs.window.split_last_char.Goals as goal

pub returns-in_err-last-clause-empty : goal.returns-in_err-last-clause-empty
returns-in_err-last-clause-empty c =
    let none : chars c.args.text.now ≡ [] = no_chars c.args.text.now (ap length (sym c.chars-chars.ensures.rest) ∙ c.in_err-last.ensures.steps.0) in
    search (rules, none)

pub returns-clause-parts : goal.returns-clause-parts
returns-clause-parts c =
    last_char c.args.text.now c.as_str.result.now c.in_ok-last.last c.utf8.text c.as_str.utf8
    (sym c.chars-chars.ensures.rest ∙ (c.in_ok-last.ensures.steps
    ∙ ap (λ rest. rest ++ encode_utf8 c.in_ok-last.last) (sym c.as_str.ensures)))
