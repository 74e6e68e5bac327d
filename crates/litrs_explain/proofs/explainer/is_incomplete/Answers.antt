-- An open error says what closes the text.
use Rattle.std.proofs.Common.{◌∙◌, sym}
use Rattle.std.specs.Str.{chars}
use Rattle.litrs_lines.proofs.StepLemmas.{open_begins}
use Rattle.litrs_explain.proofs.explainer.is_incomplete.Goals as goal

pub returns-then-is_open : goal.returns-then-is_open
returns-then-is_open c =
    let opened = c.if-is_open.true in
    λ refused. (λ _. open_begins (chars c.args.text.now) c.args.error.now refused (sym c.is_open.ensures ∙ opened), λ _. opened)
