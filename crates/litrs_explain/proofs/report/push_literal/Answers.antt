-- The explanation follows the blank.
use Rattle.std.proofs.Common.{◌++◌, ℕ, List, ap, ◌∙◌, append_assoc, codes, string_bytes}
use Rattle.std.proofs.lemmas.Result.{on_ok_weaker}
use Rattle.litrs_explanation.specs.Appended.{appended}
use Rattle.litrs_explanation.proofs.Appending.{follows}
use Rattle.litrs_explain.proofs.report.push_literal.Goals as goal

pub returns : goal.returns
returns g c =
    let old = string_bytes c.args.out.now in
    let middle = string_bytes c.push_str.new.self in
    let new = string_bytes c.push_explanation.new.out in
    on_ok_weaker c.push_explanation.result
    (λ lines. (
      appended middle new,
      lines,
      follows middle new c.push_explanation.ensures.kept
          ∙ (ap (λ (t : List ℕ). t ++ appended middle new) c.in_ok-push_str.ensures.bytes
          ∙ append_assoc old (codes " ") (appended middle new)),
    ))
    c.push_explanation.ensures.lines
