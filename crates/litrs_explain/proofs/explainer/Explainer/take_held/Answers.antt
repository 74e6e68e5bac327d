-- The token begins where the text before it ends.
use Rattle.std.proofs.Common.{◌≡◌, ◌∙◌, length, sym, subst, string_bytes}
use Rattle.std.specs.Str.{IsCharBoundary}
use Rattle.std.proofs.lemmas.Str.{IsCharBoundary-at_seam}
use Rattle.litrs_explain.proofs.explainer.Explainer.take_held.Goals as goal

pub returns-clause-boundary : goal.returns-clause-boundary
returns-clause-boundary c =
    let text = string_bytes c.push_str.new.self in
    let before = string_bytes c.replace-text.result in
    let len : c.len-start.result ≡ c.replace-text.result.bytes.len = c.len-start.ensures in
    let size : c.replace-text.result.bytes.len ≡ length before = c.replace-text.result.bytes.ok.0 in
    subst (IsCharBoundary text) (sym (len ∙ size))
    (IsCharBoundary-at_seam text before c.as_str.result.now c.in_ok-push_str.ensures.bytes c.as_str.utf8)
