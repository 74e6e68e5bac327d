-- The string that is known to be open stays open with the line after it.
use Rattle.std.proofs.Common.{◌≡◌, ◌∙◌, ℕ, List, ◌++◌, sym, ap, subst}
use Rattle.std.specs.Prelude.{string_bytes}
use Rattle.std.proofs.lemmas.Str.{IsUtf8-string_bytes}
use Rattle.litrs_lines.specs.Open.{IsKnown}
use Rattle.litrs_lines.proofs.OpenBytes.{known_of_held, known_stays}
use Rattle.litrs_lines.proofs.StepLemmas.{may_be_cut}
use Rattle.litrs_lines.proofs.collector.push_line.Goals as goal

pub open_after-requires : goal.open_after-requires
open_after-requires c =
    let held : List ℕ = string_bytes c.args.held.now in
    let line : List ℕ = c.args.line.now in
    let text : c.as_str.result.now ≡ held ++ line = c.as_str.ensures.value ∙ c.in_ok-push_str.ensures.bytes ∙ ap (λ (x : List ℕ). x ++ line) c.in_ok-reserve.ensures.bytes in
    subst (λ (x : List ℕ). IsKnown x c.args.known.now) (sym text) (known_stays c.args.known.now held line (IsUtf8-string_bytes c.args.held.now) c.utf8.line (known_of_held held c.args.known.now c.requires))

pub truncate-requires : goal.truncate-requires
truncate-requires c =
    let held : List ℕ = string_bytes c.args.held.now in
    let text : string_bytes c.push_str.new.self ≡ held ++ c.args.line.now = c.in_ok-push_str.ensures.bytes ∙ ap (λ (x : List ℕ). x ++ c.args.line.now) c.in_ok-reserve.ensures.bytes in
    λ _. may_be_cut held (string_bytes c.push_str.new.self) c.len-len.result (c.args.line.now, c.utf8.line, text) (c.len-len.ensures ∙ c.args.held.now.bytes.ok.0)
