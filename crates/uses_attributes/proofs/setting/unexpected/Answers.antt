-- The word ends at a character.
use Rattle.std.proofs.Common.{◌≡◌, ℕ, ◌+◌, ◌-◌, length, sym, ap, subst, ◌∙◌, length-append, arith}
use Rattle.std.specs.Str.{IsCharBoundary}
use Rattle.std.proofs.lemmas.Str.{IsCharBoundary-start}
use Rattle.litrs_prefix.proofs.Ends.{end_boundary}
use Rattle.uses_attributes.proofs.setting.unexpected.Goals as goal

pub invariant_of-result : goal.invariant_of-result
invariant_of-result c =
    let at = c.args.at.now in
    let text = c.args.text.now in
    let rest = c.args.rest.now in
    let size : length at ≡ length text + length rest = ap length (sym c.requires) ∙ length-append text rest in
    let place : length at - length rest ≡ length text = omega arith in
    let end = subst (λ (n : ℕ). IsCharBoundary at n) place (end_boundary at rest c.utf8.rest (text, c.requires)) in
    record { marks = record { start = IsCharBoundary-start at c.utf8.at; end = end; in_order = omega arith; within = omega arith } }
