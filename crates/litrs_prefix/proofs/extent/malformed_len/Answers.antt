-- The whole text is not a literal, so some piece is not one.
use Rattle.litrs_prefix.proofs.Words.{◌≡◌, ◌<◌, ◌≤◌, ℕ, List, [], length, refl, subst, inl, inr, arith, ◌∙◌, chars, take_all, IsLiteral}
use Rattle.std.proofs.Math.Nat.{eq-or-lt_of_le}
use Rattle.litrs_prefix.proofs.Judged.{malformed_piece}
use Rattle.litrs_prefix.proofs.LongerTexts.{whole}
use Rattle.litrs_prefix.proofs.Pieces.{piece_next}
use Rattle.litrs_prefix.proofs.extent.malformed_len.Goals as goal

pub returns-in-None : goal.returns-in-None
returns-in-None c =
    let inv = c.loop-len.invariant in
    malformed_piece c.args.text.now c.split_at.result.0.now _ c.loop-len.len c.utf8.text inv.0 c.split_at.ensures.front refl inv.2 inv.1 c.requires.opens c.requires.none c.in-None.ensures

pub loop-len-preserved : goal.loop-len-preserved
loop-len-preserved c =
    let text = c.args.text.now in
    let start = c.loop-len.len in
    let next = c.next_boundary-len in
    let here : start ≤ length text = c.loop-len.invariant.0.0 in
    let some : 0 < start = c.loop-len.invariant.2 in
    let is = c.in-Some.ensures in (
      next.ensures.boundary,
      piece_next text start next.result is.0 c.utf8.text c.loop-len.invariant.0 next.ensures.boundary next.ensures.rest c.loop-len.invariant.1
          (subst (λ (l : List ℕ). IsLiteral (chars l) is.0) c.split_at.ensures.front is.1),
      elim (eq-or-lt_of_le here) [
        | inl all ↦ (let end : next.result ≡ start = next.ensures.end (omega arith) in omega arith)
        | inr less ↦ (let more : start < next.result = next.ensures.longer less in omega arith)
      ],
    )

pub loop-len-smaller : goal.loop-len-smaller
loop-len-smaller c =
    let text = c.args.text.now in
    let start = c.loop-len.len in
    let next = c.next_boundary-len in
    let within : next.result ≤ length text = next.ensures.boundary.0 in
    let here : start ≤ length text = c.loop-len.invariant.0.0 in
    elim (eq-or-lt_of_le here) [
      | inr less ↦ (let more : start < next.result = next.ensures.longer less in omega arith)
      | inl all ↦ (
          let piece : c.split_at.result.0.now ≡ text = c.split_at.ensures.front ∙ take_all start text (omega arith) in
          let is = c.in-Some.ensures in
          absurd (c.requires.none is.0 [] (whole (chars text) is.0 (subst (λ (l : List ℕ). IsLiteral (chars l) is.0) piece is.1))))
    ]
