-- One more piece, and all of them.
use Rattle.std.proofs.Common.{◌∙◌, sym, ap, ◌++◌, append-nil, rules}
use Rattle.std.proofs.lemmas.List.{nil_from_length}
use Rattle.std.specs.Prelude.{string_bytes}
use Rattle.std.specs.Slice.Iter.{chunks_rest}
use Rattle.litrs_lines.specs.Report.{hex_bytes}
use Rattle.litrs_lines.proofs.HexDigits.{hex_piece}
use Rattle.litrs_lines.proofs.report.push_hex.Goals as goal

pub loop-piece-init : goal.loop-piece-init
loop-piece-init c = (search rules, tt, search rules, search rules)

pub loop-piece-preserved : goal.loop-piece-preserved
loop-piece-preserved c =
    let steps = c.in-Some.ensures.steps in (
      search rules,
      tt,
      steps.0 ∙ c.loop-piece.invariant.2,
      hex_piece _ _ _ _ _ _ steps.1.0 c.in_ok-push_hex_piece.ensures c.loop-piece.invariant.3,
    )

pub returns : goal.returns
returns c =
    let out = string_bytes c.loop-piece.out in
    let none = nil_from_length (chunks_rest c.loop-piece.piece-iterator) c.in-None.ensures.steps.1.0 in
    sym (append-nil out) ∙ ap (λ l. out ++ hex_bytes l) (sym none) ∙ c.loop-piece.invariant.3
