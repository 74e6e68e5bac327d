-- The span that the error marks in the part is moved by the start of the part.
use Rattle.std.proofs.Common.{List, ℕ, sym, subst}
use Rattle.std.specs.Str.{chars}
use Rattle.litrs_base.specs.CharEnd.{IsCutBy}
use Rattle.litrs_grammar.specs.Literal.{literal_parse}
use Rattle.litrs_grammar.specs.Refused.{IsRefusedOrOutOfMemory}
use Rattle.litrs.proofs.SpanCuts.{error_points}
use Rattle.litrs_explain.proofs.Cuts.{cut_of_part}
use Rattle.litrs_explain.proofs.explainer.marked_part.Goals as goal

pub returns-clause-cuts : goal.returns-clause-cuts
returns-clause-cuts c =
    let error = c.args.error.now in
    let part = c.range.result.now in
    let marked = c.marked_span-marked.result in
    let refused : IsRefusedOrOutOfMemory literal_parse (chars part) error =
    subst (λ (t : List ℕ). IsRefusedOrOutOfMemory literal_parse (chars t) error) (sym c.range.ensures.value) c.requires.refused in
    cut_of_part c.args.text.now c.args.piece.now marked c.requires.piece
    (subst (λ (t : List ℕ). IsCutBy t marked) c.range.ensures.value
    (c.marked_span-marked.ensures.cuts (error_points literal_parse part error refused)))
