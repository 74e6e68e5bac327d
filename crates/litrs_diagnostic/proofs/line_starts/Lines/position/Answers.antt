-- The place is in the line that starts last before it.
use Rattle.std.proofs.Common.{rules, ℕ, List, ◌-◌, take, subst, sym, ap, ◌∙◌, arith}
use Rattle.std.specs.Str.{chars, IsCharBoundary}
use Rattle.std.proofs.lemmas.List.{get_or_default}
use Rattle.litrs_diagnostic.specs.Lines.{IsLineStart}
use Rattle.litrs_diagnostic.specs.Position.{line_number, column_number}
use Rattle.litrs_diagnostic.proofs.LineStarts.{last_start, boundary_in_rest, place_after}
use Rattle.litrs_diagnostic.proofs.line_starts.Lines.position.Goals as goal

pub overflow_sub-at : goal.overflow_sub-at
overflow_sub-at c =
    let is = last_start c.self.inside.source.now c.deref.result.now c.self.inside.starts.items
    c.partition_point-number.result c.args.at c.self.invariant.1 c.self.invariant.2
    c.deref.ensures.value c.partition_point-number.ensures.bound c.if-number-eq0.false
    c.partition_point-number.ensures.partitioned (λ a r q k. search rules) in
    let start = c.index-start.ensures ∙ get_or_default c.self.inside.starts.items
    (c.partition_point-number.result - 1) c.index-start.result.now 0 is.within in
    let order = is.order in
    omega (arith, start, order)

pub position-line-requires : goal.position-line-requires
position-line-requires c =
    let is = last_start c.self.inside.source.now c.deref.result.now c.self.inside.starts.items
    c.partition_point-number.result c.args.at c.self.invariant.1 c.self.invariant.2
    c.deref.ensures.value c.partition_point-number.ensures.bound c.if-number-eq0.false
    c.partition_point-number.ensures.partitioned (λ a r q k. search rules) in
    let start = c.index-start.ensures ∙ get_or_default c.self.inside.starts.items
    (c.partition_point-number.result - 1) c.index-start.result.now 0 is.within in
    let order = is.order in
    let on = subst (λ (bs : List ℕ). IsCharBoundary bs c.args.at) (sym c.self.view_is) c.requires in
    rw c.range_from.ensures.value (boundary_in_rest c.self.inside.source.now
    c.index-start.result.now c.args.at (omega (arith, start, order)) on)

pub returns-clause-line : goal.returns-clause-line
returns-clause-line c =
    let is = last_start c.self.inside.source.now c.deref.result.now c.self.inside.starts.items
    c.partition_point-number.result c.args.at c.self.invariant.1 c.self.invariant.2
    c.deref.ensures.value c.partition_point-number.ensures.bound c.if-number-eq0.false
    c.partition_point-number.ensures.partitioned (λ a r q k. search rules) in
    let start = c.index-start.ensures ∙ get_or_default c.self.inside.starts.items
    (c.partition_point-number.result - 1) c.index-start.result.now 0 is.within in
    let begins : IsLineStart c.self.inside.source.now c.partition_point-number.result
    c.index-start.result.now =
    subst (IsLineStart c.self.inside.source.now c.partition_point-number.result) (sym start)
    is.begins in
    let order = is.order in
    let place = place_after c.self.inside.source.now c.partition_point-number.result
    c.index-start.result.now c.args.at c.position-line.result.line c.position-line.result.column
    c.self.invariant.0 begins (omega (arith, start, order))
    (c.position-line.ensures.line ∙ ap (λ (l : List ℕ).
    line_number 1 (chars (take (c.args.at - c.index-start.result.now) l))) c.range_from.ensures.value)
    (c.position-line.ensures.column ∙ ap (λ (l : List ℕ).
    column_number (chars (take (c.args.at - c.index-start.result.now) l)))
    c.range_from.ensures.value) in
    rw (← c.self.view_is) place.on_line

pub returns-clause-column : goal.returns-clause-column
returns-clause-column c =
    let is = last_start c.self.inside.source.now c.deref.result.now c.self.inside.starts.items
    c.partition_point-number.result c.args.at c.self.invariant.1 c.self.invariant.2
    c.deref.ensures.value c.partition_point-number.ensures.bound c.if-number-eq0.false
    c.partition_point-number.ensures.partitioned (λ a r q k. search rules) in
    let start = c.index-start.ensures ∙ get_or_default c.self.inside.starts.items
    (c.partition_point-number.result - 1) c.index-start.result.now 0 is.within in
    let begins : IsLineStart c.self.inside.source.now c.partition_point-number.result
    c.index-start.result.now =
    subst (IsLineStart c.self.inside.source.now c.partition_point-number.result) (sym start)
    is.begins in
    let order = is.order in
    let place = place_after c.self.inside.source.now c.partition_point-number.result
    c.index-start.result.now c.args.at c.position-line.result.line c.position-line.result.column
    c.self.invariant.0 begins (omega (arith, start, order))
    (c.position-line.ensures.line ∙ ap (λ (l : List ℕ).
    line_number 1 (chars (take (c.args.at - c.index-start.result.now) l))) c.range_from.ensures.value)
    (c.position-line.ensures.column ∙ ap (λ (l : List ℕ).
    column_number (chars (take (c.args.at - c.index-start.result.now) l)))
    c.range_from.ensures.value) in
    rw (← c.self.view_is) place.on_column
