-- The place after the text is that of its end; the sum does not overflow.
use Rattle.std.proofs.Common.{◌≡◌, ℕ, List, ◌+◌, ◌-◌, ap, ◌∙◌, arith}
use Rattle.std.specs.Str.{chars}
use Rattle.std.proofs.Math.Seq.{take-length}
use Rattle.litrs_diagnostic.specs.Position.{line_number, column_number}
use Rattle.litrs_diagnostic.proofs.TextLines.{column_in_first, column_in_later}
use Rattle.litrs_explain.proofs.place.Place.after.Goals as goal

pub returns-then-end-eq1-clause-column : goal.returns-then-end-eq1-clause-column
returns-then-end-eq1-clause-column c = λ fits.
    let whole = take-length c.args.text.now in
    let is_line = c.position-end.ensures.line ∙ ap (λ (t : List ℕ). line_number 1 (chars t)) whole in
    let is_column = c.position-end.ensures.column ∙ ap (λ (t : List ℕ). column_number (chars t)) whole in
    let bound = c.position-end.ensures.column_bound in
    let saturated = c.saturating_add.ensures in
    let sum : c.saturating_add.result ≡ c.args.self.column + (c.position-end.result.column - 1) = omega arith in
    sum ∙ column_in_first c.args.self.column c.position-end.result.line c.position-end.result.column
    (chars c.args.text.now) is_line is_column c.if-end-eq1.true

pub returns-else-end-eq1-clause-column : goal.returns-else-end-eq1-clause-column
returns-else-end-eq1-clause-column c = λ _.
    let whole = take-length c.args.text.now in
    column_in_later c.args.self.column c.position-end.result.line c.position-end.result.column (chars c.args.text.now)
    (c.position-end.ensures.line ∙ ap (λ (t : List ℕ). line_number 1 (chars t)) whole)
    (c.position-end.ensures.column ∙ ap (λ (t : List ℕ). column_number (chars t)) whole)
    c.if-end-eq1.false
