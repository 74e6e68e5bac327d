-- A mark that stays has the line and the column that it had.
use Rattle.litrs_explain.proofs.Cuts.{line_stays, column_stays}
use Rattle.litrs_explain.proofs.explainer.Mark.moved_before.Goals as goal

pub returns-else-before-self-clause-line : goal.returns-else-before-self-clause-line
returns-else-before-self-clause-line c = λ _. line_stays c.args.self.place.line c.args.text.now c.args.self.at

pub returns-else-before-self-clause-column : goal.returns-else-before-self-clause-column
returns-else-before-self-clause-column c = λ _. column_stays c.args.self.place.column c.args.text.now c.args.self.at
