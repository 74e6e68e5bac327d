use Rattle.std.proofs.Common.{sym, subst, ap, ◌∙◌}
use Rattle.litrs.specs.IntegerLiteral.{IntegerLiteral, integer_parts}
use Rattle.litrs_lex.specs.IntegerCut.{IsIntegerAt, integer_parts_at}
use Rattle.litrs.proofs.integer.IntegerLit+ref+str.to_owned.Goals as goal

pub invariant_of-result : goal.invariant_of-result
invariant_of-result c = subst (IsIntegerAt c.self.inside.cut) (sym c.in_ok-raw.ensures.ok) c.self.invariant

pub returns-clause-raw : goal.returns-clause-raw
returns-clause-raw c = c.in_ok-raw.ensures.ok ∙ ap (λ (lit : IntegerLiteral _). lit.raw) c.self.view_is

pub returns-clause-parts : goal.returns-clause-parts
returns-clause-parts c = ap (integer_parts_at c.self.inside.cut) c.in_ok-raw.ensures.ok ∙ ap integer_parts c.self.view_is
