use Rattle.std.proofs.Common.{sym, subst, ap, ◌∙◌}
use Rattle.litrs.specs.FloatLiteral.{FloatLiteral, float_parts}
use Rattle.litrs_lex.specs.FloatCut.{IsFloatAt, float_parts_at}
use Rattle.litrs.proofs.float.FloatLit+ref+str.to_owned.Goals as goal

pub invariant_of-result : goal.invariant_of-result
invariant_of-result c = subst (IsFloatAt c.self.inside.cut) (sym c.in_ok-raw.ensures.ok) c.self.invariant

pub returns-clause-raw : goal.returns-clause-raw
returns-clause-raw c = c.in_ok-raw.ensures.ok ∙ ap (λ (lit : FloatLiteral _). lit.raw) c.self.view_is

pub returns-clause-parts : goal.returns-clause-parts
returns-clause-parts c = ap (float_parts_at c.self.inside.cut) c.in_ok-raw.ensures.ok ∙ ap float_parts c.self.view_is
