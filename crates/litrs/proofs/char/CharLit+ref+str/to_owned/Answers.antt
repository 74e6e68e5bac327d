use Rattle.std.proofs.Common.{sym, subst, ap, ◌∙◌}
use Rattle.litrs_base.specs.declared.quotes.CharKind.TheVariants.{Char as char_kind}
use Rattle.litrs.specs.CharLiteral.{CharLiteral, char_parts}
use Rattle.litrs_lex.specs.CharCut.{IsCharAt, char_parts_at}
use Rattle.litrs.proofs.char.CharLit+ref+str.to_owned.Goals as goal

pub invariant_of-result : goal.invariant_of-result
invariant_of-result c = subst (IsCharAt char_kind c.self.inside.value c.self.inside.start_suffix) (sym c.in_ok-raw.ensures.ok) c.self.invariant

pub returns-clause-raw : goal.returns-clause-raw
returns-clause-raw c = c.in_ok-raw.ensures.ok ∙ ap (λ (lit : CharLiteral _). lit.raw) c.self.view_is

pub returns-clause-parts : goal.returns-clause-parts
returns-clause-parts c = ap (char_parts_at char_kind c.self.inside.start_suffix) c.in_ok-raw.ensures.ok ∙ ap char_parts c.self.view_is
