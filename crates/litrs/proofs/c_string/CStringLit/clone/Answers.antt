-- The copy has the same text and the same value, and so the same derivation.
use Rattle.std.proofs.Common.{ap, ◌∙◌}
use Rattle.litrs_base.specs.declared.quotes.StringKind.TheVariants.{CString as c_string_kind}
use Rattle.litrs.specs.StringLiteral.{StringLiteral}
use Rattle.litrs.proofs.ParsedStrings.{c_at_copy, same_parts}
use Rattle.litrs.proofs.c_string.CStringLit.clone.Goals as goal

pub invariant_of-result-2 : goal.invariant_of-result-2
invariant_of-result-2 g c =
    c_at_copy _ _ _ _ _ _ _ c.in_ok-raw.ensures.ok c.in_ok-value.ensures c.self.inside.derived.1 c.result-1.given.0.1 c.self.invariant

pub returns-clause-parts : goal.returns-clause-parts
returns-clause-parts g c =
    same_parts c_string_kind _ _ _ _ c.in_ok-raw.ensures.ok c.self.inside.derived.1 c.result-1.given.0.1
    ∙ ap (λ (lit : StringLiteral g.row.B.Denot). lit.parts) c.self.view_is
