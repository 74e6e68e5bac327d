-- The text is the same, and so the derivation.
use Rattle.std.proofs.Common.{refl}
use Rattle.litrs_base.specs.declared.quotes.StringKind.TheVariants.{String as string_kind}
use Rattle.litrs.proofs.ParsedStrings.{at_copy, same_parts}
use Rattle.litrs.proofs.string.StringLit+ref+str.into_owned.Goals as goal

pub invariant_of-result-2 : goal.invariant_of-result-2
invariant_of-result-2 c =
    at_copy string_kind _ _ _ _ _ _ _ c.in_ok-raw.ensures.ok refl c.self.inside.derived.1 c.result-1.given.0.1 c.self.invariant

pub returns-clause-parts : goal.returns-clause-parts
returns-clause-parts c =
    rw (← c.self.view_is)
    (same_parts string_kind _ _ _ _ c.in_ok-raw.ensures.ok c.self.inside.derived.1 c.result-1.given.0.1)
