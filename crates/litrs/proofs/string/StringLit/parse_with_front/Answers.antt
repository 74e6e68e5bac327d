-- The derivation that the literal holds is the one that was parsed.
use Rattle.std.proofs.Common.{refl, sym}
use Rattle.litrs_base.specs.declared.quotes.StringKind.TheVariants.{String as string_kind}
use Rattle.litrs.proofs.ParsedStrings.{only_derivation, at_copy}
use Rattle.litrs.proofs.string.StringLit.parse_with_front.Goals as goal

pub invariant_of-result-2 : goal.invariant_of-result-2
invariant_of-result-2 g c = let parsed = c.in_ok-value.ensures.ok in
    at_copy string_kind _ _ _ _ _ _ _ (sym c.as_str.ensures) refl parsed.derives c.result-1.given.0.1 parsed.at

pub returns-clause-ok : goal.returns-clause-ok
returns-clause-ok g c = only_derivation string_kind _ c.result-1.given.0

pub read_string-requires-clause-front : goal.read_string-requires-clause-front
read_string-requires-clause-front g c = rw (← c.as_str.ensures) at c.requires
