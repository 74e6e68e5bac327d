-- The places are those of a parse.
use Rattle.std.proofs.Common.{refl, sym}
use Rattle.litrs_base.specs.declared.quotes.StringKind.TheVariants.{String as string_kind}
use Rattle.litrs.proofs.ParsedStrings.{plain_string, only_derivation, at_copy}
use Rattle.litrs.proofs.string.StringLit.plain.Goals as goal

pub invariant_of-result : goal.invariant_of-result
invariant_of-result g c =
    let parsed = plain_string _ (rw c.as_str-start_suffix.ensures at c.as_str-start_suffix.utf8) c.requires in
    ((parsed.parts, parsed.derives), tt)

pub invariant_of-result-2 : goal.invariant_of-result-2
invariant_of-result-2 g c =
    let parsed = plain_string _ c.as_str-start_suffix.utf8 (rw (← c.as_str-start_suffix.ensures) at c.requires) in
    at_copy string_kind _ _ _ _ _ _ _ (sym c.as_str-start_suffix.ensures) refl parsed.derives c.result-1.given.0.1 parsed.at

pub returns-clause-ok : goal.returns-clause-ok
returns-clause-ok g c = only_derivation string_kind _ c.result-1.given.0
