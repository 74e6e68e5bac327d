-- A text has at most one derivation as a string of a kind.
use Rattle.std.proofs.Common.{ℕ, List}
use Rattle.std.proofs.Props.{props}
use mathlib.Core.HLevel.{Σ_prop_path}
use Rattle.litrs_base.specs.declared.quotes.StringKind.{StringKind}
use Rattle.litrs_grammar.specs.Literal.{StringParts, quoted_parts, raw_parts, IsString}
use Rattle.litrs_grammar.specs.Strings.{StringDerivation}
use Rattle.litrs_grammar.proofs.Laws.Literal.{only_string}

pub IsString-prop : (kind : StringKind) (t : List ℕ) (d : StringParts) → IsProp (IsString kind t d)
IsString-prop kind t (quoted_parts d) = hlevel props
IsString-prop kind t (raw_parts d) = hlevel props

pub string_derivation-prop : (kind : StringKind) (t : List ℕ) → IsProp (StringDerivation kind t)
string_derivation-prop kind t = λ u v. Σ_prop_path (IsString-prop kind t) (only_string kind t u.0 v.0 u.1 v.1)
