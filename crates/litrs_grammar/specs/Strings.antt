-- Strings of the three kinds, by their parts. The Rust Reference, Tokens, Literals.
use Rattle.std.specs.Prelude.{ℕ, Bool, true, false, List}
use Rattle.litrs_base.specs.declared.quotes.StringKind.{StringKind}
use Rattle.litrs_grammar.specs.Literal.{StringParts, quoted_parts, raw_parts, IsString}

-- The parts of the text as a string of the kind.
abbrev pub StringDerivation : StringKind → List ℕ → Type 0
StringDerivation kind t = (d : StringParts) × IsString kind t d

-- `true` iff the string is raw, for example `r"a"`.
abbrev pub is_raw : StringParts → Bool
is_raw (quoted_parts d) = false
is_raw (raw_parts d) = true
