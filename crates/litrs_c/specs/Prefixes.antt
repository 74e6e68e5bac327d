-- The answers for the front of a text, which is a list of characters, or of bytes.
use Rattle.std.specs.Prelude.{◌≡◌, ℕ, List, drop}
use Rattle.std.specs.Str.{chars, IsCharBoundary}
use Rattle.litrs_base.specs.declared.err.ParseError.{ParseError}
use Rattle.litrs_grammar.specs.Literal.{Derivation}
use Rattle.litrs_prefix.specs.declared.MalformedPrefix.{MalformedPrefix}
use Rattle.litrs_prefix.specs.Malformed.{IsMalformed, IsOutOfMemoryAt}
use Rattle.litrs_prefix.specs.Prefix.{HasPrefix}

-- The bytes have a literal of this length at their front, which ends where a character begins or
-- the bytes end, and the condition holds for it.
abbrev pub IsPrefixAnd : (bytes : List ℕ) → ℕ → (Derivation → Type 0) → Type 0
IsPrefixAnd bytes len Says = (d : Derivation) × HasPrefix (chars bytes) d (chars (drop len bytes))
    × IsCharBoundary bytes len × Says d

-- The bytes have a malformed prefix of this length, and the condition holds for the error.
abbrev pub IsMalformedAnd : List ℕ → ℕ → (ParseError → Type 0) → Type 0
IsMalformedAnd t len Says =
    (m : MalformedPrefix) × IsMalformed t m × (m.len ≡ len) × Says m.error

-- The bytes have a literal of this length at their front, whose value is allocated and takes
-- memory.
abbrev pub LacksMemoryAt : List ℕ → ℕ → Type 0
LacksMemoryAt t len = (m : MalformedPrefix) × IsOutOfMemoryAt t m × (m.len ≡ len)
