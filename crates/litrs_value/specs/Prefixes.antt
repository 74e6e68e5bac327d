-- Texts that start with a value.
use Rattle.std.specs.Prelude.{ℕ, List, take, drop, IsTrue}
use Rattle.std.specs.Str.{chars, IsCharBoundary}
use Rattle.litrs.specs.CharEnd.{IsCutBy}
use Rattle.litrs.specs.Literal.{Derivation}
use Rattle.litrs_prefix.specs.Piece.{IsPiece}
use Rattle.litrs_prefix.specs.Opens.{opens}
use Rattle.litrs_prefix.specs.Prefix.{HasPrefix, HasNoPrefix}
use Rattle.litrs_value.specs.Reads.{unsigned, IsValueError, marked}
use Rattle.litrs_value.specs.declared.prefix.PrefixError.{PrefixError}
use Rattle.litrs_value.specs.declared.value_type.ValueType.{ValueType}
use Rattle.litrs_value.specs.declared.error.ValueError.{ValueError}
use Rattle.litrs_value.specs.declared.error.ValueError.TheVariants.{Malformed}

-- The front of a text after its sign is the one that an error is about. This is the literal there,
-- or the malformed prefix if a literal begins there and none is valid.
abbrev pub IsFrontFor : ValueError → (t front rest : List ℕ) → Type 0
IsFrontFor (Malformed e) t front rest = IsTrue (opens t) × HasNoPrefix t × IsPiece t front
IsFrontFor e t front rest = (d : Derivation) × HasPrefix t d rest

-- The error is that of the first `len` bytes of the text, which are the front that it is about.
abbrev pub IsPrefixError : ValueType → List ℕ → PrefixError → Type 0
IsPrefixError type text e = IsValueError type (take e.len text) e.error
    × IsFrontFor e.error (chars (unsigned text)) (chars (unsigned (take e.len text)))
    (chars (drop e.len text))

-- The text may be cut after the first `len` bytes, and at both ends of the part that is marked.
abbrev pub IsMarkedIn : List ℕ → PrefixError → Type 0
IsMarkedIn text e = IsCharBoundary text e.len
    × IsCutBy text (marked (chars (take e.len text)) e.error)
