-- The parts of errors, read one by one: each line fails if the definition says less.
use Rattle.std.specs.Prelude.{ℕ, Bool, List, IsTrue}
use Rattle.litrs.specs.Allocation.{allocates, takes_memory}
use Rattle.litrs.specs.Literal.{Derivation, IsLiteral}
use Rattle.litrs.specs.declared.ParseError.{ParseError}
use Rattle.litrs_prefix.specs.Piece.{IsPiece}
use Rattle.litrs_prefix.specs.Opens.{opens}
use Rattle.litrs_prefix.specs.Prefix.{HasPrefix, HasNoPrefix}
use Rattle.litrs_value.specs.Kinds.{Fits}
use Rattle.litrs_value.specs.Prefixes.{IsFrontFor}
use Rattle.litrs_value.specs.Reads.{IsRefusedAfter}
use Rattle.litrs_value.specs.Refuses.{IsAllocated, Refuses}
use Rattle.litrs_value.specs.declared.error.ValueError.TheVariants.{Malformed, Memory}
use Rattle.litrs_value.specs.declared.value_type.ValueType.{ValueType}

-- a malformed prefix is that of a text where a literal begins and none is valid
malformed_front :
    (t front rest : List ℕ) (e : ParseError) → IsFrontFor (Malformed e) t front rest →
    IsTrue (opens t) × HasNoPrefix t × IsPiece t front
malformed_front t front rest e is = is

-- an error of memory is about the literal at the front
memory_front : (t front rest : List ℕ) → IsFrontFor Memory t front rest → (d : Derivation) × HasPrefix t d rest
memory_front t front rest is = is

-- reading runs out of memory only for a literal of the type, and only if it allocates
memory_of_type : (type : ValueType) (negative : Bool) (d : Derivation) → Refuses type negative d Memory → Fits type negative d × IsAllocated type d
memory_of_type type negative d is = is

-- a parse runs out of memory only for a literal whose value is allocated and takes memory
memory_of_parse :
    (negative : Bool) (t : List ℕ) → IsRefusedAfter negative t Memory →
    (d : Derivation) × IsLiteral t d × IsTrue (allocates d) × IsTrue (takes_memory d)
memory_of_parse negative t is = is
