-- Laws of the texts for which a parse may allocate memory.
use Rattle.std.specs.Prelude.{◌≡◌, ℕ, List}
use Rattle.litrs_grammar.specs.Literal.{Derivation, IsLiteral}
use Rattle.litrs_grammar.specs.Allocation.{may_allocate, allocates}

-- A parse may allocate for a literal if and only if it is a C string, or its body is quoted and has
-- a backslash.
abbrev pub AllocationIsByParts : Type 0
AllocationIsByParts = (t : List ℕ) (d : Derivation) → IsLiteral t d → may_allocate t ≡ allocates d
