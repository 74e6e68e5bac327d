-- Errors of memory at the front of a text.
use Rattle.std.proofs.Common.{◌≡◌, ℕ, List, inl, inr}
use Rattle.litrs_base.specs.declared.err.ParseErrorKind.TheVariants as kind
use Rattle.litrs_base.specs.Refusal.{refusal_of, kind_of}
use Rattle.litrs_grammar.specs.Literal.{literal_parse}
use Rattle.litrs_grammar.proofs.RefusalKinds.{no_refusal_is_of_memory}
use Rattle.litrs_prefix.specs.declared.MalformedPrefix.{MalformedPrefix}
use Rattle.litrs_prefix.specs.Malformed.{IsOutOfMemoryAt, IsMalformedOrOutOfMemory}

-- an error of this kind is of the literal at the front
pub of_memory : (t : List ℕ) (m : MalformedPrefix) → kind_of m.error ≡ kind.OutOfMemory → IsMalformedOrOutOfMemory t m → IsOutOfMemoryAt t m
of_memory t m is (inl malformed) =
    absurd (no_refusal_is_of_memory literal_parse malformed.front (refusal_of m.error) malformed.refused.table is)
of_memory t m is (inr lack) = lack
