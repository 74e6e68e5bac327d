-- Errors of memory.
use Rattle.std.proofs.Common.{◌≡◌, ℕ, List, inl, inr}
use Rattle.litrs_base.specs.declared.err.ParseError.{ParseError}
use Rattle.litrs_base.specs.declared.err.ParseErrorKind.TheVariants as kind
use Rattle.litrs_base.specs.Refusal.{refusal_of, kind_of}
use Rattle.litrs_grammar.specs.Literal.{Parse, literal_parse, kind_parse}
use Rattle.litrs_grammar.specs.Refused.{IsOutOfMemory, IsRefusedOrOutOfMemory}
use Rattle.litrs_grammar.proofs.RefusalKinds.{no_refusal_is_of_memory}

-- an error of this kind is of a literal
pub of_memory : (parse : Parse) (t : List ℕ) (e : ParseError) → kind_of e ≡ kind.OutOfMemory → IsRefusedOrOutOfMemory parse t e → IsOutOfMemory parse t e
of_memory parse t e is (inl refused) = absurd (no_refusal_is_of_memory parse t (refusal_of e) refused.table is)
of_memory parse t e is (inr lack) = lack

-- the error of the parse of a kind is that of the parse of all kinds
pub of_any_kind : (parse : Parse) (t : List ℕ) (e : ParseError) → IsOutOfMemory parse t e → IsOutOfMemory literal_parse t e
of_any_kind literal_parse t e lack = lack
of_any_kind (kind_parse kind) t e lack = record {
  derivation = lack.derivation;
  literal = lack.literal.1;
  allocated = lack.allocated;
  takes = lack.takes;
  error = lack.error;
}
