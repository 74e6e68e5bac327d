-- Only a literal whose value is allocated has the error of an allocation failure.
use Rattle.std.proofs.Common.{◌≡◌, ℕ, List, rules}
use Rattle.litrs_base.specs.declared.err.ParseError.{ParseError}
use Rattle.litrs_base.specs.declared.err.ParseErrorKind.TheVariants.{OutOfMemory}
use Rattle.litrs_base.specs.Refusal.{kind_of}
use Rattle.litrs_grammar.specs.Literal.{literal_parse}
use Rattle.litrs_grammar.specs.Refused.{IsRefusedOrOutOfMemory, MayLackMemory}
use Rattle.litrs.proofs.OutOfMemory.{of_memory}
use Rattle.litrs_c.specs.declared.TheConstants.{OUT_OF_MEMORY, REFUSED}

pub lacks_memory : (t : List ℕ) (e : ParseError) → IsRefusedOrOutOfMemory literal_parse t e → kind_of e ≡ OutOfMemory → MayLackMemory t
lacks_memory t e refused is = (e, of_memory literal_parse t e is refused)

-- a text that is out of memory is not refused
pub out_of_memory_not_refused : OUT_OF_MEMORY ≡ REFUSED → ⊥
out_of_memory_not_refused = search rules
