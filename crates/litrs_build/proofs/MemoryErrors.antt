-- A text that is a literal is refused only if an allocation failed.
use Rattle.std.proofs.Common.{◌≡◌, ℕ, List, ap, inl, inr}
use Rattle.litrs_base.specs.declared.err.ParseError.{ParseError}
use Rattle.litrs_base.specs.declared.err.ParseErrorKind.TheVariants.{OutOfMemory}
use Rattle.litrs_base.specs.Refusal.{Refusal, kind_of}
use Rattle.litrs_grammar.specs.Literal.{Derivation, Parse, IsLiteralOf}
use Rattle.litrs_grammar.specs.Refused.{IsRefusedOrOutOfMemory}

pub out_of_memory : (parse : Parse) (t : List ℕ) (e : ParseError) (d : Derivation) →
    IsLiteralOf parse t d → IsRefusedOrOutOfMemory parse t e → kind_of e ≡ OutOfMemory
out_of_memory parse t e d is (inl refused) = absurd (refused.none d is)
out_of_memory parse t e d is (inr memory) = ap (λ (r : Refusal). r.kind) memory.error
