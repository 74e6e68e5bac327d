-- The char is built of the value and the suffix.
use Rattle.std.proofs.Common.{◌≡◌, IfOk, subst}
use Rattle.litrs_grammar.specs.CharByte.{CharParts}
use Rattle.litrs.specs.CharLiteral.{char_parts}
use Rattle.litrs_build.specs.Written.{written_char}
use Rattle.litrs_build.proofs.unescaping.built_char.Goals as goal

pub returns-clause-parts : goal.returns-clause-parts
returns-clause-parts g c =
    subst (λ (e : CharParts). IfOk c.char.result (λ lit. char_parts lit ≡ e))
    (λ i. written_char (c.value.ensures i) (c.suffix.ensures i)) c.char.ensures.parts
