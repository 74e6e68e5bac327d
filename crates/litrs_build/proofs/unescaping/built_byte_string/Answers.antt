-- A raw byte string is built of its value, and no error is expected of it.
use Rattle.std.proofs.Common.{◌≡◌, true, false, IfOk, IfErr, sym, subst, ◌∙◌}
use Rattle.std.specs.Prelude.{Option}
use Rattle.litrs_base.specs.declared.quotes.StringKind.TheVariants.{ByteString as byte_string_kind}
use Rattle.litrs_grammar.specs.Literal.{StringParts}
use Rattle.litrs_build.specs.declared.error.BuildError.{BuildError}
use Rattle.litrs_build.specs.Errors.{IsErrorOf}
use Rattle.litrs_build.specs.Raw.{raw_error, written_raw}
use Rattle.litrs_build.proofs.WrittenAnew.{raw_bytes_again, raw_is_possible}
use Rattle.litrs_build.proofs.unescaping.built_byte_string.Goals as goal

pub returns-then-is_raw_byte_string-clause-parts : goal.returns-then-is_raw_byte_string-clause-parts
returns-then-is_raw_byte_string-clause-parts g c =
    let d = c.args.lit.now.parts in
    let raw = sym c.is_raw_byte_string.ensures ∙ c.if-is_raw_byte_string.true in
    subst (λ (e : StringParts). IfOk c.raw_byte_string.result (λ lit. lit.parts ≡ e))
    ((λ i. written_raw (c.value.ensures i) (c.suffix.ensures i))
    ∙ raw_bytes_again c.raw_input.result.now d raw c.raw_input.ensures.literal)
    c.raw_byte_string.ensures.parts

pub returns-then-is_raw_byte_string-clause-errors :
    goal.returns-then-is_raw_byte_string-clause-errors
returns-then-is_raw_byte_string-clause-errors g c =
    let d = c.args.lit.now.parts in
    let raw = sym c.is_raw_byte_string.ensures ∙ c.if-is_raw_byte_string.true in
    subst (λ (e : Option BuildError). IfErr c.raw_byte_string.result (IsErrorOf e))
    ((λ i. raw_error false true (c.value.ensures i) (c.suffix.ensures i))
    ∙ raw_is_possible byte_string_kind c.raw_input.result.now d raw c.raw_input.utf8
    c.raw_input.ensures.literal)
    c.raw_byte_string.ensures.refused
