-- A C string is built of its value, and no error is expected of it.
use Rattle.std.proofs.Common.{◌≡◌, IfOk, IfErr, ap, sym, subst, ◌∙◌}
use Rattle.std.specs.Prelude.{Option}
use Rattle.std.specs.Str.{chars}
use Rattle.litrs_base.specs.declared.quotes.StringKind.TheVariants.{CString as c_string_kind}
use Rattle.litrs_grammar.specs.Literal.{StringParts}
use Rattle.litrs_grammar.specs.Suffix.{is_suffix}
use Rattle.litrs_build.specs.declared.error.BuildError.{BuildError}
use Rattle.litrs_build.specs.Errors.{IsErrorOf}
use Rattle.litrs_build.specs.Raw.{raw_c_error, written_raw}
use Rattle.litrs_build.proofs.RawLiterals.{no_nul_error}
use Rattle.litrs_build.proofs.WrittenAnew.{raw_again, raw_is_possible, string_has_suffix}
use Rattle.litrs_build.proofs.unescaping.built_c_string.Goals as goal

pub returns-then-is_raw_c_string-clause-parts : goal.returns-then-is_raw_c_string-clause-parts
returns-then-is_raw_c_string-clause-parts g c =
    let d = c.args.lit.now.parts in
    let raw = sym c.is_raw_c_string.ensures ∙ c.if-is_raw_c_string.true in
    let value = c.to_bytes-value.ensures.bytes ∙ c.value.ensures in
    subst (λ (e : StringParts). IfOk c.raw_c_string.result (λ lit. lit.parts ≡ e))
    ((λ i. written_raw (chars (value i)) (c.suffix.ensures i))
    ∙ raw_again c_string_kind c.raw_input.result.now d raw c.raw_input.utf8
    c.raw_input.ensures.literal)
    c.raw_c_string.ensures.parts

pub returns-then-is_raw_c_string-clause-errors : goal.returns-then-is_raw_c_string-clause-errors
returns-then-is_raw_c_string-clause-errors g c =
    let d = c.args.lit.now.parts in
    let raw = sym c.is_raw_c_string.ensures ∙ c.if-is_raw_c_string.true in
    let value = c.to_bytes-value.ensures.bytes ∙ c.value.ensures in
    subst (λ (e : Option BuildError). IfErr c.raw_c_string.result (IsErrorOf e))
    ((λ i. raw_c_error (value i) (c.suffix.ensures i))
    ∙ raw_is_possible c_string_kind c.raw_input.result.now d raw c.raw_input.utf8
    c.raw_input.ensures.literal)
    c.raw_c_string.ensures.refused

pub returns-else-is_raw_c_string-clause-errors : goal.returns-else-is_raw_c_string-clause-errors
returns-else-is_raw_c_string-clause-errors g c =
    let d = c.args.lit.now.parts in
    let suffix = ap is_suffix c.suffix-else-is_raw_c_string.ensures
    ∙ string_has_suffix c_string_kind (chars c.raw_input.result.now) d
    c.raw_input.ensures.literal in
    subst (λ (e : Option BuildError). IfErr c.c_string.result (IsErrorOf e))
    (no_nul_error c.to_bytes-value.result.now
    (chars c.suffix-else-is_raw_c_string.result.now) suffix
    c.to_bytes-value.ensures.no_nul)
    c.c_string.ensures.refused
