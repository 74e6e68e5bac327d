-- By the front of the text.
use Rattle.std.proofs.Common.{ℕ, List, refl, sym, subst, ◌∙◌}
use Rattle.litrs_lines.specs.Open.{IsQuotedTo}
use Rattle.std.specs.Str.{chars, IsCharBoundary}
use Rattle.litrs_lex.proofs.Dispatch.{dispatch-chars}
use Rattle.litrs_lex.proofs.StringFronts.{raw_boundary}
use Rattle.std.specs.Prelude.{codes}
use Rattle.litrs_base.proofs.Chars.{begins_with-chars}
use Rattle.litrs_base.specs.declared.err.ParseErrorKind.TheVariants.{Empty, InvalidLiteral}
use Rattle.litrs_base.specs.Refusal.{refusal, without_span}
use Rattle.litrs_base.specs.Text.{begins_with}
use Rattle.litrs_grammar.specs.Literal.{bool_literal, char_literal, byte_literal}
use Rattle.litrs_grammar.specs.LiteralRefusals.{begins_with_float, parsed_as, refused_as}
use Rattle.litrs_lines.proofs.OpenBytes.{quoted_opened, raw_opened, raw_unopened}
use Rattle.litrs_lines.proofs.OpenTexts.{other_is_shut, number_is_shut, word_is_shut, no_string, no_bool, no_char, no_byte}
use Rattle.litrs_lines.proofs.collector.body.first_line.Goals as goal

pub quoted_line-requires : goal.quoted_line-requires
quoted_line-requires c =
    let kind = c.in-Quoted.kind in
    let text : List ℕ = c.args.text.now in
    subst (λ (n : ℕ). IsQuotedTo kind n text) (sym c.front_len.ensures.quoted) (quoted_opened kind text c.utf8.text c.in-Quoted.ensures.begins)

pub open_raw-requires : goal.open_raw-requires
open_raw-requires c =
    let text : List ℕ = c.args.text.now in
    subst (λ (n : ℕ). IsCharBoundary text n) (sym c.front_len-in-Raw.ensures.raw) (raw_boundary c.in-Raw.kind text c.utf8.text c.in-Raw.ensures.begins)

pub raw_line-requires : goal.raw_line-requires
raw_line-requires c =
    raw_opened c.in-Raw.kind c.front_len-in-Raw.result c.in-Ok.hashes c.in-Ok.place c.args.text.now c.utf8.text c.in-Raw.ensures.begins c.front_len-in-Raw.ensures.raw c.in-Ok.ensures.ok

pub returns-in-Err : goal.returns-in-Err
returns-in-Err c =
    raw_unopened c.in-Raw.kind c.front_len-in-Raw.result c.args.text.now (refusal c.in-Err.field-0.0 c.in-Err.field-0.1) c.utf8.text c.in-Raw.ensures.begins c.front_len-in-Raw.ensures.raw
    c.in-Err.ensures.refused c.in-Err.ensures.shut

pub returns-in-Number : goal.returns-in-Number
returns-in-Number c =
    let text : List ℕ = c.args.text.now in
    number_is_shut (chars text) (begins_with_float text) (c.in-Number.ensures.row ∙ sym (dispatch-chars text c.utf8.text))

pub returns-in-Char : goal.returns-in-Char
returns-in-Char c =
    let text : List ℕ = c.args.text.now in
    other_is_shut (chars text) (parsed_as char_literal) (c.in-Char.ensures.row ∙ sym (dispatch-chars text c.utf8.text)) (no_string char_literal no_char)

pub returns-in-Byte : goal.returns-in-Byte
returns-in-Byte c =
    let text : List ℕ = c.args.text.now in
    other_is_shut (chars text) (parsed_as byte_literal) (c.in-Byte.ensures.row ∙ sym (dispatch-chars text c.utf8.text)) (no_string byte_literal no_byte)

pub returns-in-Bool : goal.returns-in-Bool
returns-in-Bool c =
    let text : List ℕ = c.args.text.now in
    other_is_shut (chars text) (parsed_as bool_literal) (c.in-Bool.ensures.row ∙ sym (dispatch-chars text c.utf8.text)) (no_string bool_literal no_bool)

pub returns-in-Empty : goal.returns-in-Empty
returns-in-Empty c =
    let text : List ℕ = c.args.text.now in
    other_is_shut (chars text) (refused_as (without_span Empty)) (c.in-Empty.ensures.row ∙ sym (dispatch-chars text c.utf8.text)) (λ kind is. cc)

pub returns-in-Other : goal.returns-in-Other
returns-in-Other c =
    let text : List ℕ = c.args.text.now in
    let utf8 = c.utf8.text in
    word_is_shut (chars text) (begins_with (codes "c") text) (without_span InvalidLiteral) (c.in-Other.ensures.row ∙ sym (dispatch-chars text utf8))
    (begins_with-chars (codes "c\"") text refl utf8 ∙ c.in-Other.ensures.begins.0) (begins_with-chars (codes "cr") text refl utf8 ∙ c.in-Other.ensures.begins.1)
