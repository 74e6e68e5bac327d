-- By how the text begins.
use Rattle.std.proofs.Common.{sym, ◌∙◌}
use Rattle.std.specs.Str.{chars}
use Rattle.litrs_grammar.specs.Literal.{char_literal, byte_literal}
use Rattle.litrs_grammar.proofs.LongerTexts.Literal.{chain}
use Rattle.litrs_lex.specs.NumberCut.{number_kind}
use Rattle.litrs_lex.proofs.Dispatch.{dispatch-chars}
use Rattle.litrs.proofs.Begins.{begins_parsed}
use Rattle.litrs.proofs.Numbers.{number_named}
use Rattle.litrs.proofs.StringEnds.{string_parsed}
use Rattle.litrs.proofs.Words.{whole_decided, other_decided, other_is_no_bool}
use Rattle.litrs.proofs.going_on.goes_on.Goals as goal

pub returns-in-Empty : goal.returns-in-Empty
returns-in-Empty c =
    whole_decided c.of.result c.args.text.now c.utf8.text c.of.ensures c.in-Empty.is

pub returns-in-Number : goal.returns-in-Number
returns-in-Number c = let is = c.in-Number.ensures in
    chain c.number_goes_on.ensures
    (begins_parsed (chars c.args.text.now) (number_kind (chars c.args.text.now))
    (number_named c.args.text.now c.utf8.text is.row))

pub returns-in-Char : goal.returns-in-Char
returns-in-Char c = let is = c.in-Char.ensures in
    chain c.char_goes_on.ensures
    (begins_parsed (chars c.args.text.now) char_literal
    (dispatch-chars c.args.text.now c.utf8.text ∙ sym is.row))

pub returns-in-Byte : goal.returns-in-Byte
returns-in-Byte c = let is = c.in-Byte.ensures in
    chain c.byte_goes_on.ensures
    (begins_parsed (chars c.args.text.now) byte_literal
    (dispatch-chars c.args.text.now c.utf8.text ∙ sym is.row))

pub returns-in-Quoted : goal.returns-in-Quoted
returns-in-Quoted c = let is = c.in-Quoted.ensures in
    string_parsed c.in-Quoted.kind c.args.text.now c.quoted_goes_on.result c.utf8.text is.row
    c.quoted_goes_on.ensures

pub returns-in-Raw : goal.returns-in-Raw
returns-in-Raw c = let is = c.in-Raw.ensures in
    string_parsed c.in-Raw.kind c.args.text.now c.raw_goes_on.result c.utf8.text is.row
    c.raw_goes_on.ensures

pub is_prefix_of_a_front-requires : goal.is_prefix_of_a_front-requires
is_prefix_of_a_front-requires c =
    other_is_no_bool c.as_bytes.result.now c.args.text.now c.in-Other.ensures c.as_bytes.ensures.value

pub returns-in-Other : goal.returns-in-Other
returns-in-Other c =
    other_decided c.args.text.now c.as_bytes.result.now c.is_prefix_of_a_front.result c.utf8.text
    c.in-Other.ensures c.as_bytes.ensures.value c.is_prefix_of_a_front.ensures
