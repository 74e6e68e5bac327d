-- Each arm is the parse of its kind.
use Rattle.std.proofs.Common.{inl, refl, sym, ap, ◌∙◌}
use Rattle.std.specs.Str.{chars}
use Rattle.std.proofs.lemmas.Result.{err_from_is_err_and}
use Rattle.litrs_base.specs.declared.err.ParseErrorKind.TheVariants.{Empty}
use Rattle.litrs_base.specs.Refusal.{without_span}
use Rattle.litrs_grammar.specs.Bool.{bool_text}
use Rattle.litrs_grammar.specs.Literal.{a_bool, a_char, a_byte, char_literal, byte_literal, string_literal_of}
use Rattle.litrs_grammar.proofs.Laws.Bool.{chars-bool_text}
use Rattle.litrs.specs.BoolLiteral.{bool_value}
use Rattle.litrs.specs.CharLiteral.{char_parts, byte_parts}
use Rattle.litrs.specs.LiteralDerivation.{derivation}
use Rattle.litrs.proofs.KindErrors.{only_literal, kind_error_at, string_row, number_error_at, start_refused, start_error_at}
use Rattle.litrs.proofs.Literal.parse.Goals as goal

pub returns-in-Empty-clause-refused : goal.returns-in-Empty-clause-refused
returns-in-Empty-clause-refused g c =
    let is = c.in-Empty.ensures in
    start_error_at _ c.as_str.result.now Empty c.new.result c.as_str.ensures
    (start_refused c.as_str.result.now (without_span Empty) c.as_str.utf8 is.row) c.new.ensures.refusal

pub returns-in-Bool-clause-raw : goal.returns-in-Bool-clause-raw
returns-in-Bool-clause-raw g c =
    let is = c.in-Bool.ensures in
    ap bool_text c.new-in-Bool.ensures ∙ sym (sym c.as_str.ensures ∙ is.begins)

pub returns-in-Bool-clause-ok : goal.returns-in-Bool-clause-ok
returns-in-Bool-clause-ok g c =
    let is = c.in-Bool.ensures in
    only_literal _ (a_bool (bool_value c.new-in-Bool.result))
    (ap bool_text c.new-in-Bool.ensures
    ∙ sym (ap chars (sym c.as_str.ensures ∙ is.begins) ∙ chars-bool_text c.in-Bool.value))

pub parse_number-requires : goal.parse_number-requires
parse_number-requires g c = let is = c.in-Number.ensures in rw (← c.as_str.ensures) is.begins

pub returns-in_err-parse_number-in-Number-clause-refused : goal.returns-in_err-parse_number-in-Number-clause-refused
returns-in_err-parse_number-in-Number-clause-refused g c =
    let is = c.in-Number.ensures in
    let p = err_from_is_err_and c.from_residual.result c.from_residual.ensures.1 in
    rw (p.1) (number_error_at _ c.as_str.result.now _ c.in_err-parse_number-in-Number.field-0.0 _ c.as_str.utf8 c.as_str.ensures refl
    is.row p.2 c.in_err-parse_number-in-Number.ensures.refused)

pub returns-in_ok-parse_number-in-Number-clause-ok : goal.returns-in_ok-parse_number-in-Number-clause-ok
returns-in_ok-parse_number-in-Number-clause-ok g c = only_literal _ (derivation c.in_ok-parse_number-in-Number.field-0) c.in_ok-parse_number-in-Number.ensures.literal

pub parse_with_front-requires : goal.parse_with_front-requires
parse_with_front-requires g c = rw (c.as_str.ensures) at c.in-Char.ensures

pub returns-in_err-parse_with_front-in-Char-clause-refused : goal.returns-in_err-parse_with_front-in-Char-clause-refused
returns-in_err-parse_with_front-in-Char-clause-refused g c =
    let is = c.in-Char.ensures in
    let p = err_from_is_err_and c.from_residual-in_err-parse_with_front-in-Char.result c.from_residual-in_err-parse_with_front-in-Char.ensures.1 in
    rw (p.1) (kind_error_at char_literal _ c.as_str.result.now c.in_err-parse_with_front-in-Char.field-0.0 _ c.as_str.utf8 c.as_str.ensures
    is.row p.2 (inl c.in_err-parse_with_front-in-Char.ensures.refused))

pub returns-in_ok-parse_with_front-in-Char-clause-ok : goal.returns-in_ok-parse_with_front-in-Char-clause-ok
returns-in_ok-parse_with_front-in-Char-clause-ok g c = only_literal _ (a_char (char_parts c.in_ok-parse_with_front-in-Char.field-0)) c.in_ok-parse_with_front-in-Char.ensures.ok.0

pub parse_with_front-requires-in-Byte : goal.parse_with_front-requires-in-Byte
parse_with_front-requires-in-Byte g c = rw (c.as_str.ensures) at c.in-Byte.ensures

pub returns-in_err-parse_with_front-in-Byte-clause-refused : goal.returns-in_err-parse_with_front-in-Byte-clause-refused
returns-in_err-parse_with_front-in-Byte-clause-refused g c =
    let is = c.in-Byte.ensures in
    let p = err_from_is_err_and c.from_residual-in_err-parse_with_front-in-Byte.result c.from_residual-in_err-parse_with_front-in-Byte.ensures.1 in
    rw (p.1) (kind_error_at byte_literal _ c.as_str.result.now c.in_err-parse_with_front-in-Byte.field-0.0 _ c.as_str.utf8 c.as_str.ensures
    is.row p.2 (inl c.in_err-parse_with_front-in-Byte.ensures.refused))

pub returns-in_ok-parse_with_front-in-Byte-clause-ok : goal.returns-in_ok-parse_with_front-in-Byte-clause-ok
returns-in_ok-parse_with_front-in-Byte-clause-ok g c = only_literal _ (a_byte (byte_parts c.in_ok-parse_with_front-in-Byte.field-0)) c.in_ok-parse_with_front-in-Byte.ensures.ok.0

pub returns-in_err-parse_string-in-Quoted-clause-refused : goal.returns-in_err-parse_string-in-Quoted-clause-refused
returns-in_err-parse_string-in-Quoted-clause-refused g c =
    let p = err_from_is_err_and c.from_residual-in_err-parse_string-in-Quoted.result c.from_residual-in_err-parse_string-in-Quoted.ensures.1 in
    rw (p.1) (kind_error_at (string_literal_of c.in-Quoted.kind) _ c.as_str.result.now c.in_err-parse_string-in-Quoted.field-0.0 _ c.as_str.utf8 c.as_str.ensures
    (string_row c.of-front.result c.in-Quoted.kind c.as_str.result.now c.in-Quoted.is c.of-front.ensures.row) p.2 c.in_err-parse_string-in-Quoted.ensures.refused)

pub returns-in_ok-parse_string-in-Quoted-clause-ok : goal.returns-in_ok-parse_string-in-Quoted-clause-ok
returns-in_ok-parse_string-in-Quoted-clause-ok g c = only_literal _ (derivation c.in_ok-parse_string-in-Quoted.field-0) c.in_ok-parse_string-in-Quoted.ensures.literal

pub other_refusal-requires : goal.other_refusal-requires
other_refusal-requires g c = let is = rw (c.as_str.ensures) at c.in-Other.ensures in rw (c.as_str-in-Other.ensures) is

pub returns-in-Other-clause-refused : goal.returns-in-Other-clause-refused
returns-in-Other-clause-refused g c =
    start_error_at _ c.as_str-in-Other.result.now c.other_refusal.result c.new-in-Other.result c.as_str-in-Other.ensures
    c.other_refusal.ensures c.new-in-Other.ensures.refusal
