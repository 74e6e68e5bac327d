-- The fronts of texts. The Rust Reference, Tokens, Literals.
use Rattle.std.specs.Prelude.{◌≡◌, ℕ, List, codes, IsTrue, IsFalse, if◌then◌else◌}
use Rattle.std.specs.Char.{is_ascii_digit}
use Rattle.litrs_base.specs.declared.err.ParseErrorKind.TheVariants.{Empty, InvalidLiteral}
use Rattle.litrs_base.specs.Refusal.{without_span}
use Rattle.litrs_base.specs.Text.{is_empty, first_passes, begins_with}
use Rattle.litrs_grammar.specs.Bool.{bool_text}
use Rattle.litrs_grammar.specs.Literal.{bool_literal, integer_literal, float_literal, char_literal, byte_literal, c_string_literal, string_literal_of}
use Rattle.litrs_grammar.specs.LiteralRefusals.{begins_with_float, Dispatch, refused_as, parsed_as, dispatch}
use Rattle.litrs_base.specs.Quotes.{quoted_front, raw_front}
use Rattle.litrs_lex.specs.declared.kind.Front.{Front}
use Rattle.litrs_lex.specs.declared.kind.Front.TheVariants as front

-- The row of the dispatch for the text with these bytes and this front.
abbrev pub row_of : Front → List ℕ → Dispatch
row_of front.Empty bytes = refused_as (without_span Empty)
row_of (front.Bool value) bytes = parsed_as bool_literal
row_of front.Number bytes =
    if begins_with_float bytes then parsed_as float_literal else parsed_as integer_literal
row_of front.Char bytes = parsed_as char_literal
row_of front.Byte bytes = parsed_as byte_literal
row_of (front.Quoted kind) bytes = parsed_as (string_literal_of kind)
row_of (front.Raw kind) bytes = parsed_as (string_literal_of kind)
row_of front.Other bytes =
    if begins_with (codes "c") bytes then parsed_as c_string_literal
    else refused_as (without_span InvalidLiteral)

-- The bytes have this front. The dispatch has one row for all texts that start with `c`. Those that
-- start with neither front of a C string start like no literal.
abbrev pub BeginsAs : Front → List ℕ → Type 0
BeginsAs front.Empty bytes = IsTrue (is_empty bytes)
BeginsAs (front.Bool value) bytes = bytes ≡ bool_text value
BeginsAs front.Number bytes = IsTrue (first_passes is_ascii_digit bytes)
BeginsAs front.Char bytes = IsTrue (begins_with (codes "'") bytes)
BeginsAs front.Byte bytes = IsTrue (begins_with (codes "b'") bytes)
BeginsAs (front.Quoted kind) bytes = IsTrue (begins_with (quoted_front kind) bytes)
BeginsAs (front.Raw kind) bytes = IsTrue (begins_with (raw_front kind) bytes)
BeginsAs front.Other bytes =
    IsFalse (begins_with (codes "c\"") bytes) × IsFalse (begins_with (codes "cr") bytes)

-- The text with these bytes has this front, and the dispatch has its row for it.
pub record IsFront (front : Front) (bytes : List ℕ) : Type 0 where
  pub begins : BeginsAs front bytes
  pub row : row_of front bytes ≡ dispatch bytes
