-- The words of the contracts and of their proofs, from one place. A contract imports operators from
-- `std` itself, since the toolchain accepts them from nowhere else.
pub use Rattle.std.specs.Char.{is_ascii, is_ascii_alphanumeric, is_ascii_digit, is_ascii_alphabetic}
pub use Rattle.std.specs.Char.{is_whitespace}
pub use Rattle.std.specs.Cmp.Lexicographic.{pointwise}
pub use Rattle.std.specs.List.{prefix_len, list_all, after_first, list_any, take_while}
pub use Rattle.std.specs.Prelude.{drop, take, IsTrue, IfOk, IfErr, IfSome, IfNone, not, Bool}
pub use Rattle.std.specs.Prelude.{IsFalse, length, ℕ, nat_le, codes, ⊤, encode_utf8_all, nat_eq}
pub use Rattle.std.specs.Prelude.{encode_utf8, ltb, unwrap_or}
pub use Rattle.std.specs.Str.{chars, IsCharBoundary, drop_trailing_whitespace, IsUtf8}
pub use Rattle.unicode_ident.specs.Ident.{is_xid_continue}
pub use Rattle.litrs_base.specs.Base.{is_digit_or_underscore, prefix}
pub use Rattle.litrs_base.specs.Characters.{is_blank, is_scalar}
pub use Rattle.litrs_base.specs.Derivations.{HasNoDerivation, IsOnlyDerivation}
pub use Rattle.litrs_base.specs.Quotes.{quoted_front, raw_front, char_front, switches_of}
pub use Rattle.litrs_base.specs.Refusal.{MovesWithin, Refusal, char_span_of, refusal_of}
pub use Rattle.litrs_base.specs.Refusal.{shifted_span, span_of, without_span}
pub use Rattle.litrs_base.specs.Text.{first_passes, is_empty, begins_with, byte_len, IsText}
pub use Rattle.litrs_base.specs.Text.{is_text}
pub use Rattle.litrs_base.specs.declared.err.ParseError.{ParseError}
pub use Rattle.litrs_base.specs.declared.err.ParseErrorKind.TheVariants.{InvalidLiteral}
pub use Rattle.litrs_base.specs.declared.integer.IntegerBase.{IntegerBase}
pub use Rattle.litrs_base.specs.declared.integer.IntegerBase.TheVariants.{Decimal}
pub use Rattle.litrs_base.specs.declared.quotes.CharKind.{CharKind}
pub use Rattle.litrs_base.specs.declared.quotes.CharKind.TheVariants.{Char as char_kind}
pub use Rattle.litrs_base.specs.declared.quotes.CharKind.TheVariants.{Byte as byte_kind}
pub use Rattle.litrs_base.specs.declared.quotes.StringKind.{StringKind}
pub use Rattle.litrs_base.specs.declared.quotes.StringKind.TheVariants.{String as string_kind}
pub use Rattle.litrs_base.specs.declared.quotes.StringKind.TheVariants.{ByteString as byte_string_kind}
pub use Rattle.litrs_base.specs.declared.quotes.StringKind.TheVariants.{CString as c_string_kind}
pub use Rattle.litrs_base.specs.declared.quotes.Switches.{Switches}
pub use Rattle.litrs_grammar.specs.Bool.{bool_text, is_bool}
pub use Rattle.litrs_grammar.specs.CharByte.{IsCharLiteral, is_char_item, plain_char, escaped_char}
pub use Rattle.litrs_grammar.specs.CharByte.{char_item_text, CharItem, CharParts, char_text}
pub use Rattle.litrs_grammar.specs.Escape.{Escape, escape_text, hex_escape, is_escape}
pub use Rattle.litrs_grammar.specs.Escape.{is_hex_or_underscore, simple_escape, unicode_escape}
pub use Rattle.litrs_grammar.specs.Float.{is_period, IsFloatOf, is_decimal_char, FloatParts}
pub use Rattle.litrs_grammar.specs.Float.{float_text, fraction_text}
pub use Rattle.litrs_grammar.specs.Float.{is_float_form, is_sign, sign_len}
unfoldable pub use Rattle.litrs_grammar.specs.Float.{is_exponent}
pub use Rattle.litrs_grammar.specs.Integer.{IsIntegerOf, IntegerParts, is_e, IsInteger, base_of}
pub use Rattle.litrs_grammar.specs.Integer.{has_prefix, integer_cut, integer_text}
pub use Rattle.litrs_grammar.specs.Literal.{Derivation, IsLiteral, a_bool, an_integer, a_byte}
pub use Rattle.litrs_grammar.specs.Literal.{a_char, a_float, literal_parse, Begins, IsString}
pub use Rattle.litrs_grammar.specs.Literal.{StringParts, a_byte_string, a_c_string, a_string}
pub use Rattle.litrs_grammar.specs.Literal.{bool_literal, byte_literal, c_string_literal}
pub use Rattle.litrs_grammar.specs.Literal.{char_literal, float_literal, integer_literal}
pub use Rattle.litrs_grammar.specs.Literal.{literal_kind, quoted_parts, raw_parts}
pub use Rattle.litrs_grammar.specs.Literal.{string_literal_of, string_suffix}
pub use Rattle.litrs_grammar.specs.LiteralRefusals.{begins_with_float, Dispatch, IsRefusal}
pub use Rattle.litrs_grammar.specs.LiteralRefusals.{parsed_as, refused_as}
unfoldable pub use Rattle.litrs_grammar.specs.LiteralRefusals.{dispatch}
pub use Rattle.litrs_grammar.specs.Quoted.{IsQuotedLiteral, IsQuoted, Item, QuotedParts, body_text}
pub use Rattle.litrs_grammar.specs.Quoted.{continuation, escape_item, is_body}
pub use Rattle.litrs_grammar.specs.Quoted.{is_item, is_item_list, item_text}
pub use Rattle.litrs_grammar.specs.Quoted.{plain_item, quoted_text}
pub use Rattle.litrs_grammar.specs.Raw.{is_quote, IsRawLiteral, raw_closing, hashes, is_hash}
pub use Rattle.litrs_grammar.specs.Raw.{hash_len, RawParts, raw_refusal, has_unicode, allows_nul}
pub use Rattle.litrs_grammar.specs.Raw.{IsRawOf, length_before, occurs, raw_text}
pub use Rattle.litrs_grammar.specs.Refused.{IsRefused, IsRefusedOrOutOfMemory}
pub use Rattle.litrs_grammar.specs.Suffix.{starts_identifier}
unfoldable pub use Rattle.litrs_grammar.specs.Suffix.{is_suffix}
pub use Rattle.litrs_lex.specs.Front.{IsFront}
pub use Rattle.litrs_lex.specs.RawCut.{raw_special, raw_parts_at}
pub use Rattle.litrs_lex.specs.Reading.{IsItemsEnd}
pub use Rattle.litrs.specs.FloatLiteral.{float_parts}
pub use Rattle.litrs.specs.IntegerLiteral.{integer_parts}
pub use Rattle.litrs.specs.LiteralDerivation.{derivation, literal_raw}
pub use Rattle.litrs.specs.StringLiteral.{IsPlainString}
pub use Rattle.litrs_prefix.specs.Ends.{IsOnlyRest, IsEndOf, after_digits, after_exponent}
pub use Rattle.litrs_prefix.specs.Ends.{after_fraction, after_sign, IsItemBefore, IsPlainEnd}
pub use Rattle.litrs_prefix.specs.Ends.{past_closing, past_quote, past_single_quote, EndsBefore}
pub use Rattle.litrs_prefix.specs.Extent.{IsLiteralLen, IsMalformedLen, IsJudged, IsJudgedBy}
pub use Rattle.litrs_prefix.specs.GoesOn.{IsBareInteger, IsIntegerAndPeriod, PrefixGoesOn}
pub use Rattle.litrs_prefix.specs.Laws.{LiteralsAreTheirPrefix, PrefixesStay, PrefixesAreUnique}
pub use Rattle.litrs_prefix.specs.Laws.{PrefixesOpen, MalformedAreUnique, MalformedStay}
pub use Rattle.litrs_prefix.specs.Malformed.{IsMalformedOrOutOfMemory, IsMovedBy, marked_at}
pub use Rattle.litrs_prefix.specs.Malformed.{IsMarkedAt, IsMalformed, prefix_span}
pub use Rattle.litrs_prefix.specs.MayChange.{AnswerStays, AnswerChanges, OpensNever, OpensLater}
pub use Rattle.litrs_prefix.specs.MayChange.{is_open_prefix, is_open_front, is_quoted_line_feed}
pub use Rattle.litrs_prefix.specs.Piece.{after_opened, IsPiece, after_quoted, after_single_quote}
pub use Rattle.litrs_prefix.specs.Piece.{after_char, after_closing, after_raw, after_prefixed}
pub use Rattle.litrs_prefix.specs.Piece.{after_number, after_body}
pub use Rattle.litrs_prefix.specs.Opens.{opens, after_run, after_name, after_hashes, first_name}
pub use Rattle.litrs_prefix.specs.Opens.{begins_with_lifetime, is_single_quote, opens_raw}
pub use Rattle.litrs_prefix.specs.Opens.{opens_c_string, opens_bytes, first_run}
pub use Rattle.litrs_prefix.specs.Prefix.{HasPrefix, HasNoPrefix, is_of_suffix, ends_suffix}
pub use Rattle.litrs_prefix.specs.Prefix.{ends_bool, keeps_period, gives_period, ends_integer}
pub use Rattle.litrs_prefix.specs.Prefix.{is_bare, ends_float, may_follow}
pub use Rattle.litrs_prefix.specs.Until.{is_delimiter, from_first, from_delimiter, before_delimiter}
pub use Rattle.litrs_prefix.specs.Until.{StartsWithDelimiter, IsRefusedUntil, after_literal}
pub use Rattle.litrs_prefix.specs.declared.MalformedPrefix.{MalformedPrefix}
