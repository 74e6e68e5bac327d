-- The words and lemmas of the answers and of the other lemmas, from one place.
pub use denote.Shadow.{shadow}
pub use denote.Text.{Utf8}
pub use Rattle.std.proofs.Common.{refl, sym, ap, ◌∙◌, ℕ, List, Some, None, drop, ◌≡◌, ◌<◌, ◌≤◌, [], length, subst, inl, inr, arith, ◌-◌, take, ◌∷◌, ◌++◌, ◌+◌, suc, true, false, Bool, eqb, append_assoc, not, ◌==◌, ◌||◌, if◌then◌else◌, ◌⊎◌, ◌↔◌, ◌&&◌, ◌^◌, add_comm, take_at, ⊎_elim, zero, Option, IfSome, length-append, append-nil, length-take, ltb}
pub use Rattle.std.proofs.lemmas.Bool.{true≢false, false≢true, ne_eqb, and_left, and_parts, eqb-true, or_right, cases_Bool, false_from_ne_true, or_left, eq-eqb, or_from, not-true, or_parts, and_right, and_from}
pub use Rattle.std.proofs.lemmas.List.{take_all, append_cancel_right, take-append-drop, drop_all, length-drop, append_cancel_left, length-take-le, drop_at}
pub use Rattle.std.proofs.lemmas.Str.{IsCharBoundary-from_drop, chars-nil, encodes-chars, IsUtf8-drop, IsCharBoundary-start, chars-append, IsUtf8-take, IsUtf8-nil}
pub use Rattle.litrs_base.proofs.Chars.{prefix_len-chars, chars_empty, chars_ascii, OnlyAscii, begins_with-chars, begins_front, first_passes-chars}
pub use Rattle.litrs_lex.proofs.SuffixBytes.{is_word, words_are_ascii, is_suffix-nil}
pub use Rattle.std.proofs.lemmas.Bool.Decides.{nat_tests}
pub use Rattle.unicode_ident.proofs.IdentLemmas.{is_xid_start-ascii, is_xid_continue-ascii, is_xid_start-is_xid_continue}
pub use Rattle.litrs_base.proofs.Begins.{begins_with-split, begins_with-append}
pub use Rattle.litrs_grammar.proofs.FloatCuts.{cut_of_text}
pub use Rattle.litrs_grammar.proofs.Laws.Float.{suffix_no_period}
pub use Rattle.litrs_grammar.proofs.Laws.Integer.{starts_with_digit, first_passes-append, first_passes-rest, cut_with, integer_cut-is, take_while_front, prefix_len_front, only_integer, take_while-append-rest}
pub use Rattle.litrs_grammar.proofs.Laws.Literal.{some_bool, literals_are_unique, dispatch_literal}
pub use Rattle.litrs_grammar.proofs.LongerTexts.Suffix.{front_of}
pub use Rattle.litrs_grammar.proofs.RawCuts.{hash_len-append, length-hashes}
pub use Rattle.litrs_lex.proofs.CharCuts.{cut_at, byte_len-all}
pub use Rattle.litrs_prefix.proofs.Ends.{shorter, after_bytes, not_longer, after_first, end_of_end, end_at, end_boundary, all, front_is, bytes_spell}
pub use Rattle.litrs_prefix.specs.Words.{char_kind, byte_kind, IsCharLiteral, chars, bool_text, a_bool, ends_bool, IsOnlyRest, after_opened, IsLiteral, IsCharBoundary, IsPiece, IsBareInteger, is_empty, IntegerParts, an_integer, integer_parts, begins_with, raw_closing, hashes, after_closing, prefix_len, is_decimal_char, past_quote, after_quoted, is_hash, hash_len, past_single_quote, after_single_quote, list_all, raw_special, IsUtf8, encode_utf8_all, nat_eq, AnswerStays, HasPrefix, is_xid_continue, after_run, IsEndOf, after_hashes, encode_utf8, first_passes, is_bool, first_name, derivation, IsMalformedOrOutOfMemory, a_byte, a_char, a_float, switches_of, IsQuoted, IsQuotedLiteral, ends_suffix, Switches, raw_front, RawParts, raw_refusal, has_unicode, allows_nul, IsRawOf, IsRawLiteral, raw_parts_at, escaped_char, plain_char, is_ascii_digit, starts_identifier, after_digits, keeps_period, char_front, char_item_text, is_period, is_e, gives_period, quoted_front, drop_trailing_whitespace, is_delimiter, from_first, byte_len, literal_parse, after_literal, from_delimiter, before_delimiter, StartsWithDelimiter, codes, Derivation, PrefixGoesOn, MalformedStay, AnswerChanges, OpensNever, OpensLater, is_open_prefix, is_open_front, is_quoted_line_feed, after_name, begins_with_lifetime, opens_raw, opens_bytes, opens_c_string, opens, may_follow, HasNoPrefix, pointwise, is_scalar, IsText, is_text, Begins, first_run, IsIntegerOf, IsIntegerAndPeriod, is_char_item, ends_float, PrefixesOpen, IsFloatOf, after_char, after_raw, after_number, after_body, StringKind, string_kind, byte_string_kind, c_string_kind, CharItem, CharParts, occurs, StringParts, quoted_parts, raw_parts, IsString, a_string, a_byte_string, a_c_string, string_suffix, prefix, is_digit_or_underscore, is_blank, IntegerBase, Decimal, CharKind, Escape, simple_escape, hex_escape, unicode_escape, escape_text, is_escape, is_hex_or_underscore, FloatParts, Item, plain_item, escape_item, continuation, item_text, is_item, body_text, is_body, QuotedParts, IsLiteralLen, IsMalformedLen, ParseError, IsRefused, IsRefusedOrOutOfMemory, Refusal, span_of, MovesWithin, MalformedPrefix, EndsBefore, IsMalformed, IsMarkedAt, unwrap_or, char_span_of, shifted_span, prefix_span, is_whitespace, begins_with_float, PrefixesAreUnique, InvalidLiteral, without_span, literal_kind, bool_literal, integer_literal, float_literal, refused_as, parsed_as, nat_le, LiteralsAreTheirPrefix, PrefixesStay, past_closing}
unfoldable pub use Rattle.litrs_prefix.specs.Words.{is_suffix, dispatch}
pub use Rattle.litrs_base.proofs.ListTests.{if_false, if_true}
pub use Rattle.litrs_base.proofs.Runs.{list_all-append, list_all-weaken, list_all-take_while}
