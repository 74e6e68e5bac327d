-- The fields of cuts and refusals, read by name: each line fails if the definition says less.
use Rattle.std.specs.Prelude.{◌≡◌, ◌≢◌, ℕ, ◌+◌, ◌-◌, ◌≤◌, ◌<◌, Bool, List, ◌∷◌, ◌++◌, length, drop, take, slice_range, map, Some, IfSome, IsTrue, IsFalse}
use Rattle.std.specs.Simd.Lanes.{mask_l, chunk}
use Rattle.std.specs.Str.{chars, IsUtf8, IsCharBoundary}
use Rattle.std.proofs.Common.{arith, ap, ◌∙◌}
use Rattle.litrs_base.specs.declared.err.ParseError.{ParseError}
use Rattle.litrs_base.specs.declared.err.ParseErrorKind.TheVariants.{OutOfMemory}
use Rattle.litrs_base.specs.declared.escape.Unescape.{Unescape}
use Rattle.litrs_base.specs.declared.quotes.Switches.{Switches}
use Rattle.litrs_base.specs.CharEnd.{PointsAtCharacters}
use Rattle.litrs_base.specs.Characters.{double_quote}
use Rattle.litrs_base.specs.Derivations.{IsOnlyDerivation, HasNoDerivation}
use Rattle.litrs_base.specs.Finality.{is_final, is_open}
use Rattle.litrs_base.specs.Refusal.{Refusal, refusal_of, kind_of, char_span_of, IsInText, HasCharSpan}
use Rattle.litrs_base.specs.Text.{byte_len, is_empty}
use Rattle.litrs_grammar.specs.Allocation.{has_backslash}
use Rattle.litrs_grammar.specs.LongerTexts.{EndsBy}
use Rattle.litrs_grammar.specs.Escape.{Escape, IsEscape, escape_text, escape_value, escape_refusal}
use Rattle.litrs_grammar.specs.GoesOn.Quoted.{IsClosedQuoted}
use Rattle.litrs_grammar.specs.GoesOn.Raw.{raw_open_parts}
use Rattle.litrs_grammar.specs.Laws.Escape.{BeginsWithEscape}
use Rattle.litrs_grammar.specs.Laws.RawScan.{ScanStays}
use Rattle.litrs_grammar.specs.Quoted.{IsQuoted, IsQuotedRefusal, body_text, body_value, is_item_list}
use Rattle.litrs_grammar.specs.Raw.{IsRawOf, hash_len, raw_closing, raw_refusal}
use Rattle.litrs_lex.specs.declared.float.FloatCut.{FloatCut}
use Rattle.litrs_lex.specs.declared.quoted.QuotedCut.{QuotedCut}
use Rattle.litrs_lex.specs.declared.search.Mask.{Mask}
use Rattle.litrs_lex.specs.declared.search.Special.{Special}
use Rattle.litrs_lex.specs.FloatCut.{IsFloatWithin}
use Rattle.litrs_lex.specs.Mask.{IsMaskOf}
use Rattle.litrs_lex.specs.QuotedCut.{IsQuotedCut, IsQuotedRefused}
use Rattle.litrs_lex.specs.RawCut.{raw_parts_at, IsRawCut, IsRawRefused}
use Rattle.litrs_lex.specs.Special.{is_special}
use Rattle.litrs_lex.specs.Unescaped.{IsUnescaped, IsEscapeRefused}

-- Floats

-- the integer part ends no later than the number
float_in_order : (cut : FloatCut) (bytes : List ℕ) → IsFloatWithin cut bytes → cut.end_integer ≤ cut.end_number
float_in_order cut bytes within = omega (arith, within.integer_first, within.fraction_next)

-- the text may be cut at each place, and after the period
float_boundaries :
    (cut : FloatCut) (bytes : List ℕ) → IsFloatWithin cut bytes →
    IsCharBoundary bytes cut.end_integer × IsCharBoundary bytes cut.end_fraction × IsCharBoundary bytes cut.end_number
    × (cut.end_integer < cut.end_fraction → IsCharBoundary bytes (cut.end_integer + 1))
float_boundaries cut bytes within = (within.integer, within.fraction, within.number, within.after_period)

-- Masks

-- the part is one of the bytes, of at most 32, and has their bits
mask_part :
    (what : Special) (bytes : List ℕ) (m : Mask) → IsMaskOf what bytes m →
    (m.start ≤ length bytes) × (m.end ≤ m.start + 32)
    × (m.bits ≡ mask_l (map (is_special what) (chunk m.start (m.end - m.start) bytes)))
mask_part what bytes m is = (omega (arith, is.ordered, is.within), is.few, is.bits)

-- Escapes

-- one escape begins the text, of this value and length
escape_read :
    (w : Switches) (bytes : List ℕ) (value : Unescape) (len : ℕ) (is : IsUnescaped w bytes value len) →
    (escape_text is.escape ++ chars (drop len bytes) ≡ chars bytes)
    × IsEscape w is.escape
    × (escape_value is.escape ≡ value)
    × (byte_len (escape_text is.escape) ≡ len)
escape_read w bytes value len is =
    (ap (λ (rest : List ℕ). escape_text is.escape ++ rest) is.after ∙ is.spells, is.grammar, is.is_value, is.size)

-- and no other one does
escape_only :
    (w : Switches) (bytes : List ℕ) (value : Unescape) (len : ℕ) (is : IsUnescaped w bytes value len) (e : Escape) (rest : List ℕ) →
    escape_text e ++ rest ≡ chars bytes → IsEscape w e → e ≡ is.escape
escape_only w bytes value len is e rest spells grammar = is.only e rest spells grammar

-- the text may be cut after it
escape_end :
    (w : Switches) (bytes : List ℕ) (value : Unescape) (len : ℕ) → IsUnescaped w bytes value len →
    (len ≤ length bytes) × IsCharBoundary bytes len × IsUtf8 (drop len bytes)
escape_end w bytes value len is = (is.within, is.boundary, is.utf8)

-- no escape begins a text that is refused
escape_refused :
    (w : Switches) (t : List ℕ) (e : ParseError) → IsEscapeRefused w t e →
    ¬ BeginsWithEscape w t × (escape_refusal w t ≡ Some (refusal_of e))
escape_refused w t e is = (is.none, is.table)

-- both spans lie in the text
escape_refused_spans :
    (w : Switches) (t : List ℕ) (e : ParseError) → IsEscapeRefused w t e → IsFalse (is_empty t) →
    IsInText t (refusal_of e) × HasCharSpan t e × IfSome (char_span_of e) (PointsAtCharacters t)
escape_refused_spans w t e is some = (is.span some, is.char_span, is.char_ends some)

-- after a final refusal no escape begins a longer text, and the error stays
escape_refused_longer :
    (w : Switches) (t : List ℕ) (e : ParseError) → IsEscapeRefused w t e → IsTrue (is_final (kind_of e)) → (more : List ℕ) →
    ¬ BeginsWithEscape w (t ++ more) × (escape_refusal w (t ++ more) ≡ Some (refusal_of e))
escape_refused_longer w t e is final more = (is.final final more, is.stays final more)

-- Quoted bodies

-- the parts are the only ones, and the cut has their lengths
quoted_cut :
    (w : Switches) (bytes : List ℕ) (offset : ℕ) (cut : QuotedCut) (is : IsQuotedCut w bytes offset cut) →
    IsOnlyDerivation (IsQuoted (chars (take offset bytes)) w (chars bytes)) is.parts
    × (cut.value_len ≡ length (body_value is.parts.items))
    × (cut.has_escape ≡ has_backslash (body_text is.parts.items))
    × (cut.start_suffix ≡ offset + byte_len (body_text is.parts.items) + 1)
quoted_cut w bytes offset cut is = (is.only, is.value_len, is.has_escape, is.start_suffix)

-- the text may be cut around the closing quote, and the body is the value if there is no escape
quoted_cut_body :
    (w : Switches) (bytes : List ℕ) (offset : ℕ) (cut : QuotedCut) (is : IsQuotedCut w bytes offset cut) →
    IsCharBoundary bytes (cut.start_suffix - 1) × IsCharBoundary bytes cut.start_suffix
    × (chars (slice_range bytes offset (cut.start_suffix - 1)) ≡ body_text is.parts.items)
    × (chars (drop cut.start_suffix bytes) ≡ is.parts.suffix)
    × (IsFalse cut.has_escape → slice_range bytes offset (cut.start_suffix - 1) ≡ body_value is.parts.items)
quoted_cut_body w bytes offset cut is = (is.end_body, is.boundary, is.body, is.suffix, is.plain)

-- the items are those of each longer text
quoted_cut_longer :
    (w : Switches) (bytes : List ℕ) (offset : ℕ) (cut : QuotedCut) (is : IsQuotedCut w bytes offset cut) (more : List ℕ) →
    IsTrue (is_item_list w (double_quote ∷ (is.parts.suffix ++ more)) is.parts.items)
quoted_cut_longer w bytes offset cut is more = is.items_stay more

-- a refused text is not a quoted string, and has one error, which is not an allocation failure
quoted_refused :
    (w : Switches) (bytes : List ℕ) (offset : ℕ) (e : ParseError) → IsQuotedRefused w bytes offset e →
    HasNoDerivation (IsQuoted (chars (take offset bytes)) w (chars bytes))
    × IsQuotedRefusal (chars (take offset bytes)) w (chars bytes) (refusal_of e)
    × ((r : Refusal) → IsQuotedRefusal (chars (take offset bytes)) w (chars bytes) r → r ≡ refusal_of e)
    × (kind_of e ≢ OutOfMemory)
quoted_refused w bytes offset e is = (is.none, is.table, is.only, is.of_text)

-- both spans lie in the text
quoted_refused_spans :
    (w : Switches) (bytes : List ℕ) (offset : ℕ) (e : ParseError) → IsQuotedRefused w bytes offset e →
    IsInText (chars bytes) (refusal_of e) × HasCharSpan (chars bytes) e × IfSome (char_span_of e) (PointsAtCharacters (chars bytes))
quoted_refused_spans w bytes offset e is = (is.span, is.char_span, is.char_ends)

-- the items before the refused rest are those of each longer text
quoted_refused_items :
    (w : Switches) (bytes : List ℕ) (offset : ℕ) (e : ParseError) (is : IsQuotedRefused w bytes offset e) (more : List ℕ) →
    IsTrue (is_item_list w (is.table.rest ++ more) is.table.items)
quoted_refused_items w bytes offset e is more = is.items_stay more

-- after a final refusal each longer text is refused with the same error
quoted_refused_longer :
    (w : Switches) (bytes : List ℕ) (offset : ℕ) (e : ParseError) → IsQuotedRefused w bytes offset e → IsTrue (is_final (kind_of e)) →
    EndsBy (IsQuoted (chars (take offset bytes)) w) (chars bytes)
    × ((more : List ℕ) → IsQuotedRefusal (chars (take offset bytes)) w (chars bytes ++ more) (refusal_of e))
quoted_refused_longer w bytes offset e is final = (is.final final, is.stays final)

-- after an open one the closing quote makes the text a literal
quoted_refused_open :
    (w : Switches) (bytes : List ℕ) (offset : ℕ) (e : ParseError) → IsQuotedRefused w bytes offset e → IsTrue (is_open (kind_of e)) →
    IsClosedQuoted (chars (take offset bytes)) w (chars bytes)
quoted_refused_open w bytes offset e is opened = is.closes opened

-- Raw bodies

-- the parts are the only ones, and the hashes and the first closing are those of each longer text
raw_cut :
    (unicode allow_nul : Bool) (offset : ℕ) (bytes : List ℕ) (cut : ℕ × ℕ) → IsRawCut unicode allow_nul offset bytes cut →
    IsOnlyDerivation (IsRawOf unicode allow_nul (chars (drop offset bytes))) (raw_parts_at offset bytes cut)
    × ScanStays (chars (drop offset bytes))
raw_cut unicode allow_nul offset bytes cut is = (is.only, is.scan)

-- the text may be cut around the body and before the suffix
raw_cut_body :
    (unicode allow_nul : Bool) (offset : ℕ) (bytes : List ℕ) (cut : ℕ × ℕ) → IsRawCut unicode allow_nul offset bytes cut →
    (offset + (cut.0 + 1) ≤ cut.1 - (cut.0 + 1))
    × IsCharBoundary bytes (offset + (cut.0 + 1)) × IsCharBoundary bytes (cut.1 - (cut.0 + 1)) × IsCharBoundary bytes cut.1
raw_cut_body unicode allow_nul offset bytes cut is = (is.in_order, is.start, is.end, is.suffix)

-- a refused text is not a raw string, and has one error
raw_refused :
    (unicode allow_nul : Bool) (offset : ℕ) (bytes : List ℕ) (e : ParseError) → IsRawRefused unicode allow_nul offset bytes e →
    HasNoDerivation (IsRawOf unicode allow_nul (chars (drop offset bytes)))
    × (raw_refusal unicode allow_nul offset (chars (drop offset bytes)) ≡ Some (refusal_of e))
    × ScanStays (chars (drop offset bytes))
raw_refused unicode allow_nul offset bytes e is = (is.none, is.table, is.scan)

-- both spans lie in the text
raw_refused_spans :
    (unicode allow_nul : Bool) (offset : ℕ) (bytes : List ℕ) (e : ParseError) → IsRawRefused unicode allow_nul offset bytes e →
    IsInText (chars bytes) (refusal_of e) × HasCharSpan (chars bytes) e × IfSome (char_span_of e) (PointsAtCharacters (chars bytes))
raw_refused_spans unicode allow_nul offset bytes e is = (is.span, is.char_span, is.char_ends)

-- after a final refusal each longer text is refused with the same error
raw_refused_longer :
    (unicode allow_nul : Bool) (offset : ℕ) (bytes : List ℕ) (e : ParseError) → IsRawRefused unicode allow_nul offset bytes e →
    IsTrue (is_final (kind_of e)) →
    EndsBy (IsRawOf unicode allow_nul) (chars (drop offset bytes))
    × ((more : List ℕ) → raw_refusal unicode allow_nul offset (chars (drop offset bytes) ++ more) ≡ Some (refusal_of e))
raw_refused_longer unicode allow_nul offset bytes e is final = (is.final final, is.stays final)

-- after an open one the closing with as many hashes makes the text a literal
raw_refused_open :
    (unicode allow_nul : Bool) (offset : ℕ) (bytes : List ℕ) (e : ParseError) → IsRawRefused unicode allow_nul offset bytes e →
    IsTrue (is_open (kind_of e)) →
    IsRawOf unicode allow_nul
    (chars (drop offset bytes) ++ raw_closing (hash_len (chars (drop offset bytes))))
    (raw_open_parts (chars (drop offset bytes)))
raw_refused_open unicode allow_nul offset bytes e is opened = is.closes opened
