-- Laws of raw literals: raw strings, raw byte strings and raw C strings.
use Rattle.std.specs.Prelude.{◌≡◌, ◌↔◌, ◌<◌, ◌+◌, ℕ, Bool, List, [], ◌∷◌, length, drop, ◌++◌, Some, None, IsTrue, IsFalse}
use Rattle.std.specs.List.{list_any, list_all}
use Rattle.litrs_base.specs.Characters.{line_feed}
use Rattle.litrs_base.specs.declared.quotes.StringKind.{StringKind}
use Rattle.litrs_base.specs.declared.quotes.StringKind.TheVariants.{CString as c_string_kind}
use Rattle.litrs_base.specs.Quotes.{raw_front}
use Rattle.litrs_base.specs.Text.{byte_len, begins_with}
use Rattle.litrs_base.specs.Refusal.{Refusal, IsInText}
use Rattle.litrs_grammar.specs.Raw.{is_nul, raw_closing, occurs, length_before, is_raw_char, IsRawBody, raw_value, RawParts, IsRawOf, IsRawLiteral, raw_body_refusal, raw_refusal, raw_literal_refusal}

-- A text has at most one derivation as a raw literal, over all three kinds together.
abbrev pub RawLiteralsAreUnique : Type 0
RawLiteralsAreUnique = (t : List ℕ) (k l : StringKind) (d e : RawParts) →
    IsRawLiteral k t d → IsRawLiteral l t e → (k ≡ l) × (d ≡ e)

-- A text that starts with the front of a kind is either a raw literal of the kind or refused by the
-- table, and never both.
abbrev pub RawLiteralsAreDecided : Type 0
RawLiteralsAreDecided = (kind : StringKind) (t : List ℕ) → IsTrue (begins_with (raw_front kind) t) →
    (raw_literal_refusal kind t ≡ None) ↔ ((d : RawParts) × IsRawLiteral kind t d)

-- The span of each refusal lies within the text and starts on a character boundary.
abbrev pub RawSpansLieInText : Type 0
RawSpansLieInText = (kind : StringKind) (t : List ℕ) →
    IsTrue (begins_with (raw_front kind) t) → (e : Refusal) →
    raw_literal_refusal kind t ≡ Some e → IsInText t e

-- Laws of the text after any front, under any switches.

-- A text after a front has at most one derivation under the same switches.
abbrev pub RawTextsAreUnique : Type 0
RawTextsAreUnique = (unicode allow_nul : Bool) (t : List ℕ) (d e : RawParts) →
    IsRawOf unicode allow_nul t d → IsRawOf unicode allow_nul t e → d ≡ e

-- A text after a front is either a raw literal under the switches or refused by the table, and
-- never both.
abbrev pub RawTextsAreDecided : Type 0
RawTextsAreDecided = (unicode allow_nul : Bool) (start : ℕ) (t : List ℕ) →
    (raw_refusal unicode allow_nul start t ≡ None)
    ↔ ((d : RawParts) × IsRawOf unicode allow_nul t d)

-- The spans of these refusals, counted from the start of the text, lie within the text and start on
-- a character boundary.
abbrev pub RawTextSpansLieInText : Type 0
RawTextSpansLieInText = (unicode allow_nul : Bool) (front t : List ℕ) (e : Refusal) →
    raw_refusal unicode allow_nul (byte_len front) t ≡ Some e → IsInText (front ++ t) e

-- No raw literal ends with LF.
abbrev pub NoRawLiteralEndsWithLineFeed : Type 0
NoRawLiteralEndsWithLineFeed = (kind : StringKind) (t : List ℕ) (d : RawParts) →
    ¬ IsRawLiteral kind (t ++ line_feed ∷ []) d

-- No byte of the value of a raw C string is zero.
abbrev pub NoNulInRawCStrings : Type 0
NoNulInRawCStrings = (t : List ℕ) (d : RawParts) →
    IsRawLiteral c_string_kind t d → IsFalse (list_any is_nul (raw_value d.body))

-- The value of a raw literal has as many bytes as the body.
abbrev pub RawValuesAreAsLongAsBodies : Type 0
RawValuesAreAsLongAsBodies = (d : RawParts) → length (raw_value d.body) ≡ byte_len d.body

-- No closing begins in the part `front` of the text `front ++ t`. A search for the first closing
-- has then skipped it.
abbrev pub NoClosingIn : (n : ℕ) (front t : List ℕ) → Type 0
NoClosingIn n front t = (i : ℕ) → i < length front →
    IsFalse (begins_with (raw_closing n) (drop i (front ++ t)))

-- After a part in which no closing begins, the rest decides whether there is a closing and where
-- the first one is.
abbrev pub RawScansGoOn : Type 0
RawScansGoOn = (n : ℕ) (front t : List ℕ) → NoClosingIn n front t →
    (length_before (raw_closing n) (front ++ t) ≡ length front + length_before (raw_closing n) t)
    × (occurs (raw_closing n) (front ++ t) ≡ occurs (raw_closing n) t)

-- After such a part, if its characters are allowed in a body, the refusal is that of the rest,
-- moved by the length of the part in bytes.
abbrev pub RawRefusalsGoOn : Type 0
RawRefusalsGoOn = (unicode allow_nul : Bool) (n start : ℕ) (front t : List ℕ) →
    IsTrue (list_all (is_raw_char unicode allow_nul) front) → NoClosingIn n front t →
    raw_body_refusal unicode allow_nul n start (front ++ t)
    ≡ raw_body_refusal unicode allow_nul n (start + byte_len front) t

-- Such a part is a body if a closing follows it.
abbrev pub RawBodiesEndAtClosings : Type 0
RawBodiesEndAtClosings = (unicode allow_nul : Bool) (n : ℕ) (front t : List ℕ) →
    IsTrue (list_all (is_raw_char unicode allow_nul) front) →
    NoClosingIn n front (raw_closing n ++ t) → IsRawBody unicode allow_nul n front
