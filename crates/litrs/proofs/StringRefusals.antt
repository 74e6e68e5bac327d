-- The error of a text that is not a string, or whose value cannot be allocated.
use Rattle.std.proofs.Common.{◌≡◌, ◌≢◌, ◌⊎◌, inl, inr, ℕ, true, false, not, List, [], ◌∷◌, length, refl, sym, ap, ◌∙◌, subst}
use Rattle.std.specs.Str.{chars, IsUtf8}
use Rattle.std.proofs.lemmas.Str.{chars-nil}
use Rattle.litrs_base.specs.declared.err.ParseError.{ParseError}
use Rattle.litrs_base.specs.declared.err.ParseErrorKind.TheVariants.{Empty}
use Rattle.litrs_base.specs.Refusal.{Refusal, without_span, refusal_of, HasCharSpan}
use Rattle.litrs_base.specs.Text.{is_empty, begins_with}
use Rattle.litrs_base.proofs.Begins.{begins_with-split}
use Rattle.litrs_base.proofs.CharEnds.{no_span}
use Rattle.litrs_base.proofs.ListTests.{if_false}
use Rattle.litrs_base.specs.declared.quotes.StringKind.{StringKind}
use Rattle.litrs_base.specs.declared.quotes.StringKind.TheVariants.{String as string_kind, ByteString as byte_string_kind, CString as c_string_kind}
use Rattle.litrs_base.specs.Quotes.{switches_of, quoted_front, raw_front}
use Rattle.litrs_grammar.specs.Quoted.{QuotedParts, body_value, IsQuoted, IsQuotedRefusal}
use Rattle.litrs_grammar.specs.Raw.{has_unicode, allows_nul, raw_refusal}
use Rattle.litrs_grammar.specs.Literal.{StringParts, quoted_parts, IsString, kind_parse, IsLiteralOf, string_literal_of}
use Rattle.litrs_grammar.specs.LiteralRefusals.{StringStart, refused_start, quoted_start, raw_start, string_start, string_start_refusal, IsRefusalOfStart, IsStringRefusal, IsKindRefusal}
use Rattle.litrs_grammar.specs.Allocation.{has_escapes, allocates, takes_memory}
use Rattle.litrs_grammar.specs.Refused.{IsRefused, IsOutOfMemory, IsRefusedOrOutOfMemory}
use Rattle.litrs_grammar.proofs.Laws.Literal.{start_quoted, start_raw}
use Rattle.litrs_grammar.proofs.Refused.{is_refused}
use Rattle.litrs_lex.proofs.Dispatch.{is_empty-chars}
use Rattle.litrs_lex.specs.QuotedCut.{IsQuotedRefused, IsQuotedOutOfMemory}
use Rattle.litrs_lex.specs.RawCut.{IsRawRefused}
use Rattle.litrs_lex.proofs.StringFronts.{quoted_begins, raw_begins, quoted_before, raw_after}
use Rattle.litrs_grammar.specs.Closing.{a_string_of}

-- the text is refused, or there was no memory for its value
abbrev pub IsStringError : StringKind → List ℕ → ParseError → Type 0
IsStringError kind t e = IsRefusedOrOutOfMemory (kind_parse (string_literal_of kind)) t e

pub in_table : (kind : StringKind) (t : List ℕ) (r : Refusal) → IsStringRefusal kind t r → IsKindRefusal (string_literal_of kind) t r
in_table string_kind t r table = table
in_table byte_string_kind t r table = table
in_table c_string_kind t r table = table

-- the text is refused as its start tells
refused_at : (kind : StringKind) (start : StringStart) (t : List ℕ) (e : ParseError) → string_start kind t ≡ start →
    IsRefusalOfStart kind start t (refusal_of e) → HasCharSpan t e → IsRefused (kind_parse (string_literal_of kind)) t e
refused_at kind start t e is table ends =
    is_refused (kind_parse (string_literal_of kind)) t e
    (in_table kind t (refusal_of e) (subst (λ (s : StringStart). IsRefusalOfStart kind s t (refusal_of e)) (sym is) table)) ends

-- Starts

starts_quoted : (kind : StringKind) (bs : List ℕ) → IsUtf8 bs → begins_with (quoted_front kind) bs ≡ true → string_start kind (chars bs) ≡ quoted_start
starts_quoted kind bs u begins =
    ap (string_start kind) (sym (begins_with-split (quoted_front kind) (chars bs) (quoted_begins kind bs u ∙ begins))) ∙ start_quoted kind _

starts_raw : (kind : StringKind) (bs : List ℕ) → IsUtf8 bs → begins_with (raw_front kind) bs ≡ true → string_start kind (chars bs) ≡ raw_start
starts_raw kind bs u begins =
    ap (string_start kind) (sym (begins_with-split (raw_front kind) (chars bs) (raw_begins kind bs u ∙ begins))) ∙ start_raw kind _

pub empty_start : (kind : StringKind) (bs : List ℕ) (e : ParseError) → is_empty bs ≡ true → refusal_of e ≡ without_span Empty → IsStringError kind (chars bs) e
empty_start kind [] e none is =
    inl (refused_at kind (refused_start (without_span Empty)) (chars []) e (ap (string_start kind) chars-nil)
    (sym is) (no_span (chars []) e Empty is))
empty_start kind (b ∷ bs) e none is = cc

pub other_start : (kind : StringKind) (bs : List ℕ) (e : ParseError) → IsUtf8 bs → is_empty bs ≡ false →
    begins_with (quoted_front kind) bs ≡ false → begins_with (raw_front kind) bs ≡ false →
    refusal_of e ≡ string_start_refusal kind → HasCharSpan (chars bs) e → IsStringError kind (chars bs) e
other_start kind bs e u some quoted raw is ends =
    inl (refused_at kind (refused_start (string_start_refusal kind)) (chars bs) e
    (if_false _ _ _ (is_empty-chars bs u ∙ some) ∙ (if_false _ _ _ (quoted_begins kind bs u ∙ quoted) ∙ if_false _ _ _ (raw_begins kind bs u ∙ raw)))
    (sym is) ends)

-- Quoted strings

quoted_refused : (kind : StringKind) (bs : List ℕ) (e : ParseError) → IsUtf8 bs → begins_with (quoted_front kind) bs ≡ true →
    IsQuotedRefused (switches_of kind) bs (length (quoted_front kind)) e → IsRefused (kind_parse (string_literal_of kind)) (chars bs) e
quoted_refused kind bs e u begins refused =
    refused_at kind quoted_start (chars bs) e (starts_quoted kind bs u begins)
    (subst (λ (front : List ℕ). IsQuotedRefusal front (switches_of kind) (chars bs) (refusal_of e)) (quoted_before kind bs u begins) refused.table)
    refused.char_span

of_kind : (kind : StringKind) (t : List ℕ) (d : StringParts) → IsString kind t d → IsLiteralOf (kind_parse (string_literal_of kind)) t (a_string_of kind d)
of_kind string_kind t d r = (refl, r)
of_kind byte_string_kind t d r = (refl, r)
of_kind c_string_kind t d r = (refl, r)

escapes_allocate : (kind : StringKind) (d : StringParts) → has_escapes d ≡ true → allocates (a_string_of kind d) ≡ true
escapes_allocate string_kind d h = h
escapes_allocate byte_string_kind d h = h
escapes_allocate c_string_kind d h = refl

not_empty : (t : List ℕ) → t ≢ [] → is_empty t ≡ false
not_empty [] some = absurd (some refl)
not_empty (c ∷ t) some = refl

-- a value that is not empty takes memory, and so does each value of a C string
values_take_memory : (kind : StringKind) (d : QuotedParts) → ((switches_of kind).allow_nul ≡ true → body_value d.items ≢ []) →
    takes_memory (a_string_of kind (quoted_parts d)) ≡ true
values_take_memory string_kind d some = ap not (not_empty (body_value d.items) (some refl))
values_take_memory byte_string_kind d some = ap not (not_empty (body_value d.items) (some refl))
values_take_memory c_string_kind d some = refl

quoted_out_of_memory : (kind : StringKind) (bs : List ℕ) (e : ParseError) → IsUtf8 bs → begins_with (quoted_front kind) bs ≡ true →
    IsQuotedOutOfMemory (switches_of kind) bs (length (quoted_front kind)) e → IsOutOfMemory (kind_parse (string_literal_of kind)) (chars bs) e
quoted_out_of_memory kind bs e u begins lack = record {
  derivation = a_string_of kind (quoted_parts lack.is_cut.parts);
  literal = of_kind kind (chars bs) (quoted_parts lack.is_cut.parts)
      (subst (λ (front : List ℕ). IsQuoted front (switches_of kind) (chars bs) lack.is_cut.parts) (quoted_before kind bs u begins) lack.is_cut.only.0);
  allocated = escapes_allocate kind (quoted_parts lack.is_cut.parts) (sym lack.is_cut.has_escape ∙ lack.has_escape);
  takes = values_take_memory kind lack.is_cut.parts (λ nul none. lack.takes nul (lack.is_cut.value_len ∙ ap length none));
  error = lack.error;
}

pub quoted_error : (kind : StringKind) (bs : List ℕ) (e : ParseError) → IsUtf8 bs → begins_with (quoted_front kind) bs ≡ true →
    IsQuotedRefused (switches_of kind) bs (length (quoted_front kind)) e ⊎ IsQuotedOutOfMemory (switches_of kind) bs (length (quoted_front kind)) e →
    IsStringError kind (chars bs) e
quoted_error kind bs e u begins (inl refused) = inl (quoted_refused kind bs e u begins refused)
quoted_error kind bs e u begins (inr lack) = inr (quoted_out_of_memory kind bs e u begins lack)

-- Raw strings

pub raw_error : (kind : StringKind) (bs : List ℕ) (e : ParseError) → IsUtf8 bs → begins_with (raw_front kind) bs ≡ true →
    IsRawRefused (has_unicode kind) (allows_nul kind) (length (raw_front kind)) bs e → IsStringError kind (chars bs) e
raw_error kind bs e u begins refused =
    inl (refused_at kind raw_start (chars bs) e (starts_raw kind bs u begins)
    (ap (raw_refusal (has_unicode kind) (allows_nul kind) (length (raw_front kind))) (raw_after kind bs u begins) ∙ refused.table)
    refused.char_span)
