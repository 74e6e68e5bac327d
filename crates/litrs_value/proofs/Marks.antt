-- A text may be cut at both ends of the part that its error marks.
use Rattle.std.proofs.Common.{◌≡◌, ℕ, ◌+◌, ◌-◌, ◌≤◌, eqb, List, [], ◌∷◌, ◌++◌, length, drop, Option, Some, None, IsUtf8, append_assoc, inl, inr, refl, sym, ap, ◌∙◌, subst, arith}
use Rattle.std.specs.Prelude.{unwrap_or}
use Rattle.std.specs.Option.{ForSome}
use Rattle.std.specs.Str.{chars, IsCharBoundary}
use Rattle.std.specs.declared.ops.Range.{Range}
use Rattle.std.proofs.lemmas.Bool.{cases_Bool}
use Rattle.std.proofs.lemmas.List.{append-nil, length-drop}
use Rattle.std.proofs.lemmas.Str.{encodes-chars, IsCharBoundary-start, IsCharBoundary-end, IsCharBoundary-from_rest}
use Rattle.litrs_base.proofs.CharEnds.{front_boundary}
use Rattle.litrs_base.proofs.Spans.{byte_len-append}
use Rattle.litrs.specs.Base.{prefix}
use Rattle.litrs.specs.CharByte.{CharParts, char_item_text, IsCharLiteral}
use Rattle.litrs.specs.CharEnd.{IsCutBy}
use Rattle.litrs.specs.Float.{fraction_text}
use Rattle.litrs.specs.Literal.{StringParts, quoted_parts, raw_parts, IsString, string_suffix, Derivation, a_bool, an_integer, a_float, a_char, a_byte, a_string, a_byte_string, a_c_string, IsLiteral, suffix_of, literal_parse}
use Rattle.litrs.specs.Quoted.{body_text}
use Rattle.litrs.specs.Quotes.{char_front, quoted_front, raw_front}
use Rattle.litrs.specs.Raw.{hashes, raw_closing}
use Rattle.litrs.specs.Refusal.{char_span_of, shifted_span}
use Rattle.litrs.specs.Text.{byte_len}
use Rattle.litrs_base.specs.declared.quotes.CharKind.{CharKind}
use Rattle.litrs_base.specs.declared.quotes.CharKind.TheVariants.{Char as char_kind, Byte as byte_kind}
use Rattle.litrs_base.specs.declared.quotes.StringKind.{StringKind}
use Rattle.litrs_base.specs.declared.quotes.StringKind.TheVariants.{String as string_kind, ByteString as byte_string_kind, CString as c_string_kind}
use Rattle.litrs.specs.declared.ParseError.{ParseError}
use Rattle.litrs.proofs.SpanCuts.{char_span_cuts}
use Rattle.litrs_value.specs.Reads.{sign_len, unsigned, IsReadAs, IsValueError, marked}
use Rattle.litrs_value.specs.declared.value_type.ValueType.{ValueType}
use Rattle.litrs_value.specs.declared.error.ValueError.{ValueError}
use Rattle.litrs_value.specs.declared.error.ValueError.TheVariants.{Malformed, Kind, Sign, Suffix, OutOfRange, Memory}

abbrev whole : List ℕ → Range ℕ
whole t = record { start = 0; end = byte_len t }

text_size : (bs : List ℕ) → IsUtf8 bs → byte_len (chars bs) ≡ length bs
text_size bs utf8 = ap length (encodes-chars bs utf8)

whole_cut : (bs : List ℕ) → IsUtf8 bs → IsCutBy bs (whole (chars bs))
whole_cut bs utf8 =
    let size = text_size bs utf8 in
    record {
      start = IsCharBoundary-start bs utf8;
      end = subst (λ (n : ℕ). IsCharBoundary bs n) (sym size) (IsCharBoundary-end bs);
      in_order = omega arith;
      within = omega arith;
    }

cut_after : (bs : List ℕ) (i : ℕ) (span : Range ℕ) → i ≤ length bs → IsCutBy (drop i bs) span → IsCutBy bs (record { start = span.start + i; end = span.end + i })
cut_after bs i span fits cut =
    let start : i + span.start ≡ span.start + i = omega arith in
    let end : i + span.end ≡ span.end + i = omega arith in
    record {
      start = subst (λ (n : ℕ). IsCharBoundary bs n) start (IsCharBoundary-from_rest bs i span.start fits cut.start);
      end = subst (λ (n : ℕ). IsCharBoundary bs n) end (IsCharBoundary-from_rest bs i span.end fits cut.end);
      in_order = omega (arith, cut.in_order);
      within = omega (arith, cut.within, length-drop i bs);
    }

pub sign_fits : (bs : List ℕ) → sign_len bs ≤ length bs
sign_fits [] = omega arith
sign_fits (c ∷ cs) = elim (cases_Bool (eqb c 45)) [ inl e ↦ rw e (omega arith) | inr e ↦ rw e (omega arith) ]

-- by the character span of the error
moved : (bs : List ℕ) (r e : ParseError) (o : Option (Range ℕ)) → IsUtf8 bs → char_span_of e ≡ shifted_span (sign_len bs) o → ForSome o (IsCutBy (unsigned bs))
    → IsCutBy bs (unwrap_or (char_span_of e) (whole (chars bs)))
moved bs r e None utf8 same cuts = subst (λ (p : Option (Range ℕ)). IsCutBy bs (unwrap_or p (whole (chars bs)))) (sym same) (whole_cut bs utf8)
moved bs r e (Some span) utf8 same cuts =
    subst (λ (p : Option (Range ℕ)). IsCutBy bs (unwrap_or p (whole (chars bs)))) (sym same) (cut_after bs (sign_len bs) span (sign_fits bs) (cuts span refl))

-- a literal ends with its suffix

abbrev EndsWith : List ℕ → List ℕ → Type 0
EndsWith t suffix = (front : List ℕ) × (front ++ suffix ≡ t)

after : (t front rest suffix : List ℕ) → EndsWith rest suffix → front ++ rest ≡ t → EndsWith t suffix
after t front rest suffix ends is = (front ++ ends.0, append_assoc front ends.0 suffix ∙ ap (λ (l : List ℕ). front ++ l) ends.1 ∙ is)

here : (front suffix : List ℕ) → EndsWith (front ++ suffix) suffix
here front suffix = (front, refl)

after_quote : (quote : ℕ) (suffix : List ℕ) → EndsWith (quote ∷ suffix) suffix
after_quote quote suffix = (quote ∷ [], refl)

char_ends : (kind : CharKind) (t : List ℕ) (d : CharParts) → IsCharLiteral kind t d → EndsWith t d.suffix
char_ends kind t d is =
    after t (char_front kind) _ d.suffix (after _ (char_item_text d.item) (39 ∷ d.suffix) d.suffix (after_quote 39 d.suffix) refl) is.spells

string_ends : (kind : StringKind) (t : List ℕ) (d : StringParts) → IsString kind t d → EndsWith t (string_suffix d)
string_ends kind t (quoted_parts d) is =
    after t (quoted_front kind) _ d.suffix (after _ (body_text d.items) (34 ∷ d.suffix) d.suffix (after_quote 34 d.suffix) refl) is.spells
string_ends kind t (raw_parts d) is =
    let closing = here (raw_closing d.hash_count) d.suffix in
    let body = after (34 ∷ (d.body ++ (raw_closing d.hash_count ++ d.suffix))) (34 ∷ d.body) _ d.suffix closing refl in
    after t (raw_front kind) _ d.suffix (after _ (hashes d.hash_count) _ d.suffix body refl) is.spells

suffix_ends : (t : List ℕ) (d : Derivation) → IsLiteral t d → EndsWith t (suffix_of d)
suffix_ends t (a_bool b) is = (t, append-nil t)
suffix_ends t (an_integer d) is = after t (prefix d.base) _ d.suffix (here d.main d.suffix) is.spells
suffix_ends t (a_float d) is =
    after t d.integer _ d.suffix (after _ (fraction_text d.fraction) _ d.suffix (here d.exponent d.suffix) refl) is.spells
suffix_ends t (a_char d) is = char_ends char_kind t d is
suffix_ends t (a_byte d) is = char_ends byte_kind t d is
suffix_ends t (a_string d) is = string_ends string_kind t d is
suffix_ends t (a_byte_string d) is = string_ends byte_string_kind t d is
suffix_ends t (a_c_string d) is = string_ends c_string_kind t d is

suffix_cut : (bs : List ℕ) (d : Derivation) (len : ℕ) → IsUtf8 bs → IsUtf8 (unsigned bs) → IsReadAs bs d → len ≡ byte_len (suffix_of d)
    → IsCutBy bs (record { start = byte_len (chars bs) - len; end = byte_len (chars bs) })
suffix_cut bs d len utf8 rest read is =
    let i = sign_len bs in
    let u = unsigned bs in
    let fits : i ≤ length bs = sign_fits bs in
    let size = text_size bs utf8 in
    let rest_size = text_size u rest in
    let ends = suffix_ends (chars u) d read in
    let parts : byte_len ends.0 + byte_len (suffix_of d) ≡ byte_len (chars u) = sym (byte_len-append ends.0 (suffix_of d)) ∙ ap byte_len ends.1 in
    let place : i + byte_len ends.0 ≡ byte_len (chars bs) - len = omega (arith, length-drop i bs) in
    let cut : IsCharBoundary u (byte_len ends.0) = subst (λ (l : List ℕ). IsCharBoundary l (byte_len ends.0)) (encodes-chars u rest) (front_boundary (chars u) ends.0 (suffix_of d) ends.1) in
    record {
      start = subst (λ (n : ℕ). IsCharBoundary bs n) place (IsCharBoundary-from_rest bs i (byte_len ends.0) fits cut);
      end = (whole_cut bs utf8).end;
      in_order = omega arith;
      within = omega arith;
    }

pub marks : (type : ValueType) (bs : List ℕ) (e : ValueError) → IsUtf8 bs → IsUtf8 (unsigned bs) → IsValueError type bs e → IsCutBy bs (marked (chars bs) e)
marks type bs (Malformed e) utf8 rest (r, refused, same, spans) =
    moved bs r e (char_span_of r) utf8 spans (char_span_cuts literal_parse (unsigned bs) r rest refused)
marks type bs (Kind a b) utf8 rest is = whole_cut bs utf8
marks type bs (Sign a) utf8 rest is = whole_cut bs utf8
marks type bs (Suffix a n) utf8 rest (d, read, why) = suffix_cut bs d n utf8 rest read why.1
marks type bs (OutOfRange a) utf8 rest is = whole_cut bs utf8
marks type bs Memory utf8 rest is = whole_cut bs utf8
