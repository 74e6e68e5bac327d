-- The cuts of quoted and raw strings tell whether a text that begins so is a string.
use Rattle.std.proofs.Common.{◌≡◌, ℕ, true, List, ◌++◌, length, drop, sym, ap, subst, ◌∙◌}
use Rattle.std.specs.Str.{chars, IsUtf8}
use Rattle.litrs_base.specs.declared.err.ParseError.{ParseError}
use Rattle.litrs_base.specs.Text.{begins_with}
use Rattle.litrs_base.proofs.Begins.{begins_with-split}
use Rattle.litrs_grammar.specs.Literal.{StringParts, quoted_parts, raw_parts, IsString}
use Rattle.litrs_grammar.specs.LiteralRefusals.{string_start, quoted_start, raw_start}
use Rattle.litrs_base.specs.Quotes.{quoted_front, raw_front, switches_of}
use Rattle.litrs_base.specs.declared.quotes.StringKind.{StringKind}
use Rattle.litrs_grammar.specs.Quoted.{IsQuoted}
use Rattle.litrs_grammar.specs.Raw.{has_unicode, allows_nul, raw_refusal}
use Rattle.litrs_grammar.specs.Strings.{StringDerivation}
use Rattle.litrs_grammar.proofs.Laws.Literal.{start_quoted, start_raw, quoted_starts, raw_starts}
use Rattle.litrs_grammar.proofs.RawKinds.{literal_refusal_free}
use Rattle.litrs_lex.specs.declared.quoted.QuotedCut.{QuotedCut}
use Rattle.litrs_lex.specs.QuotedCut.{IsQuotedCut, IsQuotedRefused}
use Rattle.litrs_lex.specs.RawCut.{IsRawCut, IsRawRefused, raw_parts_at}
use Rattle.litrs_lex.proofs.StringFronts.{quoted_begins, raw_begins, quoted_before, raw_after}

-- A text that begins so, cut after its front

pub quoted_split : (kind : StringKind) (bs : List ℕ) → IsUtf8 bs →
    begins_with (quoted_front kind) bs ≡ true →
    quoted_front kind ++ drop (length (quoted_front kind)) (chars bs) ≡ chars bs
quoted_split kind bs u front =
    begins_with-split (quoted_front kind) (chars bs) (quoted_begins kind bs u ∙ front)

pub raw_split : (kind : StringKind) (bs : List ℕ) → IsUtf8 bs →
    begins_with (raw_front kind) bs ≡ true →
    raw_front kind ++ drop (length (raw_front kind)) (chars bs) ≡ chars bs
raw_split kind bs u front =
    begins_with-split (raw_front kind) (chars bs) (raw_begins kind bs u ∙ front)

-- Quoted strings

pub quoted_derivation : (kind : StringKind) (bs : List ℕ) (cut : QuotedCut) → IsUtf8 bs →
    begins_with (quoted_front kind) bs ≡ true →
    IsQuotedCut (switches_of kind) bs (length (quoted_front kind)) cut →
    StringDerivation kind (chars bs)
quoted_derivation kind bs cut u front is = (
  quoted_parts is.parts,
  subst (λ (f : List ℕ). IsQuoted f (switches_of kind) (chars bs) is.parts)
      (quoted_before kind bs u front) is.only.0,
)

pub quoted_none : (kind : StringKind) (bs : List ℕ) (e : ParseError) → IsUtf8 bs →
    begins_with (quoted_front kind) bs ≡ true →
    IsQuotedRefused (switches_of kind) bs (length (quoted_front kind)) e →
    (d : StringParts) → IsString kind (chars bs) d → ⊥
quoted_none kind bs e u front refused (quoted_parts d) r =
    refused.none d (subst (λ (f : List ℕ). IsQuoted f (switches_of kind) (chars bs) d)
    (sym (quoted_before kind bs u front)) r)
quoted_none kind bs e u front refused (raw_parts d) r =
    let quoted = ap (string_start kind) (sym (quoted_split kind bs u front))
    ∙ start_quoted kind _ in
    let raw = raw_starts kind (chars bs) d r in
    let both : quoted_start ≡ raw_start = sym quoted ∙ raw in cc

-- Raw strings

pub raw_derivation : (kind : StringKind) (bs : List ℕ) (cut : ℕ × ℕ) → IsUtf8 bs →
    begins_with (raw_front kind) bs ≡ true →
    IsRawCut (has_unicode kind) (allows_nul kind) (length (raw_front kind)) bs cut →
    StringDerivation kind (chars bs)
raw_derivation kind bs cut u front is = (
  raw_parts (raw_parts_at (length (raw_front kind)) bs cut),
  record {
    spells = ap (λ (t : List ℕ). raw_front kind ++ t)
        (is.only.0.spells ∙ sym (raw_after kind bs u front)) ∙ raw_split kind bs u front;
    grammar = is.only.0.grammar;
  },
)

pub raw_none : (kind : StringKind) (bs : List ℕ) (e : ParseError) → IsUtf8 bs →
    begins_with (raw_front kind) bs ≡ true →
    IsRawRefused (has_unicode kind) (allows_nul kind) (length (raw_front kind)) bs e →
    (d : StringParts) → IsString kind (chars bs) d → ⊥
raw_none kind bs e u front refused (raw_parts d) r =
    let free = literal_refusal_free kind (chars bs) d (raw_begins kind bs u ∙ front) r in
    let row = ap (raw_refusal (has_unicode kind) (allows_nul kind) (length (raw_front kind)))
    (raw_after kind bs u front) ∙ refused.table in
    let both = sym free ∙ row in cc
raw_none kind bs e u front refused (quoted_parts d) r =
    let raw = ap (string_start kind) (sym (raw_split kind bs u front)) ∙ start_raw kind _ in
    let quoted = quoted_starts kind (chars bs) d r in
    let both : quoted_start ≡ raw_start = sym quoted ∙ raw in cc
