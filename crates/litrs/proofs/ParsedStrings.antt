-- The places where a string is cut, by its only derivation.
use Rattle.std.proofs.Common.{◌≡◌, ℕ, ◌+◌, ◌-◌, Bool, true, false, List, ◌++◌, None, length, drop, refl, sym, ap, ◌∙◌, subst, arith}
use Rattle.std.specs.Prelude.{slice_range}
use Rattle.std.specs.Str.{chars, IsUtf8, IsCharBoundary}
use Rattle.std.proofs.lemmas.Str.{encodes-chars, IsUtf8-between}
use Rattle.litrs_base.specs.Derivations.{IsOnlyDerivation}
use Rattle.litrs_base.specs.Text.{begins_with}
use Rattle.litrs_base.proofs.Begins.{begins_with-split}
use Rattle.litrs_base.specs.declared.quotes.StringKind.{StringKind}
use Rattle.litrs_base.specs.declared.quotes.StringKind.TheVariants.{String as string_kind, CString as c_string_kind}
use Rattle.litrs_base.specs.declared.quotes.Switches.{Switches}
use Rattle.litrs_base.specs.Quotes.{string_switches, switches_of, quoted_front, raw_front}
use Rattle.litrs_grammar.specs.Quoted.{IsQuoted}
use Rattle.litrs_grammar.specs.Raw.{has_unicode, allows_nul}
use Rattle.litrs_grammar.specs.Literal.{StringParts, quoted_parts, raw_parts, IsString}
use Rattle.litrs_grammar.specs.Strings.{StringDerivation}
use Rattle.litrs_grammar.proofs.Laws.Literal.{only_string}
use Rattle.litrs_lex.proofs.StringFronts.{raw_begins, quoted_boundary, quoted_before, raw_after}
use Rattle.litrs_lex.specs.QuotedCut.{IsQuotedValue}
use Rattle.litrs_lex.specs.RawCut.{IsRawCut, raw_parts_at}
use Rattle.litrs.specs.declared.kept_value.BodyPlace.{BodyPlace}
use Rattle.litrs.specs.declared.kept_value.KeptValue.{KeptValue}
use Rattle.litrs.specs.declared.kept_value.KeptValue.TheVariants.{InText}
use Rattle.litrs.specs.StringLiteral.{IsStringAt, IsCStringAt, IsPlainString}
use Rattle.litrs.specs.ParsedStrings.{IsParsedQuoted, IsParsedRaw, IsParsedString}

-- A quoted or a raw string is a string of its kind.

pub parsed_quoted : (kind : StringKind) (bs : List ℕ) (kept : KeptValue (List ℕ)) (start_suffix : ℕ) → IsUtf8 bs →
    begins_with (quoted_front kind) bs ≡ true → IsParsedQuoted (switches_of kind) bs (length (quoted_front kind)) kept start_suffix →
    IsParsedString kind bs kept start_suffix
parsed_quoted kind bs kept start_suffix u begins parsed = record {
  parts = quoted_parts parsed.parts;
  derives = subst (λ (front : List ℕ). IsQuoted front (switches_of kind) (chars bs) parsed.parts) (quoted_before kind bs u begins) parsed.derives;
  at = parsed.at;
}

pub parsed_raw : (kind : StringKind) (bs : List ℕ) (place : BodyPlace) (start_suffix : ℕ) → IsUtf8 bs → begins_with (raw_front kind) bs ≡ true →
    IsParsedRaw (has_unicode kind) (allows_nul kind) (length (raw_front kind)) bs place start_suffix →
    IsParsedString kind bs (InText place) start_suffix
parsed_raw kind bs place start_suffix u begins parsed = record {
  parts = raw_parts parsed.parts;
  derives = record {
    spells = ap (λ (t : List ℕ). raw_front kind ++ t) (parsed.derives.spells ∙ sym (raw_after kind bs u begins))
        ∙ begins_with-split (raw_front kind) (chars bs) (raw_begins kind bs u ∙ begins);
    grammar = parsed.derives.grammar;
  };
  at = parsed.at;
}

-- a body without a backslash is its value
plain_at : (w : Switches) (bs : List ℕ) (offset start_suffix : ℕ) → IsCharBoundary bs offset → IsQuotedValue w bs offset None start_suffix →
    IsParsedQuoted w bs offset (InText (record { start = offset; end = start_suffix - 1; is_raw = false })) start_suffix
plain_at w bs offset start_suffix at v =
    let cut = v.is_cut in
    let place = v.place in
    let same : v.cut.start_suffix ≡ start_suffix = sym place in
    let size = cut.start_suffix in record {
      parts = cut.parts;
      derives = cut.only.0;
      at = record {
        placed = record { in_order = omega arith; start = at; end = subst (λ (k : ℕ). IsCharBoundary bs (k - 1)) same cut.end_body };
        suffix_place = subst (IsCharBoundary bs) same cut.boundary;
        suffix = ap (λ (k : ℕ). chars (drop k bs)) place ∙ cut.suffix;
        raw = refl;
        owned = v.given ∙ cut.has_escape;
        is_value = ap (λ (k : ℕ). slice_range bs offset (k - 1)) place ∙ cut.plain (sym v.given);
      };
    }

pub plain_string : (bs : List ℕ) → IsUtf8 bs → IsPlainString bs →
    IsParsedString string_kind bs (InText (record { start = 1; end = length bs - 1; is_raw = false })) (length bs)
plain_string bs u is =
    parsed_quoted string_kind bs _ (length bs) u is.quote
    (plain_at string_switches bs 1 (length bs) (quoted_boundary string_kind bs u is.quote) is.body)

-- the body of a raw string is its value
pub parsed_raw_cut : (unicode allow_nul : Bool) (offset : ℕ) (bs : List ℕ) (hashes start_suffix : ℕ) → IsUtf8 bs →
    IsRawCut unicode allow_nul offset bs (hashes, start_suffix) →
    IsParsedRaw unicode allow_nul offset bs
    (record { start = offset + (hashes + 1); end = start_suffix - (hashes + 1); is_raw = true }) start_suffix
parsed_raw_cut unicode allow_nul offset bs hashes start_suffix u cut = record {
  parts = raw_parts_at offset bs (hashes, start_suffix);
  derives = cut.only.0;
  at = record {
    placed = record { in_order = cut.in_order; start = cut.start; end = cut.end };
    suffix_place = cut.suffix;
    suffix = refl;
    raw = refl;
    owned = refl;
    is_value = sym (encodes-chars _ (IsUtf8-between bs (offset + (hashes + 1)) (start_suffix - (hashes + 1)) u cut.in_order cut.start cut.end));
  };
}

-- The derivation of a literal is the one that was parsed.

pub only_derivation : (kind : StringKind) (t : List ℕ) (d : StringDerivation kind t) → IsOnlyDerivation (IsString kind t) d.0
only_derivation kind t d = (d.1, λ e r. only_string kind t e d.0 r d.1)

-- the derivations of two literals of one text
pub same_parts : (kind : StringKind) (bytes b : List ℕ) (d e : StringParts) → b ≡ bytes → IsString kind (chars bytes) d → IsString kind (chars b) e → e ≡ d
same_parts kind bytes b d e same r s = only_string kind (chars b) e d s (subst (λ (t : List ℕ). IsString kind (chars t) d) (sym same) r)

-- facts about a text and its derivation, for a copy of the text
transported : (kind : StringKind) (P : List ℕ → StringParts → Type 0) (bytes b : List ℕ) (d e : StringParts) → b ≡ bytes →
    IsString kind (chars bytes) d → IsString kind (chars b) e → P bytes d → P b e
transported kind P bytes b d e same r s p =
    subst (λ (parts : StringParts). P b parts) (sym (same_parts kind bytes b d e same r s)) (subst (λ (t : List ℕ). P t d) (sym same) p)

pub at_copy : (kind : StringKind) (start_suffix : ℕ) (kept k : KeptValue (List ℕ)) (bytes b : List ℕ) (d e : StringParts) → b ≡ bytes → k ≡ kept →
    IsString kind (chars bytes) d → IsString kind (chars b) e → IsStringAt kept start_suffix bytes d → IsStringAt k start_suffix b e
at_copy kind start_suffix kept k bytes b d e same also r s at =
    transported kind (IsStringAt k start_suffix) bytes b d e same r s (subst (λ (o : KeptValue (List ℕ)). IsStringAt o start_suffix bytes d) (sym also) at)

pub c_at_copy : (start_suffix : ℕ) (value v bytes b : List ℕ) (d e : StringParts) → b ≡ bytes → v ≡ value →
    IsString c_string_kind (chars bytes) d → IsString c_string_kind (chars b) e → IsCStringAt value start_suffix bytes d → IsCStringAt v start_suffix b e
c_at_copy start_suffix value v bytes b d e same also r s at =
    transported c_string_kind (IsCStringAt v start_suffix) bytes b d e same r s (subst (λ (o : List ℕ). IsCStringAt o start_suffix bytes d) (sym also) at)
