-- The value of a C string is what was unescaped, or the body itself; and which C strings are raw.
use Rattle.std.proofs.Common.{◌≡◌, ◌<◌, ℕ, Bool, true, false, List, ◌∷◌, length, drop, cond, slice_index_or, refl, sym, ap, subst, ◌∙◌, arith}
use Rattle.std.specs.Prelude.{IsFalse, nat_eq}
use Rattle.std.specs.List.{list_any}
use Rattle.std.specs.Str.{chars, IsUtf8}
use Rattle.litrs_base.specs.declared.err.ParseError.{ParseError}
use Rattle.litrs_base.specs.declared.err.ParseErrorKind.TheVariants.{OutOfMemory}
use Rattle.litrs_base.specs.Refusal.{without_span, refusal_of}
use Rattle.litrs_base.specs.Text.{begins_with}
use Rattle.litrs_base.proofs.Begins.{begins_with-split}
use Rattle.litrs_base.specs.declared.quotes.StringKind.TheVariants.{CString as c_string_kind}
use Rattle.litrs_base.specs.Quotes.{quoted_front, raw_front}
use Rattle.litrs_grammar.specs.Literal.{StringParts, quoted_parts, raw_parts, IsString, a_c_string, kind_parse, c_string_literal}
use Rattle.litrs_grammar.specs.Raw.{is_nul}
use Rattle.litrs_grammar.specs.Strings.{is_raw}
use Rattle.litrs_grammar.specs.Refused.{IsOutOfMemory}
use Rattle.litrs_grammar.proofs.Laws.Value.{no_nul_in_c_strings}
use Rattle.litrs_lex.proofs.StringFronts.{quoted_begins, raw_begins}
use Rattle.litrs.specs.declared.kept_value.KeptValue.{KeptValue}
use Rattle.litrs.specs.CString.{has_nul}
use Rattle.litrs.specs.StringLiteral.{kept_value}
use Rattle.litrs.specs.ParsedStrings.{IsParsedString}

pub no_nul : (bs : List ℕ) (kept : KeptValue (List ℕ)) (start_suffix : ℕ) → IsParsedString c_string_kind bs kept start_suffix →
    IsFalse (has_nul (kept_value bs kept))
no_nul bs kept start_suffix parsed = ap (list_any is_nul) parsed.at.is_value ∙ no_nul_in_c_strings (chars bs) parsed.parts parsed.derives

pub c_out_of_memory : (bs : List ℕ) (kept : KeptValue (List ℕ)) (start_suffix : ℕ) (e : ParseError) → IsParsedString c_string_kind bs kept start_suffix →
    refusal_of e ≡ without_span OutOfMemory → IsOutOfMemory (kind_parse c_string_literal) (chars bs) e
c_out_of_memory bs kept start_suffix e parsed is = record {
  derivation = a_c_string parsed.parts;
  literal = (refl, parsed.derives);
  allocated = refl;
  takes = refl;
  error = is;
}

-- the second byte of a C string tells whether it is raw
pub second_byte : (bs : List ℕ) (d : StringParts) → IsUtf8 bs → IsString c_string_kind (chars bs) d →
    (rest : List ℕ) × (99 ∷ cond (is_raw d) 114 34 ∷ rest ≡ bs)
second_byte bs (quoted_parts q) utf8 r =
    let front = quoted_front c_string_kind in
    (drop 2 bs, begins_with-split front bs (sym (quoted_begins c_string_kind bs utf8) ∙ ap (begins_with front) (sym r.spells)))
second_byte bs (raw_parts q) utf8 r =
    let front = raw_front c_string_kind in
    (drop 2 bs, begins_with-split front bs (sym (raw_begins c_string_kind bs utf8) ∙ ap (begins_with front) (sym r.spells)))

pub has_second : (bs : List ℕ) (d : StringParts) → IsUtf8 bs → IsString c_string_kind (chars bs) d → 1 < length bs
has_second bs d utf8 r =
    let second = second_byte bs d utf8 r in subst (λ (l : List ℕ). 1 < length l) second.1 (omega arith)

-- and of the byte 114 alone it is raw
pub raw_by_second : (bs : List ℕ) (d : StringParts) → IsUtf8 bs → IsString c_string_kind (chars bs) d →
    nat_eq (slice_index_or bs 1 0) 114 ≡ is_raw d
raw_by_second bs d utf8 r =
    let second = second_byte bs d utf8 r in
    subst (λ (l : List ℕ). nat_eq (slice_index_or l 1 0) 114 ≡ is_raw d) second.1 (by_case (is_raw d))
  where
    by_case : (b : Bool) → nat_eq (cond b 114 34) 114 ≡ b
    by_case true = refl
    by_case false = refl
