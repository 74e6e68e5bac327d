-- The three kinds of raw literals.
use Rattle.std.proofs.Common.{◌≡◌, ℕ, true, false, List, [], ◌∷◌, ◌++◌, length, drop, get_or, None, refl, sym, ap, subst, ◌∙◌, arith}
use Rattle.std.specs.List.{list_any}
use Rattle.std.specs.Option.{ForSome}
use Rattle.std.proofs.lemmas.Bool.{true≢false}
use Rattle.std.proofs.lemmas.List.{append_cancel_left}
use Rattle.litrs_base.specs.declared.quotes.StringKind.{StringKind}
use Rattle.litrs_base.specs.declared.quotes.StringKind.TheVariants.{String as string_kind, ByteString as byte_string_kind, CString as c_string_kind}
use Rattle.litrs_base.specs.Quotes.{raw_front}
use Rattle.litrs_base.specs.Refusal.{IsInText}
use Rattle.litrs_base.specs.Text.{byte_len, begins_with}
use Rattle.litrs_grammar.specs.Raw.{is_nul, raw_value, RawParts, raw_text, IsRawOf, has_unicode, allows_nul, IsRawLiteral, raw_refusal, raw_literal_refusal}
use Rattle.litrs_base.proofs.Runs.{last_passes, is_line_feed, line_feed_last}
use Rattle.litrs_base.proofs.Spans.{byte_len_ascii}
use Rattle.litrs_base.proofs.Begins.{begins_with-split}
use Rattle.litrs_grammar.proofs.Laws.Raw.{only_raw, derivable, refusal_free}
use Rattle.litrs_grammar.proofs.Spans.Raw.{raw_refusal_within, raw_last, raw_no_nul}

-- The first character of a raw literal decides its kind.

first_char : StringKind → ℕ
first_char kind = get_or (raw_front kind) 0 0

front_first : (kind : StringKind) (t : List ℕ) → get_or (raw_front kind ++ t) 0 0 ≡ first_char kind
unfolding first_char
front_first string_kind t = refl
front_first byte_string_kind t = refl
front_first c_string_kind t = refl

same_first : (k l : StringKind) → first_char k ≡ first_char l → k ≡ l
unfolding first_char
same_first string_kind string_kind e = refl
same_first byte_string_kind byte_string_kind e = refl
same_first c_string_kind c_string_kind e = refl
same_first string_kind byte_string_kind e = absurd (omega arith)
same_first string_kind c_string_kind e = absurd (omega arith)
same_first byte_string_kind string_kind e = absurd (omega arith)
same_first byte_string_kind c_string_kind e = absurd (omega arith)
same_first c_string_kind string_kind e = absurd (omega arith)
same_first c_string_kind byte_string_kind e = absurd (omega arith)

same_kind : (k l : StringKind) (s t : List ℕ) → raw_front k ++ s ≡ raw_front l ++ t → k ≡ l
same_kind k l s t e = same_first k l (sym (front_first k s) ∙ (ap (λ x. get_or x 0 0) e ∙ front_first l t))

-- the text after the front
pub after_front : (kind : StringKind) (s t : List ℕ) (d : RawParts) → raw_front kind ++ s ≡ t → IsRawLiteral kind t d → IsRawOf (has_unicode kind) (allows_nul kind) s d
after_front kind s t d spells r = record { spells = append_cancel_left (raw_front kind) (raw_text d) s (r.spells ∙ sym spells); grammar = r.grammar }

same_parts : (k l : StringKind) → k ≡ l → (t : List ℕ) (d e : RawParts) → IsRawLiteral k t d → IsRawLiteral l t e → d ≡ e
same_parts k l same t d e r s =
    let other : IsRawLiteral k t e = subst (λ (kind : StringKind). IsRawLiteral kind t e) (sym same) s in
    only_raw (has_unicode k) (allows_nul k) (raw_text d) d e (record { spells = refl; grammar = r.grammar }) (after_front k (raw_text d) t e r.spells other)

pub only_raw_literal : (t : List ℕ) (k l : StringKind) (d e : RawParts) → IsRawLiteral k t d → IsRawLiteral l t e → (k ≡ l) × (d ≡ e)
only_raw_literal t k l d e r s =
    let same : k ≡ l = same_kind k l (raw_text d) (raw_text e) (r.spells ∙ sym s.spells) in
    (same, same_parts k l same t d e r s)

pub literal_derivable : (kind : StringKind) (t : List ℕ) → begins_with (raw_front kind) t ≡ true → raw_literal_refusal kind t ≡ None → (d : RawParts) × IsRawLiteral kind t d
literal_derivable kind t front h = let r = derivable (has_unicode kind) (allows_nul kind) (length (raw_front kind)) (drop (length (raw_front kind)) t) h in
    (r.0, record { spells = ap (λ s. raw_front kind ++ s) r.1.spells ∙ begins_with-split (raw_front kind) t front; grammar = r.1.grammar })

pub literal_refusal_free : (kind : StringKind) (t : List ℕ) (d : RawParts) → begins_with (raw_front kind) t ≡ true → IsRawLiteral kind t d → raw_literal_refusal kind t ≡ None
literal_refusal_free kind t d front r =
    refusal_free (has_unicode kind) (allows_nul kind) (length (raw_front kind)) (drop (length (raw_front kind)) t) d
    (after_front kind (drop (length (raw_front kind)) t) t d (begins_with-split (raw_front kind) t front) r)

front_bytes : (kind : StringKind) → byte_len (raw_front kind) ≡ length (raw_front kind)
front_bytes string_kind = byte_len_ascii (raw_front string_kind) refl
front_bytes byte_string_kind = byte_len_ascii (raw_front byte_string_kind) refl
front_bytes c_string_kind = byte_len_ascii (raw_front c_string_kind) refl

pub literal_refusal_within : (kind : StringKind) (t : List ℕ) → begins_with (raw_front kind) t ≡ true → ForSome (raw_literal_refusal kind t) (IsInText t)
literal_refusal_within kind t front =
    subst (λ (s : List ℕ). ForSome (raw_literal_refusal kind t) (IsInText s)) (begins_with-split (raw_front kind) t front)
    (subst (λ (start : ℕ). ForSome (raw_refusal (has_unicode kind) (allows_nul kind) start (drop (length (raw_front kind)) t)) (IsInText (raw_front kind ++ drop (length (raw_front kind)) t)))
    (front_bytes kind) (raw_refusal_within (has_unicode kind) (allows_nul kind) (raw_front kind) (drop (length (raw_front kind)) t)))

pub no_literal_with_line_feed : (kind : StringKind) (t : List ℕ) (d : RawParts) → ¬ IsRawLiteral kind (t ++ (10 ∷ [])) d
no_literal_with_line_feed kind t d r =
    true≢false (sym (line_feed_last t) ∙ (ap (last_passes is_line_feed) (sym r.spells) ∙ raw_last (has_unicode kind) (allows_nul kind) (raw_front kind) d r.grammar))

pub c_string_no_nul : (t : List ℕ) (d : RawParts) → IsRawLiteral c_string_kind t d → list_any is_nul (raw_value d.body) ≡ false
c_string_no_nul t d r = raw_no_nul true d.body r.grammar.body.allowed
