-- Beginnings of strings of each kind, by their front.
use Rattle.std.proofs.Common.{◌≡◌, ℕ, Bool, true, false, ◌&&◌, List, [], ◌∷◌, ◌++◌, length, take, drop, refl, sym, ap, ◌∙◌, subst, arith}
use Rattle.std.specs.Prelude.{◌↔◌, ◌==◌, IsTrue, codes}
use Rattle.std.specs.Str.{chars, IsUtf8}
use Rattle.std.proofs.lemmas.Bool.{and_left, or_from, eqb-true, eq-eqb, ne_eqb, both_ways}
use Rattle.std.proofs.lemmas.Str.{chars-nil}
use Rattle.litrs_base.specs.Text.{is_empty, begins_with}
use Rattle.litrs_base.proofs.Chars.{chars_ascii, chars_empty, begins_with-chars, utf8_after_ascii}
use Rattle.litrs_base.specs.declared.quotes.StringKind.{StringKind}
use Rattle.litrs_base.specs.declared.quotes.StringKind.TheVariants.{String as string_kind, ByteString as byte_string_kind, CString as c_string_kind}
use Rattle.litrs_base.specs.Quotes.{switches_of, quoted_front, raw_front}
use Rattle.litrs_grammar.specs.Quoted.{IsQuoted}
use Rattle.litrs_grammar.specs.Raw.{has_unicode, allows_nul, IsRawOf, IsRawLiteral}
use Rattle.litrs_grammar.specs.LongerTexts.{BeginsBy}
use Rattle.litrs_grammar.specs.Literal.{IsString, string_literal, byte_string_literal, c_string_literal, literal_parse, kind_parse, Begins, string_literal_of}
use Rattle.litrs_grammar.specs.LiteralRefusals.{parsed_as, dispatch, refused_start, quoted_start, raw_start, string_start, string_start_refusal}
use Rattle.litrs_grammar.specs.GoesOn.String.{start_goes_on}
use Rattle.litrs_grammar.proofs.Laws.Literal.{start_quoted, start_raw}
use Rattle.litrs_grammar.proofs.LongerTexts.Literal.{chain, back, begins_kind, raw_begins_after}
use Rattle.litrs_grammar.proofs.LongerTexts.String.{quoted_string_begins, raw_string_begins, start_begins}
use Rattle.litrs_lex.proofs.Dispatch.{dispatch-chars}
use Rattle.litrs.proofs.Begins.{answer_is, begins_parsed}
use Rattle.litrs.proofs.Fronts.{front_chars, front_taken}
use Rattle.litrs_lex.proofs.StringFronts.{quoted_low, raw_low}

-- a text that begins a string of the kind begins a literal, if it is parsed as such a string
begins_string : (kind : StringKind) (t : List ℕ) →
    BeginsBy (IsString kind) t ↔ Begins (kind_parse (string_literal_of kind)) t
begins_string string_kind t = back (begins_kind string_literal t)
begins_string byte_string_kind t = back (begins_kind byte_string_literal t)
begins_string c_string_kind t = back (begins_kind c_string_literal t)

pub string_parsed : (kind : StringKind) (bs : List ℕ) (b : Bool) → IsUtf8 bs →
    parsed_as (string_literal_of kind) ≡ dispatch bs →
    IsTrue b ↔ BeginsBy (IsString kind) (chars bs) → IsTrue b ↔ Begins literal_parse (chars bs)
string_parsed kind bs b u row is =
    chain is (chain (begins_string kind (chars bs))
    (begins_parsed (chars bs) (string_literal_of kind) (dispatch-chars bs u ∙ sym row)))

-- Quoted

pub quoted_string : (kind : StringKind) (bs : List ℕ) (b : Bool) → IsUtf8 bs →
    begins_with (quoted_front kind) bs ≡ true →
    IsTrue b ↔ BeginsBy (IsQuoted (chars (take (length (quoted_front kind)) bs)) (switches_of kind))
    (chars bs) → IsTrue b ↔ BeginsBy (IsString kind) (chars bs)
quoted_string kind bs b u begins is =
    let start : string_start kind (chars bs) ≡ quoted_start =
    ap (string_start kind) (sym (front_chars (quoted_front kind) bs (quoted_low kind) u begins))
    ∙ start_quoted kind (chars (drop (length (quoted_front kind)) bs)) in
    chain (subst (λ (front : List ℕ). IsTrue b ↔ BeginsBy (IsQuoted front (switches_of kind))
    (chars bs)) (front_taken (quoted_front kind) bs (quoted_low kind) begins) is)
    (back (quoted_string_begins kind (chars bs) start))

-- Raw

pub raw_string : (kind : StringKind) (bs : List ℕ) (b : Bool) → IsUtf8 bs →
    begins_with (raw_front kind) bs ≡ true →
    IsTrue b ↔ BeginsBy (IsRawOf (has_unicode kind) (allows_nul kind))
    (chars (drop (length (raw_front kind)) bs)) → IsTrue b ↔ BeginsBy (IsString kind) (chars bs)
raw_string kind bs b u begins is =
    let t = chars (drop (length (raw_front kind)) bs) in
    let whole : raw_front kind ++ t ≡ chars bs =
    front_chars (raw_front kind) bs (raw_low kind) u begins in
    let start : string_start kind (chars bs) ≡ raw_start = ap (string_start kind) (sym whole)
    ∙ start_raw kind t in
    let after : BeginsBy (IsRawOf (has_unicode kind) (allows_nul kind)) t
    ↔ BeginsBy (IsRawLiteral kind) (chars bs) =
    subst (λ (l : List ℕ). BeginsBy (IsRawOf (has_unicode kind) (allows_nul kind)) t
    ↔ BeginsBy (IsRawLiteral kind) l) whole (back (raw_begins_after kind t)) in
    chain is (chain after (back (raw_string_begins kind (chars bs) start)))

-- Neither

other_way : (a c : ℕ) → (a == c) ≡ false → (c == a) ≡ false
other_way a c h = ne_eqb c a (λ same. both_ways (a == c) h (eq-eqb a c (sym same)))

-- a character after the `c` that neither front has
two_goes : (c : ℕ) (t : List ℕ) → begins_with (codes "c\"") (99 ∷ c ∷ t) ≡ false →
    begins_with (codes "cr") (99 ∷ c ∷ t) ≡ false → start_goes_on c_string_kind (99 ∷ c ∷ t) ≡ false
two_goes c t quote raw =
    or_from _ _
    (and_left (c == 34) _ (other_way 34 c (alone (34 == c) quote)))
    (and_left (c == 114) _ (other_way 114 c (alone (114 == c) raw)))
  where
    alone : (b : Bool) → (b && true) ≡ false → b ≡ false
    alone true h = cc
    alone false h = refl

lone_goes : (t bs : List ℕ) → t ≡ chars bs → IsUtf8 bs → bs ≡ 99 ∷ drop 1 bs →
    begins_with (codes "c\"") t ≡ false → begins_with (codes "cr") t ≡ false →
    begins_with bs (codes "c") ≡ start_goes_on c_string_kind t
lone_goes t [] same u first quote raw = cc
lone_goes t (b ∷ []) same u first quote raw =
    let at : b ≡ 99 = cc in
    let whole : t ≡ 99 ∷ [] = same ∙ ap (λ k. chars (k ∷ [])) at ∙ chars_ascii 99 [] (omega arith)
    ∙ ap (λ l. 99 ∷ l) chars-nil in
    ap (λ k. begins_with (k ∷ []) (codes "c")) at ∙ sym (ap (start_goes_on c_string_kind) whole)
lone_goes t (b ∷ d ∷ bs) same u first quote raw = by (chars (d ∷ bs)) refl
  where
    at : b ≡ 99
    at = cc

    whole : t ≡ 99 ∷ chars (d ∷ bs)
    whole = same ∙ ap (λ k. chars (k ∷ d ∷ bs)) at ∙ chars_ascii 99 (d ∷ bs) (omega arith)

    some : is_empty (chars (d ∷ bs)) ≡ false
    some = chars_empty (d ∷ bs) (utf8_after_ascii b (d ∷ bs) (omega (arith, at)) u)
        ∙ ne_eqb (length (d ∷ bs)) 0 (λ h. omega arith)

    by : (s : List ℕ) → chars (d ∷ bs) ≡ s →
        begins_with (b ∷ d ∷ bs) (codes "c") ≡ start_goes_on c_string_kind t
    by [] is = absurd (both_ways _ some (ap is_empty is))
    by (c ∷ s) is =
        let text : t ≡ 99 ∷ c ∷ s = whole ∙ ap (λ l. 99 ∷ l) is in
        ap (λ k. begins_with (k ∷ d ∷ bs) (codes "c")) at
        ∙ sym (ap (start_goes_on c_string_kind) text
        ∙ two_goes c s (ap (begins_with (codes "c\"")) (sym text) ∙ quote)
        (ap (begins_with (codes "cr")) (sym text) ∙ raw))

pub lone_string : (bs : List ℕ) (b : Bool) → IsUtf8 bs → begins_with (codes "c") bs ≡ true →
    begins_with (codes "c\"") bs ≡ false → begins_with (codes "cr") bs ≡ false →
    b ≡ begins_with bs (codes "c") → IsTrue b ↔ BeginsBy (IsString c_string_kind) (chars bs)
lone_string bs b u begins quote raw answer =
    let t = chars bs in
    let no_quote : begins_with (codes "c\"") t ≡ false = begins_with-chars (codes "c\"") bs refl u
    ∙ quote in
    let no_raw : begins_with (codes "cr") t ≡ false = begins_with-chars (codes "cr") bs refl u
    ∙ raw in
    let start : string_start c_string_kind t ≡ refused_start (string_start_refusal c_string_kind) =
    rw (some bs u begins, no_quote, no_raw) refl in
    answer_is b (start_goes_on c_string_kind t)
    (answer ∙ lone_goes t bs refl u (first bs begins) no_quote no_raw)
    (back (start_begins c_string_kind t (string_start_refusal c_string_kind) start))
  where
    first : (bs : List ℕ) → begins_with (codes "c") bs ≡ true → bs ≡ 99 ∷ drop 1 bs
    first [] h = cc
    first (b ∷ bs) h = ap (λ k. k ∷ bs) (sym (eqb-true 99 b (alone (99 == b) h)))
      where
        alone : (v : Bool) → (v && true) ≡ true → v ≡ true
        alone true e = refl
        alone false e = cc

    some : (bs : List ℕ) → IsUtf8 bs → begins_with (codes "c") bs ≡ true →
        is_empty (chars bs) ≡ false
    some [] u h = cc
    some (b ∷ bs) u h = chars_empty (b ∷ bs) u ∙ ne_eqb (length (b ∷ bs)) 0 (λ e. omega arith)
