-- A scan for the first closing of a raw string that has come to some place.
use Rattle.std.proofs.Common.{◌≡◌, ℕ, suc, ◌+◌, Bool, true, false, cond, ltb, ◌||◌, List, [], ◌∷◌, ◌++◌, length, take, drop, get_or, Option, Some, None, refl, sym, ap, ◌∙◌, arith, length-append}
use Rattle.std.specs.Prelude.{if◌then◌else◌, not}
use Rattle.std.specs.List.{list_all, prefix_len}
use Rattle.std.proofs.Math.Seq.{take-append-add, drop-append-add}
use Rattle.std.proofs.lemmas.Bool.{and_parts, or_from}
use Rattle.std.proofs.lemmas.Bool.Decides.{nat_tests}
use Rattle.std.proofs.lemmas.List.{get_or-append-add}
use Rattle.litrs_base.specs.declared.err.ParseErrorKind.TheVariants as kind
use Rattle.litrs_base.specs.Refusal.{Refusal, without_span, at_byte}
use Rattle.litrs_base.specs.Text.{begins_with, byte_len}
use Rattle.litrs_base.proofs.Spans.{byte_len-append}
use Rattle.litrs_grammar.specs.Suffix.{is_suffix, suffix_kind}
use Rattle.litrs_grammar.specs.Raw.{raw_closing, hashes, occurs, length_before, is_raw_char, raw_char_kind, raw_body_refusal}
use Rattle.litrs_grammar.specs.Laws.Raw.{NoClosingIn, RawScansGoOn, RawRefusalsGoOn, RawBodiesEndAtClosings}
use Rattle.litrs_grammar.proofs.RawCuts.{closing_before_closing}

pub raw_scans_go_on : RawScansGoOn
raw_scans_go_on n [] t none = (omega arith, refl)
raw_scans_go_on n (c ∷ front) t none =
    let p = raw_closing n in
    let here : begins_with p (c ∷ (front ++ t)) ≡ false = none 0 (omega arith) in
    let more = raw_scans_go_on n front t (λ i below. none (suc i) (omega arith)) in (
      ap (λ v. cond v 0 (1 + length_before p (front ++ t))) here ∙ omega (arith, more.0),
      ap (λ v. v || occurs p (front ++ t)) here ∙ more.1,
    )

-- as many characters pass as pass at the front, which all do, and after it
prefix_len_after : (p : ℕ → Bool) (front t : List ℕ) → list_all p front ≡ true → prefix_len p (front ++ t) ≡ length front + prefix_len p t
prefix_len_after p [] t all = omega arith
prefix_len_after p (c ∷ front) t all =
    let parts = and_parts (p c) (list_all p front) all in
    let more = prefix_len_after p front t parts.1 in
    ap (λ v. cond v (1 + prefix_len p (front ++ t)) 0) parts.0 ∙ omega (arith, more)

ltb_after : (k a b : ℕ) → ltb (k + a) (k + b) ≡ ltb a b
ltb_after k a b = grind (arith, nat_tests)

-- the rows of a body, by what they look at
abbrev body_rows : Bool → ℕ → ℕ → Bool → List ℕ → ℕ → Option Refusal
body_rows refused place c closed suffix end =
    if refused then Some (at_byte place (raw_char_kind c))
    else if not closed then Some (without_span kind.UnterminatedRawString)
    else if not (is_suffix suffix) then Some (at_byte end (suffix_kind suffix))
    else None

same_rows : (b d : Bool) (place at_byte c e : ℕ) (closed still : Bool) (suffix after : List ℕ) (end stop : ℕ) → b ≡ d → place ≡ at_byte → c ≡ e → closed ≡ still →
    suffix ≡ after → end ≡ stop → body_rows b place c closed suffix end ≡ body_rows d at_byte e still after stop
same_rows b d place at_byte c e closed still suffix after end stop p q r s u v = λ i. body_rows (p i) (q i) (r i) (s i) (u i) (v i)

pub raw_refusals_go_on : RawRefusalsGoOn
unfolding raw_body_refusal
raw_refusals_go_on unicode allow_nul n start front t all none =
    let ok : ℕ → Bool = is_raw_char unicode allow_nul in
    let scan = raw_scans_go_on n front t none in
    let body : List ℕ = take (length_before (raw_closing n) t) t in
    let whole : List ℕ = take (length_before (raw_closing n) (front ++ t)) (front ++ t) in
    let whole_is : whole ≡ front ++ body = ap (λ k. take k (front ++ t)) scan.0 ∙ take-append-add front t (length_before (raw_closing n) t) in
    let size : length whole ≡ length front + length body = ap length whole_is ∙ length-append front body in
    let bytes : byte_len whole ≡ byte_len front + byte_len body = ap byte_len whole_is ∙ byte_len-append front body in
    let passed : prefix_len ok whole ≡ length front + prefix_len ok body = ap (prefix_len ok) whole_is ∙ prefix_len_after ok front body all in
    let before : byte_len (take (prefix_len ok whole) (front ++ t)) ≡ byte_len front + byte_len (take (prefix_len ok body) t) =
    ap (λ k. byte_len (take k (front ++ t))) passed ∙ ap byte_len (take-append-add front t (prefix_len ok body)) ∙ byte_len-append front (take (prefix_len ok body) t) in
    let after : length whole + (1 + n) ≡ length front + (length body + (1 + n)) = omega (arith, size) in
    same_rows _ _ _ _ _ _ _ _ _ _ _ _
    ((λ i. ltb (passed i) (size i)) ∙ ltb_after (length front) (prefix_len ok body) (length body))
    (omega (arith, before))
    (ap (λ k. get_or (front ++ t) k 0) passed ∙ get_or-append-add front t (prefix_len ok body) 0)
    scan.1
    (ap (λ k. drop k (front ++ t)) after ∙ drop-append-add front t (length body + (1 + n)))
    (omega (arith, bytes))

pub raw_bodies_end_at_closings : RawBodiesEndAtClosings
raw_bodies_end_at_closings unicode allow_nul n front t all none = record { allowed = all; unclosed = apart front none }
  where
    apart : (front : List ℕ) → NoClosingIn n front (raw_closing n ++ t) → occurs (raw_closing n) front ≡ false
    apart [] none = refl
    apart (c ∷ front) none =
        or_from _ _ (sym (closing_before_closing n c front (hashes n ++ t)) ∙ none 0 (omega arith)) (apart front (λ i below. none (suc i) (omega arith)))
