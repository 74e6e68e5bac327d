-- Refused raw texts under every appended text: which stay refused, and which some text completes.
use Rattle.std.proofs.Common.{◌≡◌, ℕ, zero, suc, ◌+◌, ◌≤◌, ◌⊎◌, inl, inr, Bool, true, false, not, cond, ltb, ◌&&◌, List, [], ◌∷◌, ◌++◌, length, take, drop, Option, Some, None, refl, sym, ap, subst, ◌∙◌, arith}
use Rattle.std.specs.Prelude.{◌==◌, ◌↔◌, if◌then◌else◌}
use Rattle.std.specs.List.{list_all, prefix_len, slice_index}
use Rattle.std.proofs.lemmas.Bool.{and_parts, and_from, true≢false, or_right, or_parts, eqb-true, le-ltb, lt-ltb, ltb-false}
use Rattle.std.proofs.lemmas.Bool.Decides.{nat_tests}
use Rattle.std.proofs.lemmas.List.{append_assoc, append-nil, length-append, take_at, drop_at}
use Rattle.std.proofs.Math.Seq.{take-append-add, take-length, get_or-append_seam}
use Rattle.std.proofs.lemmas.List.Folds.{list_all-append as all-append}
use Rattle.litrs_base.specs.declared.err.ParseErrorKind.TheVariants.{InvalidLiteral, TooManyHashes, UnterminatedRawString}
use Rattle.litrs_base.specs.Finality.{is_final, is_open}
use Rattle.litrs_base.specs.Characters.{is_scalar}
use Rattle.litrs_base.specs.Refusal.{Refusal, without_span, spanning, at_byte}
use Rattle.litrs_base.specs.Text.{IsText, byte_len, first_passes, begins_with}
use Rattle.litrs_base.proofs.Runs.{list_all-weaken, prefix_len_all, IsRun, run_of, last_passes, is_line_feed, last_passes-all, last_passes-append}
use Rattle.litrs_grammar.specs.Suffix.{is_suffix, suffix_kind}
use Rattle.litrs_grammar.specs.Raw.{is_quote, is_hash, hashes, raw_closing, occurs, is_raw_char, IsRawBody, RawParts, raw_text, IsRawOf, hash_len, length_before, raw_char_kind, raw_body_refusal, raw_refusal}
use Rattle.litrs_grammar.specs.GoesOn.Raw.{raw_open_parts, IsClosedRaw, RawRestGoesOn, RawGoesOn}
use Rattle.litrs_grammar.specs.LongerTexts.{BeginsBy, EndsBy}
use Rattle.litrs_grammar.proofs.Laws.Integer.{prefix_len_front}
use Rattle.litrs_grammar.proofs.LongerTexts.Escape.{never, keep}
use Rattle.litrs_grammar.proofs.LongerTexts.Suffix.{suffix_freed, suffix_final, is_suffix-nil, underscore_x}
use Rattle.litrs_grammar.proofs.LongerTexts.OpenRows.{shut_kind_if, shut_suffix}
use Rattle.litrs_grammar.proofs.RawCuts.{hashes_pass, length-hashes, hash_len-append, after_hashes, HashCut, hash_cut, closing_cut}
use Rattle.litrs_grammar.proofs.Laws.Raw.{raw_body_rows, raw_rows, refusal_of_hashes, refusal_of_closed, refused, refusal_free}

-- After n hashes and the quote: a text up to its first closing, or to the first character that is not allowed.

-- a raw body, and a character that no raw body contains
pub record IsStopped (unicode allow_nul : Bool) (n : ℕ) (t : List ℕ) : Type 0 where
  pub front : List ℕ
  pub character : ℕ
  pub after : List ℕ
  pub spells : front ++ character ∷ after ≡ t
  pub grammar : IsRawBody unicode allow_nul n front
  pub disallowed : is_raw_char unicode allow_nul character ≡ false

pub data RawScan (unicode allow_nul : Bool) (n : ℕ) (t : List ℕ) : Type 0 where
  stopped : IsStopped unicode allow_nul n t → RawScan unicode allow_nul n t
  closed : (after : List ℕ) → IsClosedRaw unicode allow_nul n t after → RawScan unicode allow_nul n t
  unclosed : IsRawBody unicode allow_nul n t → RawScan unicode allow_nul n t

-- every text is one of the three
pub raw_scan : (unicode allow_nul : Bool) (n : ℕ) (t : List ℕ) → RawScan unicode allow_nul n t
raw_scan unicode allow_nul n t = by (occurs (raw_closing n) run.front) refl
  where
    ok : ℕ → Bool
    ok = is_raw_char unicode allow_nul

    run : IsRun ok t
    run = run_of ok t

    at_rest : (rest : List ℕ) → run.front ++ rest ≡ t → first_passes ok rest ≡ false → occurs (raw_closing n) run.front ≡ false → RawScan unicode allow_nul n t
    at_rest [] spells stops none = unclosed (subst (IsRawBody unicode allow_nul n) (sym (append-nil run.front) ∙ spells) (record { allowed = run.passes; unclosed = none }))
    at_rest (c ∷ rest) spells stops none = stopped (record {
      front = run.front;
      character = c;
      after = rest;
      spells = spells;
      grammar = record { allowed = run.passes; unclosed = none };
      disallowed = stops;
    })

    by : (b : Bool) → occurs (raw_closing n) run.front ≡ b → RawScan unicode allow_nul n t
    by false none = at_rest run.rest run.spells run.stops none
    by true some =
        let cut = closing_cut n run.front some in
        closed (cut.after ++ run.rest) (record {
          body = cut.before;
          spells = ap (λ l. cut.before ++ l) (sym (append_assoc (raw_closing n) cut.after run.rest)) ∙ sym (append_assoc cut.before (raw_closing n ++ cut.after) run.rest)
              ∙ ap (λ l. l ++ run.rest) cut.spells ∙ run.spells;
          grammar = record {
            allowed = (and_parts _ _ (sym (all-append ok cut.before (raw_closing n ++ cut.after)) ∙ ap (list_all ok) cut.spells ∙ run.passes)).0;
            unclosed = cut.unclosed;
          };
        })

-- The rows that refuse each of the three.

other_than_hash : (c : ℕ) → is_hash c ≡ false → (35 == c) ≡ false
other_than_hash c h = grind (arith, nat_tests)

other_than_quote : (c : ℕ) → is_quote c ≡ false → (34 == c) ≡ false
other_than_quote c h = grind (arith, nat_tests)

-- Hashes do not reach past another character.
hashes_before : (n : ℕ) (s : List ℕ) (c : ℕ) (t : List ℕ) → is_hash c ≡ false → begins_with (hashes n) (s ++ c ∷ t) ≡ begins_with (hashes n) s
hashes_before zero s c t other = refl
hashes_before (suc n) [] c t other = ap (λ v. v && begins_with (hashes n) t) (other_than_hash c other)
hashes_before (suc n) (d ∷ s) c t other = ap (λ v. (35 == d) && v) (hashes_before n s c t other)

-- Nor does a closing: the first one follows it, if none precedes it.
length_before_past : (n : ℕ) (front : List ℕ) (c : ℕ) (t : List ℕ) → occurs (raw_closing n) front ≡ false → is_quote c ≡ false → is_hash c ≡ false →
    length_before (raw_closing n) (front ++ c ∷ t) ≡ length front + suc (length_before (raw_closing n) t)
length_before_past n [] c t none quote other =
    ap (λ v. cond (v && begins_with (hashes n) t) 0 (1 + length_before (raw_closing n) t)) (other_than_quote c quote) ∙ omega arith
length_before_past n (d ∷ front) c t none quote other =
    let parts : (begins_with (raw_closing n) (d ∷ front) ≡ false) × (occurs (raw_closing n) front ≡ false) = or_parts _ _ none in
    let here : begins_with (raw_closing n) (d ∷ (front ++ c ∷ t)) ≡ false = ap (λ v. (34 == d) && v) (hashes_before n front c t other) ∙ parts.0 in
    let more = length_before_past n front c t parts.1 quote other in
    ap (λ v. cond v 0 (1 + length_before (raw_closing n) (front ++ c ∷ t))) here ∙ omega (arith, more)

quote_allowed : (unicode allow_nul : Bool) (c : ℕ) → is_raw_char unicode allow_nul c ≡ false → is_quote c ≡ false
quote_allowed unicode allow_nul c bad = by (is_quote c) refl
  where
    by : (b : Bool) → is_quote c ≡ b → b ≡ false
    by false is = refl
    by true is = absurd (true≢false (sym (ap (is_raw_char unicode allow_nul) (eqb-true c 34 is) ∙ and_from _ _ refl (and_from _ _ (or_right unicode true refl) (or_right allow_nul true refl))) ∙ bad))

hash_allowed : (unicode allow_nul : Bool) (c : ℕ) → is_raw_char unicode allow_nul c ≡ false → is_hash c ≡ false
hash_allowed unicode allow_nul c bad = by (is_hash c) refl
  where
    by : (b : Bool) → is_hash c ≡ b → b ≡ false
    by false is = refl
    by true is = absurd (true≢false (sym (ap (is_raw_char unicode allow_nul) (eqb-true c 35 is) ∙ and_from _ _ refl (and_from _ _ (or_right unicode true refl) (or_right allow_nul true refl))) ∙ bad))

-- a character after a body that is not allowed there is refused
pub stopped_at : (unicode allow_nul : Bool) (n start : ℕ) (front : List ℕ) (c : ℕ) (t : List ℕ) → IsRawBody unicode allow_nul n front → is_raw_char unicode allow_nul c ≡ false →
    raw_body_refusal unicode allow_nul n start (front ++ c ∷ t) ≡ Some (at_byte (start + byte_len front) (raw_char_kind c))
unfolding raw_body_refusal
stopped_at unicode allow_nul n start front c t grammar bad =
    let ok = is_raw_char unicode allow_nul in
    let r : List ℕ = front ++ c ∷ t in
    let k : ℕ = length_before (raw_closing n) t in
    let first : length_before (raw_closing n) r ≡ length front + suc k =
    length_before_past n front c t grammar.unclosed (quote_allowed unicode allow_nul c bad) (hash_allowed unicode allow_nul c bad) in
    let body : take (length_before (raw_closing n) r) r ≡ front ++ c ∷ take k t = ap (λ m. take m r) first ∙ take-append-add front (c ∷ t) (suc k) in
    let allowed : prefix_len ok (front ++ c ∷ take k t) ≡ length front = prefix_len_front ok front (c ∷ take k t) grammar.allowed bad in
    let short : ltb (length front) (length (front ++ c ∷ take k t)) ≡ true = lt-ltb _ _ (omega (arith, length-append front (c ∷ take k t))) in
    let taken : take (length front) r ≡ front = take_at front (c ∷ t) (length front) refl in
    let character : slice_index r (length front) ≡ c = get_or-append_seam front c t 0 in
    rw (body, allowed, short, taken, character) refl

pub stopped_refusal : (unicode allow_nul : Bool) (n start : ℕ) (t : List ℕ) (x : IsStopped unicode allow_nul n t) →
    raw_body_refusal unicode allow_nul n start t ≡ Some (at_byte (start + byte_len x.front) (raw_char_kind x.character))
stopped_refusal unicode allow_nul n start t x =
    ap (raw_body_refusal unicode allow_nul n start) (sym x.spells) ∙ stopped_at unicode allow_nul n start x.front x.character x.after x.grammar x.disallowed

pub closed_refusal : (unicode allow_nul : Bool) (n start : ℕ) (t after : List ℕ) (x : IsClosedRaw unicode allow_nul n t after) →
    raw_body_refusal unicode allow_nul n start t ≡ (if not (is_suffix after) then Some (at_byte (start + (byte_len x.body + (1 + n))) (suffix_kind after)) else None)
closed_refusal unicode allow_nul n start t after x =
    let ok = is_raw_char unicode allow_nul in
    let all : ltb (prefix_len ok x.body) (length x.body) ≡ false = le-ltb _ _ (omega (arith, prefix_len_all ok x.body x.grammar.allowed)) in
    ap (raw_body_refusal unicode allow_nul n start) (sym x.spells)
    ∙ refusal_of_closed unicode allow_nul n start x.body after x.grammar.unclosed
    ∙ (λ j. raw_body_rows (start + byte_len (take (prefix_len ok x.body) (x.body ++ (raw_closing n ++ after)))) (start + (byte_len x.body + (1 + n)))
    (raw_char_kind (slice_index (x.body ++ (raw_closing n ++ after)) (prefix_len ok x.body))) (suffix_kind after) (all j) true (is_suffix after))

length_before_all : (n : ℕ) (t : List ℕ) → occurs (raw_closing n) t ≡ false → length_before (raw_closing n) t ≡ length t
length_before_all n [] none = refl
length_before_all n (c ∷ t) none =
    let parts : (begins_with (raw_closing n) (c ∷ t) ≡ false) × (occurs (raw_closing n) t ≡ false) = or_parts _ _ none in
    ap (λ v. cond v 0 (1 + length_before (raw_closing n) t)) parts.0 ∙ omega (arith, length_before_all n t parts.1)

pub unclosed_refusal : (unicode allow_nul : Bool) (n start : ℕ) (t : List ℕ) → IsRawBody unicode allow_nul n t → raw_body_refusal unicode allow_nul n start t ≡ Some (without_span UnterminatedRawString)
unfolding raw_body_refusal
unclosed_refusal unicode allow_nul n start t grammar =
    let ok = is_raw_char unicode allow_nul in
    let body : take (length_before (raw_closing n) t) t ≡ t = ap (λ m. take m t) (length_before_all n t grammar.unclosed) ∙ take-length t in
    let all : ltb (prefix_len ok t) (length t) ≡ false = le-ltb _ _ (omega (arith, prefix_len_all ok t grammar.allowed)) in
    rw (body, all, grammar.unclosed) refl

-- A scan stays that of every longer text, unless nothing closes the body.

abbrev stopped_more : (unicode allow_nul : Bool) (n : ℕ) (t more : List ℕ) → IsStopped unicode allow_nul n t → IsStopped unicode allow_nul n (t ++ more)
stopped_more unicode allow_nul n t more x = record {
  front = x.front;
  character = x.character;
  after = x.after ++ more;
  spells = sym (append_assoc x.front (x.character ∷ x.after) more) ∙ ap (λ l. l ++ more) x.spells;
  grammar = x.grammar;
  disallowed = x.disallowed;
}

abbrev closed_more : (unicode allow_nul : Bool) (n : ℕ) (t after more : List ℕ) → IsClosedRaw unicode allow_nul n t after → IsClosedRaw unicode allow_nul n (t ++ more) (after ++ more)
closed_more unicode allow_nul n t after more x = record {
  body = x.body;
  spells = ap (λ l. x.body ++ l) (sym (append_assoc (raw_closing n) after more)) ∙ sym (append_assoc x.body (raw_closing n ++ after) more) ∙ ap (λ l. l ++ more) x.spells;
  grammar = x.grammar;
}

-- a final refusal stays

suffix_row : (place : ℕ) (b : Bool) (t more : List ℕ) (r : Refusal) → is_suffix t ≡ b → is_final r.kind ≡ true →
    (if not b then Some (at_byte place (suffix_kind t)) else None) ≡ Some r → (if not (is_suffix (t ++ more)) then Some (at_byte place (suffix_kind (t ++ more))) else None) ≡ Some r
suffix_row place true t more r is final h = cc
suffix_row place false t more r is final h =
    let same : at_byte place (suffix_kind t) ≡ r = cc in
    let stays = suffix_final t more is (subst (λ e. is_final e.kind ≡ true) (sym same) final) in
    rw stays.0 (ap (λ k. Some (at_byte place k)) stays.1 ∙ h)

body_final : (unicode allow_nul : Bool) (n start : ℕ) (t more : List ℕ) (r : Refusal) → is_final r.kind ≡ true →
    raw_body_refusal unicode allow_nul n start t ≡ Some r → raw_body_refusal unicode allow_nul n start (t ++ more) ≡ Some r
body_final unicode allow_nul n start t more r final h = by (raw_scan unicode allow_nul n t)
  where
    by : RawScan unicode allow_nul n t → raw_body_refusal unicode allow_nul n start (t ++ more) ≡ Some r
    by (stopped x) =
        stopped_refusal unicode allow_nul n start (t ++ more) (stopped_more unicode allow_nul n t more x) ∙ sym (stopped_refusal unicode allow_nul n start t x) ∙ h
    by (closed after x) =
        closed_refusal unicode allow_nul n start (t ++ more) (after ++ more) (closed_more unicode allow_nul n t after more x)
        ∙ suffix_row (start + (byte_len x.body + (1 + n))) (is_suffix after) after more r refl final (sym (closed_refusal unicode allow_nul n start t after x) ∙ h)
    by (unclosed grammar) = never (without_span UnterminatedRawString) r refl final (sym (unclosed_refusal unicode allow_nul n start t grammar) ∙ h)

-- the table for a text of n hashes and another character
pub rows_of : (unicode allow_nul : Bool) (start n c : ℕ) (t : List ℕ) → is_hash c ≡ false →
    raw_refusal unicode allow_nul start (hashes n ++ c ∷ t) ≡ raw_rows start n (raw_body_refusal unicode allow_nul n (start + (n + 1)) t) false (ltb 255 n) (is_quote c)
rows_of unicode allow_nul start n c t stops = refusal_of_hashes unicode allow_nul start n (c ∷ t) stops

pub rows_of_nothing : (unicode allow_nul : Bool) (start n : ℕ) → raw_refusal unicode allow_nul start (hashes n ++ []) ≡ Some (without_span InvalidLiteral)
rows_of_nothing unicode allow_nul start n = refusal_of_hashes unicode allow_nul start n [] refl

-- a raw text refused with a final kind is refused alike whatever is appended
pub raw_final : (unicode allow_nul : Bool) (start : ℕ) (t more : List ℕ) (r : Refusal) → is_final r.kind ≡ true →
    raw_refusal unicode allow_nul start t ≡ Some r → raw_refusal unicode allow_nul start (t ++ more) ≡ Some r
raw_final unicode allow_nul start t more r final h = by cut.rest cut.spells cut.stops
  where
    cut : HashCut t
    cut = hash_cut t

    by : (rest : List ℕ) → hashes cut.count ++ rest ≡ t → first_passes is_hash rest ≡ false → raw_refusal unicode allow_nul start (t ++ more) ≡ Some r
    by [] spells stops = never (without_span InvalidLiteral) r refl final (sym (rows_of_nothing unicode allow_nul start cut.count) ∙ ap (raw_refusal unicode allow_nul start) spells ∙ h)
    by (c ∷ rest) spells stops =
        ap (raw_refusal unicode allow_nul start) (ap (λ l. l ++ more) (sym spells) ∙ append_assoc (hashes cut.count) (c ∷ rest) more)
        ∙ rows_of unicode allow_nul start cut.count c (rest ++ more) stops
        ∙ keep (ltb 255 cut.count) _ _ _ _ r (λ e. e)
        (keep (not (is_quote c)) _ _ _ _ r (λ e. e) (body_final unicode allow_nul cut.count (start + (cut.count + 1)) rest more r final))
        (sym (rows_of unicode allow_nul start cut.count c rest stops) ∙ ap (raw_refusal unicode allow_nul start) spells ∙ h)

-- after a final refusal no extension of the text is a raw literal
pub raw_finality : (unicode allow_nul : Bool) (start : ℕ) (t : List ℕ) (r : Refusal) → raw_refusal unicode allow_nul start t ≡ Some r → is_final r.kind ≡ true →
    EndsBy (IsRawOf unicode allow_nul) t
raw_finality unicode allow_nul start t r h final more d = refused unicode allow_nul start (t ++ more) r (raw_final unicode allow_nul start t more r final h) d

-- Texts that begin a raw literal.

-- incomplete texts, by the cut at the hashes
abbrev pub CutGoesOn : (unicode allow_nul : Bool) (n : ℕ) → List ℕ → Type 0
CutGoesOn unicode allow_nul n rest = (n ≤ 255) × RawRestGoesOn unicode allow_nul n rest

pub from_cut : (unicode allow_nul : Bool) (n : ℕ) (rest : List ℕ) → first_passes is_hash rest ≡ false → CutGoesOn unicode allow_nul n rest → RawGoesOn unicode allow_nul (hashes n ++ rest)
from_cut unicode allow_nul n rest stops goes_on =
    let count : hash_len (hashes n ++ rest) ≡ n = hash_len-append n rest stops in
    let after : drop (hash_len (hashes n ++ rest)) (hashes n ++ rest) ≡ rest = ap (λ k. drop k (hashes n ++ rest)) count ∙ after_hashes n rest in
    subst (λ l. CutGoesOn unicode allow_nul (hash_len (hashes n ++ rest)) l) (sym after) (subst (λ k. CutGoesOn unicode allow_nul k rest) (sym count) goes_on)

pub to_cut : (unicode allow_nul : Bool) (n : ℕ) (rest : List ℕ) → first_passes is_hash rest ≡ false → RawGoesOn unicode allow_nul (hashes n ++ rest) → CutGoesOn unicode allow_nul n rest
to_cut unicode allow_nul n rest stops goes_on =
    let count : hash_len (hashes n ++ rest) ≡ n = hash_len-append n rest stops in
    let after : drop (hash_len (hashes n ++ rest)) (hashes n ++ rest) ≡ rest = ap (λ k. drop k (hashes n ++ rest)) count ∙ after_hashes n rest in
    subst (λ k. CutGoesOn unicode allow_nul k rest) count (subst (λ l. CutGoesOn unicode allow_nul (hash_len (hashes n ++ rest)) l) after goes_on)

-- a longer text has no fewer hashes
hash_len_least : (n : ℕ) (t : List ℕ) → n ≤ hash_len (hashes n ++ t)
hash_len_least zero t = omega arith
hash_len_least (suc n) t = omega (arith, hash_len_least n t)

no_suffix_row : (place : ℕ) (b : Bool) (t : List ℕ) (r : Refusal) → (if not b then Some (at_byte place (suffix_kind t)) else None) ≡ Some r → b ≡ false
no_suffix_row place true t r h = cc
no_suffix_row place false t r h = refl

suffix_row_free : (place : ℕ) (b : Bool) (t : List ℕ) → (if not b then Some (at_byte place (suffix_kind t)) else None) ≡ None → b ≡ true
suffix_row_free place true t h = refl
suffix_row_free place false t h = cc

body_longer : (unicode allow_nul : Bool) (n start : ℕ) (t more : List ℕ) (r : Refusal) → raw_body_refusal unicode allow_nul n start t ≡ Some r →
    raw_body_refusal unicode allow_nul n start (t ++ more) ≡ None → IsRawBody unicode allow_nul n t ⊎ IsClosedRaw unicode allow_nul n t (95 ∷ [])
body_longer unicode allow_nul n start t more r h free = by (raw_scan unicode allow_nul n t)
  where
    by : RawScan unicode allow_nul n t → IsRawBody unicode allow_nul n t ⊎ IsClosedRaw unicode allow_nul n t (95 ∷ [])
    by (unclosed grammar) = inl grammar
    by (stopped x) =
        absurd (let none : Some _ ≡ None = sym (stopped_refusal unicode allow_nul n start (t ++ more) (stopped_more unicode allow_nul n t more x)) ∙ free in cc)
    by (closed after x) =
        let here = no_suffix_row _ (is_suffix after) after r (sym (closed_refusal unicode allow_nul n start t after x) ∙ h) in
        let there = suffix_row_free _ (is_suffix (after ++ more)) (after ++ more)
        (sym (closed_refusal unicode allow_nul n start (t ++ more) (after ++ more) (closed_more unicode allow_nul n t after more x)) ∙ free) in
        inr (subst (IsClosedRaw unicode allow_nul n t) (suffix_freed after more here there) x)

rows_longer : (start n : ℕ) (few quote : Bool) (o p : Option Refusal) (r : Refusal) → raw_rows start n o false few quote ≡ Some r → raw_rows start n p false few quote ≡ None →
    (few ≡ false) × (quote ≡ true) × (o ≡ Some r) × (p ≡ None)
rows_longer start n true quote o p r h free = cc
rows_longer start n false false o p r h free = cc
rows_longer start n false true o p r h free = (refl, refl, h, free)

-- a refused text that some longer text makes a raw literal
pub raw_longer : (unicode allow_nul : Bool) (start : ℕ) (t more : List ℕ) (r : Refusal) (d : RawParts) → raw_refusal unicode allow_nul start t ≡ Some r →
    IsRawOf unicode allow_nul (t ++ more) d → RawGoesOn unicode allow_nul t
raw_longer unicode allow_nul start t more r d h raw = by cut.rest cut.spells cut.stops
  where
    cut : HashCut t
    cut = hash_cut t

    free : raw_refusal unicode allow_nul start (t ++ more) ≡ None
    free = refusal_free unicode allow_nul start (t ++ more) d raw

    by : (rest : List ℕ) → hashes cut.count ++ rest ≡ t → first_passes is_hash rest ≡ false → RawGoesOn unicode allow_nul t
    by [] spells stops =
        let same : hashes cut.count ++ more ≡ raw_text d = ap (λ l. l ++ more) (sym (append-nil (hashes cut.count)) ∙ spells) ∙ sym raw.spells in
        let count : hash_len (raw_text d) ≡ d.hash_count = hash_len-append d.hash_count (34 ∷ (d.body ++ (raw_closing d.hash_count ++ d.suffix))) refl in
        let most : d.hash_count ≤ 255 = raw.grammar.hash_count in
        let least : cut.count ≤ hash_len (raw_text d) = subst (λ l. cut.count ≤ hash_len l) same (hash_len_least cut.count more) in
        subst (RawGoesOn unicode allow_nul) spells (from_cut unicode allow_nul cut.count [] refl (omega arith, tt))
    by (c ∷ rest) spells stops =
        let longer : t ++ more ≡ hashes cut.count ++ c ∷ (rest ++ more) = ap (λ l. l ++ more) (sym spells) ∙ append_assoc (hashes cut.count) (c ∷ rest) more in
        let rows = rows_longer start cut.count (ltb 255 cut.count) (is_quote c) _ _ r
        (sym (rows_of unicode allow_nul start cut.count c rest stops) ∙ ap (raw_refusal unicode allow_nul start) spells ∙ h)
        (sym (rows_of unicode allow_nul start cut.count c (rest ++ more) stops) ∙ ap (raw_refusal unicode allow_nul start) (sym longer) ∙ free) in
        subst (RawGoesOn unicode allow_nul) spells (from_cut unicode allow_nul cut.count (c ∷ rest) stops
        (ltb-false 255 cut.count rows.0, (eqb-true c 34 rows.1, body_longer unicode allow_nul cut.count (start + (cut.count + 1)) rest more r rows.2 rows.3)))

-- Texts that complete them.

hash_scalar : (c : ℕ) → is_hash c ≡ true → is_scalar c ≡ true
hash_scalar c h = subst (λ d. is_scalar d ≡ true) (sym (eqb-true c 35 h)) refl

pub closing_is_text : (n : ℕ) → IsText (raw_closing n)
closing_is_text n = list_all-weaken _ _ hash_scalar (hashes n) (hashes_pass n)

-- the parts of a body that its closing closes, and of one that is closed already, with a suffix
closed_parts : (unicode allow_nul : Bool) (n : ℕ) (body suffix t : List ℕ) → n ≤ 255 → IsRawBody unicode allow_nul n body → is_suffix suffix ≡ true →
    hashes n ++ (34 ∷ (body ++ (raw_closing n ++ suffix))) ≡ t → IsRawOf unicode allow_nul t (record { hash_count = n; body = body; suffix = suffix })
closed_parts unicode allow_nul n body suffix t few grammar is spells = record { spells = spells; grammar = record { hash_count = few; body = grammar; suffix = is } }

-- the closing text makes what is not closed a literal
closes : (unicode allow_nul : Bool) (n : ℕ) (body t : List ℕ) → hashes n ++ 34 ∷ body ≡ t → n ≤ 255 → IsRawBody unicode allow_nul n body →
    IsRawOf unicode allow_nul (t ++ raw_closing n) (record { hash_count = n; body = body; suffix = [] })
closes unicode allow_nul n body t spells few grammar =
    closed_parts unicode allow_nul n body [] (t ++ raw_closing n) few grammar is_suffix-nil
    (ap (λ l. hashes n ++ 34 ∷ (body ++ l)) (append-nil (raw_closing n)) ∙ sym (append_assoc (hashes n) (34 ∷ body) (raw_closing n)) ∙ ap (λ l. l ++ raw_closing n) spells)

completed : (unicode allow_nul : Bool) (n : ℕ) (rest t : List ℕ) → hashes n ++ rest ≡ t → CutGoesOn unicode allow_nul n rest → BeginsBy (IsRawOf unicode allow_nul) t
completed unicode allow_nul n [] t spells (few, goes_on) = (
  34 ∷ raw_closing n,
  record { hash_count = n; body = []; suffix = [] },
  closing_is_text n,
  closed_parts unicode allow_nul n [] [] (t ++ 34 ∷ raw_closing n) few (record { allowed = refl; unclosed = refl }) is_suffix-nil
      (ap (λ l. hashes n ++ 34 ∷ l) (append-nil (raw_closing n)) ∙ ap (λ l. l ++ 34 ∷ raw_closing n) (sym (append-nil (hashes n)) ∙ spells)),
)
completed unicode allow_nul n (c ∷ body) t spells (few, (quote, inl grammar)) = (
  raw_closing n,
  record { hash_count = n; body = body; suffix = [] },
  closing_is_text n,
  closes unicode allow_nul n body t (ap (λ q. hashes n ++ q ∷ body) (sym quote) ∙ spells) few grammar,
)
completed unicode allow_nul n (c ∷ rest) t spells (few, (quote, inr x)) = (
  120 ∷ [],
  record { hash_count = n; body = x.body; suffix = 95 ∷ 120 ∷ [] },
  refl,
  closed_parts unicode allow_nul n x.body (95 ∷ 120 ∷ []) (t ++ 120 ∷ []) few x.grammar underscore_x
      (ap (λ l. hashes n ++ 34 ∷ l) ((closed_more unicode allow_nul n rest (95 ∷ []) (120 ∷ []) x).spells) ∙ sym (append_assoc (hashes n) (34 ∷ rest) (120 ∷ []))
      ∙ ap (λ l. l ++ 120 ∷ []) (ap (λ q. hashes n ++ q ∷ rest) (sym quote) ∙ spells)),
)

-- a refused text after a front begins a raw literal if and only if it is incomplete
pub raw_begins : (unicode allow_nul : Bool) (start : ℕ) (t : List ℕ) (r : Refusal) → raw_refusal unicode allow_nul start t ≡ Some r →
    BeginsBy (IsRawOf unicode allow_nul) t ↔ RawGoesOn unicode allow_nul t
raw_begins unicode allow_nul start t r h = (
  λ begins. raw_longer unicode allow_nul start t begins.0 r begins.1 h begins.3,
  λ goes_on. (let cut = hash_cut t in
      completed unicode allow_nul cut.count cut.rest t cut.spells (to_cut unicode allow_nul cut.count cut.rest cut.stops (subst (RawGoesOn unicode allow_nul) (sym cut.spells) goes_on))),
)

-- Open refusals.

shut_character : (c : ℕ) → is_open (raw_char_kind c) ≡ false
shut_character c = search shut_kind_if

not_open : {A : Type 0} (k r : Refusal) → is_open k.kind ≡ false → is_open r.kind ≡ true → Some k ≡ Some r → A
not_open k r shut is same = let at_byte : k ≡ r = cc in absurd (true≢false (sym is ∙ subst (λ e. is_open e.kind ≡ false) at_byte shut))

open_body : (unicode allow_nul : Bool) (n start : ℕ) (t : List ℕ) (r : Refusal) → is_open r.kind ≡ true → raw_body_refusal unicode allow_nul n start t ≡ Some r → IsRawBody unicode allow_nul n t
open_body unicode allow_nul n start t r is h = by (raw_scan unicode allow_nul n t)
  where
    by : RawScan unicode allow_nul n t → IsRawBody unicode allow_nul n t
    by (unclosed grammar) = grammar
    by (stopped x) =
        not_open (at_byte (start + byte_len x.front) (raw_char_kind x.character)) r (shut_character x.character) is (sym (stopped_refusal unicode allow_nul n start t x) ∙ h)
    by (closed after x) = suffix (is_suffix after) (sym (closed_refusal unicode allow_nul n start t after x) ∙ h)
      where
        suffix : (b : Bool) → (if not b then Some (at_byte (start + (byte_len x.body + (1 + n))) (suffix_kind after)) else None) ≡ Some r → IsRawBody unicode allow_nul n t
        suffix true e = cc
        suffix false e = not_open (at_byte (start + (byte_len x.body + (1 + n))) (suffix_kind after)) r (shut_suffix after) is e

rows_open : (start n : ℕ) (few quote : Bool) (o : Option Refusal) (r : Refusal) → is_open r.kind ≡ true → raw_rows start n o false few quote ≡ Some r →
    (few ≡ false) × (quote ≡ true) × (o ≡ Some r)
rows_open start n true quote o r is h = not_open (spanning start (start + n) TooManyHashes) r refl is h
rows_open start n false false o r is h = not_open (without_span InvalidLiteral) r refl is h
rows_open start n false true o r is h = (refl, refl, h)

-- the text after the hashes and the quote of an open text is a raw body
record IsOpenRaw (unicode allow_nul : Bool) (t : List ℕ) : Type 0 where
  hash_count : ℕ
  body : List ℕ
  spells : hashes hash_count ++ 34 ∷ body ≡ t
  few : hash_count ≤ 255
  grammar : IsRawBody unicode allow_nul hash_count body

open_cut : (unicode allow_nul : Bool) (start : ℕ) (t : List ℕ) (r : Refusal) → is_open r.kind ≡ true → raw_refusal unicode allow_nul start t ≡ Some r → IsOpenRaw unicode allow_nul t
open_cut unicode allow_nul start t r is h = by cut.rest cut.spells cut.stops
  where
    cut : HashCut t
    cut = hash_cut t

    by : (rest : List ℕ) → hashes cut.count ++ rest ≡ t → first_passes is_hash rest ≡ false → IsOpenRaw unicode allow_nul t
    by [] spells stops = not_open (without_span InvalidLiteral) r refl is (sym (rows_of_nothing unicode allow_nul start cut.count) ∙ ap (raw_refusal unicode allow_nul start) spells ∙ h)
    by (c ∷ rest) spells stops =
        let rows = rows_open start cut.count (ltb 255 cut.count) (is_quote c) _ r is
        (sym (rows_of unicode allow_nul start cut.count c rest stops) ∙ ap (raw_refusal unicode allow_nul start) spells ∙ h) in
        record {
          hash_count = cut.count;
          body = rest;
          spells = ap (λ q. hashes cut.count ++ q ∷ rest) (sym (eqb-true c 34 rows.1)) ∙ spells;
          few = ltb-false 255 cut.count rows.0;
          grammar = open_body unicode allow_nul cut.count (start + (cut.count + 1)) rest r is rows.2;
        }

-- the closing text makes a text that is refused as open a literal
pub raw_open : (unicode allow_nul : Bool) (start : ℕ) (t : List ℕ) (r : Refusal) → is_open r.kind ≡ true → raw_refusal unicode allow_nul start t ≡ Some r →
    IsRawOf unicode allow_nul (t ++ raw_closing (hash_len t)) (raw_open_parts t)
raw_open unicode allow_nul start t r is h =
    let x = open_cut unicode allow_nul start t r is h in
    let n = x.hash_count in
    let count : hash_len t ≡ n = ap hash_len (sym x.spells) ∙ hash_len-append n (34 ∷ x.body) refl in
    let after : drop (n + 1) (hashes n ++ 34 ∷ x.body) ≡ x.body = ap (drop (n + 1)) (sym (append_assoc (hashes n) (34 ∷ []) x.body))
    ∙ drop_at (hashes n ++ 34 ∷ []) x.body (n + 1) (length-append (hashes n) (34 ∷ []) ∙ omega (arith, length-hashes n)) in
    let body : drop (hash_len t + 1) t ≡ x.body = ap (λ k. drop (k + 1) t) count ∙ ap (drop (n + 1)) (sym x.spells) ∙ after in
    subst (λ k. IsRawOf unicode allow_nul (t ++ raw_closing k) (record { hash_count = k; body = drop (hash_len t + 1) t; suffix = [] })) (sym count)
    (subst (λ b. IsRawOf unicode allow_nul (t ++ raw_closing n) (record { hash_count = n; body = b; suffix = [] })) (sym body)
    (closes unicode allow_nul n x.body t x.spells x.few x.grammar))

-- Texts that end with LF.

-- an open body is refused as open
open_refusal : (unicode allow_nul : Bool) (start : ℕ) (t : List ℕ) → IsOpenRaw unicode allow_nul t → raw_refusal unicode allow_nul start t ≡ Some (without_span UnterminatedRawString)
open_refusal unicode allow_nul start t x =
    let n = x.hash_count in
    ap (raw_refusal unicode allow_nul start) (sym x.spells) ∙ rows_of unicode allow_nul start n 34 x.body refl
    ∙ (λ j. raw_rows start n (unclosed_refusal unicode allow_nul n (start + (n + 1)) x.body x.grammar j) false (le-ltb 255 n x.few j) true)

hashes_last : (n : ℕ) → last_passes is_line_feed (hashes n) ≡ false
hashes_last n = last_passes-all is_hash is_line_feed (λ c h. grind (arith, nat_tests)) (hashes n) (hashes_pass n)

closed_last : (n : ℕ) (body : List ℕ) → last_passes is_line_feed (hashes n ++ 34 ∷ (body ++ (raw_closing n ++ 95 ∷ []))) ≡ false
closed_last n body =
    last_passes-append is_line_feed (hashes n) 34 (body ++ (raw_closing n ++ 95 ∷ [])) ∙ last_passes-append is_line_feed (34 ∷ body) 34 (hashes n ++ 95 ∷ [])
    ∙ last_passes-append is_line_feed (34 ∷ hashes n) 95 []

-- a refused text that ends with LF can be continued only if its body is open
line_end_open : (unicode allow_nul : Bool) (t : List ℕ) → last_passes is_line_feed t ≡ true → RawGoesOn unicode allow_nul t → IsOpenRaw unicode allow_nul t
line_end_open unicode allow_nul t last goes_on = by cut.rest cut.spells (to_cut unicode allow_nul cut.count cut.rest cut.stops (subst (RawGoesOn unicode allow_nul) (sym cut.spells) goes_on))
  where
    cut : HashCut t
    cut = hash_cut t

    never_last : (s : List ℕ) → s ≡ t → last_passes is_line_feed s ≡ false → IsOpenRaw unicode allow_nul t
    never_last s same other = absurd (true≢false (sym last ∙ ap (last_passes is_line_feed) (sym same) ∙ other))

    by : (rest : List ℕ) → hashes cut.count ++ rest ≡ t → CutGoesOn unicode allow_nul cut.count rest → IsOpenRaw unicode allow_nul t
    by [] spells (few, goes_on) = never_last (hashes cut.count) (sym (append-nil (hashes cut.count)) ∙ spells) (hashes_last cut.count)
    by (c ∷ rest) spells (few, (quote, inl grammar)) =
        record { hash_count = cut.count; body = rest; spells = ap (λ q. hashes cut.count ++ q ∷ rest) (sym quote) ∙ spells; few = few; grammar = grammar }
    by (c ∷ rest) spells (few, (quote, inr x)) =
        never_last (hashes cut.count ++ 34 ∷ (x.body ++ (raw_closing cut.count ++ 95 ∷ [])))
        (ap (λ l. hashes cut.count ++ 34 ∷ l) x.spells ∙ ap (λ q. hashes cut.count ++ q ∷ rest) (sym quote) ∙ spells) (closed_last cut.count x.body)

-- a refused text that ends with LF begins a raw literal if and only if its refusal is open
pub raw_line_end : (unicode allow_nul : Bool) (start : ℕ) (t : List ℕ) (r : Refusal) → last_passes is_line_feed t ≡ true → raw_refusal unicode allow_nul start t ≡ Some r →
    (is_open r.kind ≡ true) ↔ BeginsBy (IsRawOf unicode allow_nul) t
raw_line_end unicode allow_nul start t r last h = (
  λ is. (raw_closing (hash_len t), raw_open_parts t, closing_is_text (hash_len t), raw_open unicode allow_nul start t r is h),
  λ begins. (let x = line_end_open unicode allow_nul t last ((raw_begins unicode allow_nul start t r h).0 begins) in
      let same : without_span UnterminatedRawString ≡ r = (let told : Some (without_span UnterminatedRawString) ≡ Some r = sym (open_refusal unicode allow_nul start t x) ∙ h in cc) in
      subst (λ e. is_open e.kind ≡ true) same refl),
)

-- the kind of an open refusal
pub raw_open_kind : (unicode allow_nul : Bool) (start : ℕ) (t : List ℕ) (r : Refusal) → is_open r.kind ≡ true → raw_refusal unicode allow_nul start t ≡ Some r →
    UnterminatedRawString ≡ r.kind
raw_open_kind unicode allow_nul start t r is h =
    let told : Some (without_span UnterminatedRawString) ≡ Some r = sym (open_refusal unicode allow_nul start t (open_cut unicode allow_nul start t r is h)) ∙ h in
    let same : without_span UnterminatedRawString ≡ r = cc in ap (λ e. e.kind) same
