-- Raw strings: a text has a derivation if and only if the table has no row, and at most one.
use Rattle.std.proofs.Common.{◌≡◌, ℕ, suc, ◌+◌, Bool, true, false, ltb, List, [], ◌∷◌, ◌++◌, length, take, drop, Option, None, refl, sym, ap, ◌∙◌, arith, subst, Some}
use Rattle.std.specs.List.{prefix_len, slice_index}
use Rattle.std.proofs.lemmas.Bool.{false≢true, eqb-true, ltb-false, le-ltb, not-false}
use Rattle.std.proofs.lemmas.List.{take_at, drop_at, length-append, append_assoc}
use Rattle.litrs_base.specs.declared.err.ParseErrorKind.{ParseErrorKind}
use Rattle.litrs_base.specs.Refusal.{Refusal, without_span, spanning, at_byte}
use Rattle.litrs_base.specs.Text.{is_empty, byte_len, first_passes}
use Rattle.litrs_grammar.specs.Suffix.{is_suffix, suffix_kind}
use Rattle.std.specs.Prelude.{not, if◌then◌else◌}
use Rattle.litrs_base.specs.declared.err.ParseErrorKind.TheVariants.{InvalidLiteral, TooManyHashes, UnterminatedRawString}
use Rattle.litrs_grammar.specs.Raw.{is_quote, is_hash, hashes, raw_closing, occurs, is_raw_char, RawParts, raw_text, IsRaw, IsRawOf, hash_len, length_before, raw_char_kind, raw_body_refusal, raw_refusal}
use Rattle.litrs_base.specs.Derivations.{IsOnlyDerivation, HasNoDerivation}
use Rattle.litrs_base.proofs.Runs.{prefix_len_all, all_from_prefix_len}
use Rattle.litrs_base.proofs.Spans.{none_from}
use Rattle.litrs_grammar.proofs.RawCuts.{length-hashes, hash_len-append, after_hashes, hash_cut, length_before-body, occurs-body, ClosingCut, closing_cut}

-- The rows after the opening quote, by three tests of the text. A character that the body may not
-- contain precedes the first closing; there is a closing; a suffix follows it.
abbrev pub raw_body_rows : (place suffix_place : ℕ) (kind kind_of_suffix : ParseErrorKind) (refused closed suffix : Bool) → Option Refusal
raw_body_rows place suffix_place kind kind_of_suffix refused closed suffix =
    if refused then Some (at_byte place kind)
    else if not closed then Some (without_span UnterminatedRawString)
    else if not suffix then Some (at_byte suffix_place kind_of_suffix)
    else None

-- The rows before it: nothing is after the hashes; there are too many; `"` is after them.
abbrev pub raw_rows : (start n : ℕ) (body_refusal : Option Refusal) (nothing too_many quote : Bool) → Option Refusal
raw_rows start n body_refusal nothing too_many quote =
    if nothing then Some (without_span InvalidLiteral)
    else if too_many then Some (spanning start (start + n) TooManyHashes)
    else if not quote then Some (without_span InvalidLiteral)
    else body_refusal

-- the table by the parts of a text that is cut

pub refusal_of_hashes : (unicode allow_nul : Bool) (start n : ℕ) (rest : List ℕ) → first_passes is_hash rest ≡ false →
    raw_refusal unicode allow_nul start (hashes n ++ rest)
    ≡ raw_rows start n (raw_body_refusal unicode allow_nul n (start + (n + 1)) (drop 1 rest)) (is_empty rest) (ltb 255 n) (first_passes is_quote rest)
unfolding raw_refusal
refusal_of_hashes unicode allow_nul start n rest stop =
    let count : hash_len (hashes n ++ rest) ≡ n = hash_len-append n rest stop in
    let after : drop (hash_len (hashes n ++ rest)) (hashes n ++ rest) ≡ rest = ap (λ k. drop k (hashes n ++ rest)) count ∙ after_hashes n rest in
    λ j. raw_rows start (count j) (raw_body_refusal unicode allow_nul (count j) (start + (count j + 1)) (drop 1 (after j))) (is_empty (after j)) (ltb 255 (count j)) (first_passes is_quote (after j))

-- the texts before the first closing and after it
pub before_closing : (n : ℕ) (body x : List ℕ) → occurs (raw_closing n) body ≡ false →
    take (length_before (raw_closing n) (body ++ (raw_closing n ++ x))) (body ++ (raw_closing n ++ x)) ≡ body
before_closing n body x none = take_at body (raw_closing n ++ x) (length_before (raw_closing n) (body ++ (raw_closing n ++ x))) (sym (length_before-body n body x none))

pub length_closing : (n : ℕ) → length (raw_closing n) ≡ 1 + n
length_closing n = omega (arith, length-hashes n)

pub after_closing : (n : ℕ) (body x : List ℕ) → drop (length body + (1 + n)) (body ++ (raw_closing n ++ x)) ≡ x
after_closing n body x =
    ap (drop (length body + (1 + n))) (sym (append_assoc body (raw_closing n) x))
    ∙ drop_at (body ++ raw_closing n) x (length body + (1 + n)) (length-append body (raw_closing n) ∙ ap (λ k. length body + k) (length_closing n))

pub refusal_of_closed : (unicode allow_nul : Bool) (n start : ℕ) (body x : List ℕ) → occurs (raw_closing n) body ≡ false →
    raw_body_refusal unicode allow_nul n start (body ++ (raw_closing n ++ x))
    ≡ raw_body_rows (start + byte_len (take (prefix_len (is_raw_char unicode allow_nul) body) (body ++ (raw_closing n ++ x)))) (start + (byte_len body + (1 + n)))
    (raw_char_kind (slice_index (body ++ (raw_closing n ++ x)) (prefix_len (is_raw_char unicode allow_nul) body))) (suffix_kind x)
    (ltb (prefix_len (is_raw_char unicode allow_nul) body) (length body)) true (is_suffix x)
unfolding raw_body_refusal
refusal_of_closed unicode allow_nul n start body x none =
    let ok = is_raw_char unicode allow_nul in
    let r : List ℕ = body ++ (raw_closing n ++ x) in
    let before : take (length_before (raw_closing n) r) r ≡ body = before_closing n body x none in
    let after : drop (length (take (length_before (raw_closing n) r) r) + (1 + n)) r ≡ x = ap (λ b. drop (length b + (1 + n)) r) before ∙ after_closing n body x in
    let closed : occurs (raw_closing n) r ≡ true = occurs-body n body x in
    λ j. raw_body_rows (start + byte_len (take (prefix_len ok (before j)) r)) (start + (byte_len (before j) + (1 + n)))
    (raw_char_kind (slice_index r (prefix_len ok (before j)))) (suffix_kind (after j))
    (ltb (prefix_len ok (before j)) (length (before j))) (closed j) (is_suffix (after j))

-- if no row fits

record NoBodyRow (refused closed suffix : Bool) : Type 0 where
  allowed : refused ≡ false
  closing : closed ≡ true
  after : suffix ≡ true

no_body_row : (place suffix_place : ℕ) (kind kind_of_suffix : ParseErrorKind) (refused closed suffix : Bool) →
    raw_body_rows place suffix_place kind kind_of_suffix refused closed suffix ≡ None → NoBodyRow refused closed suffix
no_body_row place suffix_place kind kind_of_suffix refused closed suffix h =
    let a = none_from _ _ _ h in
    let b = none_from _ _ _ a.1 in
    let c = none_from _ _ _ b.1 in
    record { allowed = a.0; closing = not-false _ b.0; after = not-false _ c.0 }

record NoRow (body_refusal : Option Refusal) (nothing too_many quote : Bool) : Type 0 where
  something : nothing ≡ false
  few : too_many ≡ false
  opening : quote ≡ true
  body : body_refusal ≡ None

no_row : (start n : ℕ) (body_refusal : Option Refusal) (nothing too_many quote : Bool) → raw_rows start n body_refusal nothing too_many quote ≡ None → NoRow body_refusal nothing too_many quote
no_row start n body_refusal nothing too_many quote h =
    let a = none_from _ _ _ h in
    let b = none_from _ _ _ a.1 in
    let c = none_from _ _ _ b.1 in
    record { something = a.0; few = b.0; opening = not-false _ c.0; body = c.1 }

-- no row fits a raw literal

pub raw_fits_no_row : (unicode allow_nul : Bool) (start : ℕ) (d : RawParts) → IsRaw unicode allow_nul d → raw_refusal unicode allow_nul start (raw_text d) ≡ None
raw_fits_no_row unicode allow_nul start d g =
    let n = d.hash_count in
    let ok = is_raw_char unicode allow_nul in
    let place = start + (n + 1) in
    let few : ltb 255 n ≡ false = le-ltb 255 n g.hash_count in
    let all : prefix_len ok d.body ≡ length d.body = prefix_len_all ok d.body g.body.allowed in
    let none_refused : ltb (prefix_len ok d.body) (length d.body) ≡ false = le-ltb _ _ (omega (arith, all)) in
    let body : raw_body_refusal unicode allow_nul n place (d.body ++ (raw_closing n ++ d.suffix)) ≡ None =
    refusal_of_closed unicode allow_nul n place d.body d.suffix g.body.unclosed
    ∙ (λ j. raw_body_rows (place + byte_len (take (prefix_len ok d.body) (d.body ++ (raw_closing n ++ d.suffix)))) (place + (byte_len d.body + (1 + n)))
    (raw_char_kind (slice_index (d.body ++ (raw_closing n ++ d.suffix)) (prefix_len ok d.body))) (suffix_kind d.suffix) (none_refused j) true (g.suffix j)) in
    refusal_of_hashes unicode allow_nul start n (34 ∷ (d.body ++ (raw_closing n ++ d.suffix))) refl
    ∙ (λ j. raw_rows start n (body j) false (few j) true)

pub refusal_free : (unicode allow_nul : Bool) (start : ℕ) (t : List ℕ) (d : RawParts) → IsRawOf unicode allow_nul t d → raw_refusal unicode allow_nul start t ≡ None
refusal_free unicode allow_nul start t d r = ap (raw_refusal unicode allow_nul start) (sym r.spells) ∙ raw_fits_no_row unicode allow_nul start d r.grammar

-- a text that no row fits is a raw literal

closed_from : (unicode allow_nul : Bool) (n start : ℕ) (r : List ℕ) → raw_body_refusal unicode allow_nul n start r ≡ None → occurs (raw_closing n) r ≡ true
unfolding raw_body_refusal
closed_from unicode allow_nul n start r h = (no_body_row _ _ _ _ _ _ _ h).closing

derivable_closed : (unicode allow_nul : Bool) (start n : ℕ) (t r : List ℕ) → hashes n ++ (34 ∷ r) ≡ t → ltb 255 n ≡ false →
    raw_body_refusal unicode allow_nul n start r ≡ None → ClosingCut n r → (d : RawParts) × IsRawOf unicode allow_nul t d
derivable_closed unicode allow_nul start n t r spells few h c =
    let rows = no_body_row _ (start + (byte_len c.before + (1 + n))) _ (suffix_kind c.after) _ true (is_suffix c.after) (sym (refusal_of_closed unicode allow_nul n start c.before c.after c.unclosed) ∙ (ap (raw_body_refusal unicode allow_nul n start) c.spells ∙ h)) in
    let d : RawParts = record { hash_count = n; body = c.before; suffix = c.after } in (
      d,
      record {
        spells = ap (λ s. hashes n ++ (34 ∷ s)) c.spells ∙ spells;
        grammar = record {
          hash_count = ltb-false 255 n few;
          body = record { allowed = all_from_prefix_len (is_raw_char unicode allow_nul) c.before (ltb-false _ _ rows.allowed); unclosed = c.unclosed };
          suffix = rows.after;
        };
      },
    )

derivable_quoted : (unicode allow_nul : Bool) (start n : ℕ) (t rest : List ℕ) → hashes n ++ rest ≡ t →
    NoRow (raw_body_refusal unicode allow_nul n start (drop 1 rest)) (is_empty rest) (ltb 255 n) (first_passes is_quote rest) → (d : RawParts) × IsRawOf unicode allow_nul t d
derivable_quoted unicode allow_nul start n t [] spells rows = absurd (false≢true rows.opening)
derivable_quoted unicode allow_nul start n t (c ∷ r) spells rows =
    derivable_closed unicode allow_nul start n t r (ap (λ q. hashes n ++ (q ∷ r)) (sym (eqb-true c 34 rows.opening)) ∙ spells) rows.few rows.body
    (closing_cut n r (closed_from unicode allow_nul n start r rows.body))

pub derivable : (unicode allow_nul : Bool) (start : ℕ) (t : List ℕ) → raw_refusal unicode allow_nul start t ≡ None → (d : RawParts) × IsRawOf unicode allow_nul t d
derivable unicode allow_nul start t h = let c = hash_cut t in
    derivable_quoted unicode allow_nul (start + (c.count + 1)) c.count t c.rest c.spells
    (no_row _ _ _ _ _ _ (sym (refusal_of_hashes unicode allow_nul start c.count c.rest c.stops) ∙ (ap (raw_refusal unicode allow_nul start) c.spells ∙ h)))

-- one derivation at most

after_opening : (d : RawParts) → drop (suc (hash_len (raw_text d))) (raw_text d) ≡ d.body ++ (raw_closing d.hash_count ++ d.suffix)
after_opening d =
    let r = d.body ++ (raw_closing d.hash_count ++ d.suffix) in
    let n = d.hash_count in
    let count : hash_len (raw_text d) ≡ n = hash_len-append n (34 ∷ r) refl in
    ap (λ k. drop (suc k) (raw_text d)) count
    ∙ (ap (drop (suc n)) (sym (append_assoc (hashes n) (34 ∷ []) r)) ∙ drop_at (hashes n ++ (34 ∷ [])) r (suc n) (length-append (hashes n) (34 ∷ []) ∙ omega (arith, length-hashes n)))

-- the parts, by the text
abbrev pub parts_of : List ℕ → RawParts
parts_of t =
    let n = hash_len t in
    let r = drop (suc n) t in
    record { hash_count = n; body = take (length_before (raw_closing n) r) r; suffix = drop (length_before (raw_closing n) r + (1 + n)) r }

parts_of_text : (unicode allow_nul : Bool) (d : RawParts) → IsRaw unicode allow_nul d → parts_of (raw_text d) ≡ d
parts_of_text unicode allow_nul d g =
    let r = d.body ++ (raw_closing d.hash_count ++ d.suffix) in
    let n = d.hash_count in
    let count : hash_len (raw_text d) ≡ n = hash_len-append n (34 ∷ r) refl in
    let rest : drop (suc (hash_len (raw_text d))) (raw_text d) ≡ r = after_opening d in
    let before : take (length_before (raw_closing n) r) r ≡ d.body = before_closing n d.body d.suffix g.body.unclosed in
    let after : drop (length_before (raw_closing n) r + (1 + n)) r ≡ d.suffix =
    ap (λ k. drop (k + (1 + n)) r) (length_before-body n d.body d.suffix g.body.unclosed) ∙ after_closing n d.body d.suffix in
    let first : parts_of (raw_text d) ≡ record { hash_count = n; body = take (length_before (raw_closing n) r) r; suffix = drop (length_before (raw_closing n) r + (1 + n)) r } =
    (λ j. record { hash_count = count j; body = take (length_before (raw_closing (count j)) (rest j)) (rest j); suffix = drop (length_before (raw_closing (count j)) (rest j) + (1 + count j)) (rest j) }) in
    first ∙ (λ j. record { hash_count = n; body = before j; suffix = after j })

pub only_raw : (unicode allow_nul : Bool) (t : List ℕ) (d e : RawParts) → IsRawOf unicode allow_nul t d → IsRawOf unicode allow_nul t e → d ≡ e
only_raw unicode allow_nul t d e r s =
    sym (parts_of_text unicode allow_nul d r.grammar) ∙ (ap parts_of (r.spells ∙ sym s.spells) ∙ parts_of_text unicode allow_nul e s.grammar)

-- the one derivation of a raw literal
pub only_parts : (unicode allow_nul : Bool) (start : ℕ) (t : List ℕ) → raw_refusal unicode allow_nul start t ≡ None → IsOnlyDerivation (IsRawOf unicode allow_nul t) (parts_of t)
only_parts unicode allow_nul start t h =
    let r = derivable unicode allow_nul start t h in
    let same : parts_of t ≡ r.0 = ap parts_of (sym r.1.spells) ∙ parts_of_text unicode allow_nul r.0 r.1.grammar in
    (subst (λ (d : RawParts). IsRawOf unicode allow_nul t d) (sym same) r.1, λ e s. only_raw unicode allow_nul t e r.0 s r.1 ∙ sym same)

-- a text that the table refuses has none
pub refused : (unicode allow_nul : Bool) (start : ℕ) (t : List ℕ) (e : Refusal) → raw_refusal unicode allow_nul start t ≡ Some e → HasNoDerivation (IsRawOf unicode allow_nul t)
refused unicode allow_nul start t e h d r = absurd (let none : Some e ≡ None = sym h ∙ refusal_free unicode allow_nul start t d r in cc)
