-- The search for the parts of a raw literal.
use Rattle.std.proofs.Common.{◌≡◌, ℕ, zero, suc, ◌+◌, true, false, cond, ◌&&◌, ◌||◌, List, [], ◌∷◌, ◌++◌, drop, refl, sym, ap, ◌∙◌, arith}
use Rattle.std.specs.Prelude.{◌==◌}
use Rattle.std.specs.List.{list_any}
use Rattle.std.proofs.lemmas.Bool.{or_parts, or_left, true≢false}
use Rattle.std.proofs.lemmas.Bool.Decides.{nat_tests}
use Rattle.std.proofs.lemmas.List.{append_assoc}
use Rattle.litrs_base.specs.Text.{is_empty, first_passes, begins_with}
use Rattle.litrs_grammar.specs.Raw.{is_quote, is_hash, hashes, raw_closing, occurs, hash_len, length_before}
use Rattle.litrs_grammar.specs.Laws.RawScan.{HashCountsStay, FirstClosingsStay, RawScansStay, ClosingsBeginAtQuotes, ClosingsAreFound, QuotesArePassed}
use Rattle.litrs_grammar.proofs.RawCuts.{hash_len-append, after_hashes, HashCut, hash_cut, closing_cut, length_before-body}

pub hash_counts_stay : HashCountsStay
hash_counts_stay t more some = by cut.rest cut.spells cut.stops
  where
    cut : HashCut t
    cut = hash_cut t

    by : (rest : List ℕ) → hashes cut.count ++ rest ≡ t → first_passes is_hash rest ≡ false → hash_len (t ++ more) ≡ hash_len t
    by [] spells stops =
        let count : hash_len (hashes cut.count ++ []) ≡ cut.count = hash_len-append cut.count [] refl in
        let after : drop (hash_len (hashes cut.count ++ [])) (hashes cut.count ++ []) ≡ [] = ap (λ k. drop k (hashes cut.count ++ [])) count ∙ after_hashes cut.count [] in
        absurd (true≢false (ap is_empty (sym after) ∙ ap (λ l. is_empty (drop (hash_len l) l)) spells ∙ some))
    by (c ∷ rest) spells stops =
        ap hash_len (ap (λ l. l ++ more) (sym spells) ∙ append_assoc (hashes cut.count) (c ∷ rest) more) ∙ hash_len-append cut.count (c ∷ (rest ++ more)) stops
        ∙ sym (hash_len-append cut.count (c ∷ rest) stops) ∙ ap hash_len spells

pub first_closings_stay : FirstClosingsStay
first_closings_stay n t more some =
    let cut = closing_cut n t some in
    let longer : cut.before ++ (raw_closing n ++ (cut.after ++ more)) ≡ t ++ more =
    ap (λ l. cut.before ++ l) (sym (append_assoc (raw_closing n) cut.after more)) ∙ sym (append_assoc cut.before (raw_closing n ++ cut.after) more) ∙ ap (λ l. l ++ more) cut.spells in
    ap (length_before (raw_closing n)) (sym longer) ∙ length_before-body n cut.before (cut.after ++ more) cut.unclosed
    ∙ sym (length_before-body n cut.before cut.after cut.unclosed) ∙ ap (length_before (raw_closing n)) cut.spells

-- characters dropped from a text are dropped from a longer one
drop_longer : (k : ℕ) (t more : List ℕ) → is_empty (drop k t) ≡ false → drop k (t ++ more) ≡ drop k t ++ more
drop_longer zero t more some = refl
drop_longer (suc k) [] more some = cc
drop_longer (suc k) (c ∷ t) more some = drop_longer k t more some

closed_some : (n : ℕ) (t : List ℕ) → occurs (raw_closing n) t ≡ true → is_empty t ≡ false
closed_some n [] h = cc
closed_some n (c ∷ t) h = refl

pub raw_scans_stay : RawScansStay
raw_scans_stay t = record {
  hashes = λ more some. hash_counts_stay t more some;
  closing = λ more some.
      let n = hash_len t in
      ap (length_before (raw_closing n)) (drop_longer (n + 1) t more (closed_some n (drop (n + 1) t) some)) ∙ first_closings_stay n (drop (n + 1) t) more some;
}

other_than_quote : (c : ℕ) → is_quote c ≡ false → (34 == c) ≡ false
other_than_quote c h = grind (arith, nat_tests)

pub closings_begin_at_quotes : ClosingsBeginAtQuotes
closings_begin_at_quotes n [] t none = (refl, omega arith)
closings_begin_at_quotes n (c ∷ front) t none =
    let parts : (is_quote c ≡ false) × (list_any is_quote front ≡ false) = or_parts _ _ none in
    let other : (34 == c) ≡ false = other_than_quote c parts.0 in
    let rec = closings_begin_at_quotes n front t parts.1 in (
      ap (λ v. (v && begins_with (hashes n) (front ++ t)) || occurs (raw_closing n) (front ++ t)) other ∙ rec.0,
      ap (λ v. cond (v && begins_with (hashes n) (front ++ t)) 0 (1 + length_before (raw_closing n) (front ++ t))) other ∙ (let here = rec.1 in omega arith),
    )

pub closings_are_found : ClosingsAreFound
closings_are_found n t here = (or_left _ _ here, ap (λ v. cond v 0 (1 + length_before (raw_closing n) t)) here)

pub quotes_are_passed : QuotesArePassed
quotes_are_passed n t other = (ap (λ v. v || occurs (raw_closing n) t) other, ap (λ v. cond v 0 (1 + length_before (raw_closing n) t)) other)
