-- The text after the characters at its front that pass a test, found in its bytes.
use Rattle.std.proofs.Common.{◌≡◌, ℕ, ◌+◌, Bool, true, false, not, List, [], ◌∷◌, ◌++◌, length, drop, refl, sym, ap, subst, ◌∙◌, arith}
use Rattle.std.specs.List.{prefix_len, list_all, position_or_len}
use Rattle.std.specs.Str.{chars, IsUtf8, IsCharBoundary}
use Rattle.std.proofs.lemmas.Bool.{false_from_ne_true, and_parts, ne_eqb}
use Rattle.std.proofs.lemmas.List.Sums.{position_or_len_is}
use Rattle.std.proofs.lemmas.Str.{IsCharBoundary-from_drop}
use Rattle.memchr.specs.Find.{Nowhere, NoneBefore, Passes}
use Rattle.litrs_base.specs.Text.{first_passes}
use Rattle.litrs_lex.proofs.PlainRuns.{AlikeFrom128, char_run, first_passes-alike}
use Rattle.litrs_prefix.specs.Ends.{IsEndOf}
use Rattle.litrs_prefix.proofs.Ends.{after_bytes}
use Rattle.litrs_lexer.specs.Comment.{is_of_line}
use Rattle.litrs_lexer.specs.Cut.{is_of_comment}
use Rattle.litrs_lexer.specs.Whitespace.{after_while}

pub while_run : (p : ℕ → Bool) (run rest : List ℕ) → list_all p run ≡ true → first_passes p rest ≡ false → after_while p (run ++ rest) ≡ rest
while_run p [] [] all stops = refl
while_run p [] (c ∷ rest) all stops = rw stops refl
while_run p (c ∷ run) rest all stops = let both = and_parts (p c) (list_all p run) all in rw both.0 (while_run p run rest both.1 stops)

-- the place at which a text is cut after the bytes at its front that pass
pub run_cut : (p : ℕ → Bool) (h : Bool) (bs : List ℕ) (n : ℕ) → AlikeFrom128 p h → IsUtf8 bs → n ≡ prefix_len p bs → IsCharBoundary bs n × (chars (drop n bs) ≡ after_while p (chars bs))
run_cut p h bs n alike u is =
    let r = char_run p h alike bs u in
    let m : ℕ = prefix_len p bs in
    let stops : first_passes p (chars (drop m bs)) ≡ false = first_passes-alike p h (drop m bs) alike r.utf8 ∙ r.stops in
    let cut : chars (drop m bs) ≡ after_while p (chars bs) = sym (while_run p r.run (chars (drop m bs)) r.passes stops) ∙ ap (after_while p) r.split in
    subst (λ (k : ℕ). IsCharBoundary bs k × (chars (drop k bs) ≡ after_while p (chars bs))) (sym is) (IsCharBoundary-from_drop bs m r.within r.utf8, cut)

position_prefix : (p : ℕ → Bool) (xs : List ℕ) → position_or_len p xs ≡ prefix_len (λ c. not (p c)) xs
position_prefix p [] = refl
position_prefix p (x ∷ xs) = go (p x) refl (position_prefix p xs)
  where
    go : (b : Bool) → p x ≡ b → position_or_len p xs ≡ prefix_len (λ c. not (p c)) xs → position_or_len p (x ∷ xs) ≡ prefix_len (λ c. not (p c)) (x ∷ xs)
    go true e rec = rw e refl
    go false e rec = rw e (ap (λ (n : ℕ). 1 + n) rec)

pub first_byte : (p : ℕ → Bool) (xs : List ℕ) (k : ℕ) → NoneBefore (Passes p xs) 0 (length xs) k × Passes p xs k → k ≡ prefix_len (λ c. not (p c)) xs
first_byte p xs k first =
    sym (position_or_len_is p xs k 0 (omega (arith, first.0.high)) (λ i before. false_from_ne_true _ (first.0.before i (omega arith) before)) (λ within. first.1))
    ∙ position_prefix p xs

pub no_byte : (p : ℕ → Bool) (xs : List ℕ) → Nowhere (Passes p xs) 0 (length xs) → length xs ≡ prefix_len (λ c. not (p c)) xs
no_byte p xs none =
    sym (position_or_len_is p xs (length xs) 0 (omega arith) (λ i before. false_from_ne_true _ (none i (omega arith) before)) (λ past. absurd (omega arith)))
    ∙ position_prefix p xs

-- the end of a text
pub end_after : (t back : List ℕ) (n : ℕ) → back ≡ drop n t → IsEndOf t back
end_after t back n is = after_bytes t back n is

pub line_alike : AlikeFrom128 is_of_line true
line_alike c wide = ap not (ne_eqb c 10 (λ e. omega arith))

pub comment_alike : AlikeFrom128 is_of_comment true
comment_alike c wide = rw (ne_eqb c 42 (λ e. omega arith)) (ap not (ne_eqb c 47 (λ e. omega arith)))
