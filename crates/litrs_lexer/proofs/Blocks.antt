-- Block comments: characters that neither open nor close one may be passed over, and each step
-- changes the number of open ones.
use Rattle.std.proofs.Common.{◌≡◌, ℕ, zero, suc, Bool, true, false, not, List, [], ◌∷◌, Option, Some, None, refl, sym, ap, ◌∙◌}
use Rattle.std.specs.Prelude.{if◌then◌else◌, ◌==◌, ◌&&◌, ◌||◌}
use Rattle.std.proofs.lemmas.Bool.{eqb-true, and_parts}
use Rattle.litrs_lexer.specs.Comment.{star, slash, opens_comment, closes_comment}
use Rattle.litrs_lexer.specs.Cut.{is_of_comment}
use Rattle.litrs_lexer.specs.Whitespace.{after_while}

-- The part of the text after the `*/` that closes a block comment, if `depth` more are open in it;
-- None if it is not closed.
abbrev pub block_end : (depth : ℕ) → List ℕ → Option (List ℕ)
block_end depth [] = None
block_end depth (c ∷ []) = None
block_end zero (c ∷ d ∷ t) =
    if opens_comment c d then block_end (suc zero) t
    else if closes_comment c d then Some t
    else block_end zero (d ∷ t)
block_end (suc depth) (c ∷ d ∷ t) =
    if opens_comment c d then block_end (suc (suc depth)) t
    else if closes_comment c d then block_end depth t
    else block_end (suc depth) (d ∷ t)

-- one character, if it and the next are neither front nor end of a comment
pub step_on : (n c d : ℕ) (t : List ℕ) → opens_comment c d ≡ false → closes_comment c d ≡ false → block_end n (c ∷ d ∷ t) ≡ block_end n (d ∷ t)
step_on zero c d t a b = rw a (rw b refl)
step_on (suc n) c d t a b = rw a (rw b refl)

pub step_open : (n c d : ℕ) (t : List ℕ) → opens_comment c d ≡ true → block_end n (c ∷ d ∷ t) ≡ block_end (suc n) t
step_open zero c d t a = rw a refl
step_open (suc n) c d t a = rw a refl

-- a mark that closes a comment does not open one
closes_only : (c d : ℕ) → closes_comment c d ≡ true → opens_comment c d ≡ false
closes_only c d h = rw (eqb-true c 42 (and_parts (c == star) (d == slash) h).0) refl

pub step_close : (n c d : ℕ) (t : List ℕ) → closes_comment c d ≡ true → block_end (suc n) (c ∷ d ∷ t) ≡ block_end n t
step_close n c d t a = rw (closes_only c d a) (rw a refl)

pub step_last : (c d : ℕ) (t : List ℕ) → closes_comment c d ≡ true → block_end zero (c ∷ d ∷ t) ≡ Some t
step_last c d t a = rw (closes_only c d a) (rw a refl)

pub end_nil : (n : ℕ) → block_end n [] ≡ None
end_nil zero = refl
end_nil (suc n) = refl

pub end_one : (n c : ℕ) → block_end n (c ∷ []) ≡ None
end_one zero c = refl
end_one (suc n) c = refl

tests : (a b x y : Bool) → not (a || b) ≡ true → ((b && x) ≡ false) × ((a && y) ≡ false)
tests true b x y h = cc
tests false true x y h = cc
tests false false x y h = (refl, refl)

one_more : (n c : ℕ) (t : List ℕ) → is_of_comment c ≡ true → block_end n (c ∷ t) ≡ block_end n t
one_more zero c [] h = refl
one_more (suc n) c [] h = refl
one_more n c (d ∷ t) h =
    let is = tests (c == star) (c == slash) (d == star) (d == slash) h in
    step_on n c d t is.0 is.1

pub passed_over : (n : ℕ) (t : List ℕ) → block_end n t ≡ block_end n (after_while is_of_comment t)
passed_over n [] = refl
passed_over n (c ∷ t) = go (is_of_comment c) refl (passed_over n t)
  where
    go : (b : Bool) → is_of_comment c ≡ b → block_end n t ≡ block_end n (after_while is_of_comment t) → block_end n (c ∷ t) ≡ block_end n (if b then after_while is_of_comment t else (c ∷ t))
    go true e rec = one_more n c t e ∙ rec
    go false e rec = refl

-- at the first mark
pub at_mark : (n : ℕ) (text rest at : List ℕ) → block_end 0 text ≡ block_end n rest → at ≡ after_while is_of_comment rest → block_end 0 text ≡ block_end n at
at_mark n text rest at inv is = inv ∙ (passed_over n rest ∙ ap (block_end n) (sym is))
