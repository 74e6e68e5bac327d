-- The body of a block comment, and where the code finds its end.
use Rattle.std.proofs.Common.{◌≡◌, ℕ, zero, suc, Bool, true, false, List, [], ◌∷◌, Some, None, refl, sym, subst, ◌∙◌}
use Rattle.std.specs.Prelude.{◌||◌}
use Rattle.std.proofs.lemmas.Bool.{or_parts}
use Rattle.litrs_lexer.specs.Comment.{opens_comment, closes_comment, starts_with_mark, IsBody}
use Rattle.litrs_lexer.specs.Comment.IsBody.{closed, comment, character}
use Rattle.litrs_lexer.proofs.Blocks.{block_end, step_on, step_open, step_close, step_last, end_nil, end_one}

some_none : (r : List ℕ) → None ≡ Some r → ⊥
some_none r e = cc

some_one : (r u : List ℕ) → Some r ≡ Some u → r ≡ u
some_one r u e = cc

-- the bodies of a comment and of the `n` comments around it
abbrev Bodies : ℕ → (t rest : List ℕ) → Type 0
Bodies zero t rest = IsBody t rest
Bodies (suc n) t rest = (after : List ℕ) × IsBody t after × Bodies n after rest

opened : (n c d : ℕ) (t rest : List ℕ) → opens_comment c d ≡ true → Bodies (suc n) t rest → Bodies n (c ∷ d ∷ t) rest
opened zero c d t rest o h = comment o h.1 h.2
opened (suc n) c d t rest o h = (h.2.0, comment o h.1 h.2.1, h.2.2)

passed : (n c : ℕ) (t rest : List ℕ) → starts_with_mark (c ∷ t) ≡ false → Bodies n t rest → Bodies n (c ∷ t) rest
passed zero c t rest plain h = character plain h
passed (suc n) c t rest plain h = (h.0, character plain h.1, h.2)

neither : (a b : Bool) → a ≡ false → b ≡ false → (a || b) ≡ false
neither a b e f = rw e (rw f refl)

closing : (n c d : ℕ) (t rest : List ℕ) → closes_comment c d ≡ true → block_end n (c ∷ d ∷ t) ≡ Some rest →
    ((k : ℕ) → block_end k t ≡ Some rest → Bodies k t rest) → Bodies n (c ∷ d ∷ t) rest
closing zero c d t rest h e rec = subst (λ (r : List ℕ). IsBody (c ∷ d ∷ t) r) (some_one t rest (sym (step_last c d t h) ∙ e)) (closed h)
closing (suc k) c d t rest h e rec = (t, closed h, rec k (sym (step_close k c d t h) ∙ e))

step : (n c d : ℕ) (t rest : List ℕ) → block_end n (c ∷ d ∷ t) ≡ Some rest → ((k : ℕ) → block_end k t ≡ Some rest → Bodies k t rest) →
    (block_end n (d ∷ t) ≡ Some rest → Bodies n (d ∷ t) rest) → Bodies n (c ∷ d ∷ t) rest
step n c d t rest e rec next = go (opens_comment c d) (closes_comment c d) refl refl
  where
    go : (a b : Bool) → opens_comment c d ≡ a → closes_comment c d ≡ b → Bodies n (c ∷ d ∷ t) rest
    go true b o h = opened n c d t rest o (rec (suc n) (sym (step_open n c d t o) ∙ e))
    go false true o h = closing n c d t rest h e rec
    go false false o h = passed n c (d ∷ t) rest (neither (opens_comment c d) (closes_comment c d) o h) (next (sym (step_on n c d t o h) ∙ e))

bodies : (n : ℕ) (t rest : List ℕ) → block_end n t ≡ Some rest → Bodies n t rest
bodies n [] rest e = absurd (some_none rest (sym (end_nil n) ∙ e))
bodies n (c ∷ []) rest e = absurd (some_none rest (sym (end_one n c) ∙ e))
bodies n (c ∷ d ∷ t) rest e = step n c d t rest e (λ k. bodies k t rest) (bodies n (d ∷ t) rest)

-- the code finds a body
pub body_at : (t rest : List ℕ) → block_end 0 t ≡ Some rest → IsBody t rest
body_at t rest e = bodies 0 t rest e

one_on : (n c : ℕ) (t : List ℕ) → starts_with_mark (c ∷ t) ≡ false → block_end n (c ∷ t) ≡ block_end n t
one_on n c [] plain = end_one n c ∙ sym (end_nil n)
one_on n c (d ∷ t) plain = let p = or_parts (opens_comment c d) (closes_comment c d) plain in step_on n c d t p.0 p.1

-- after a body one comment fewer is open
after_body : {t rest : List ℕ} → IsBody t rest → (n : ℕ) → block_end (suc n) t ≡ block_end n rest
after_body (closed {c = c} {d = d} {rest = rest} h) n = step_close n c d rest h
after_body (comment {c = c} {d = d} {t = t} o a b) n = step_open (suc n) c d t o ∙ (after_body a (suc n) ∙ after_body b n)
after_body (character {c = c} {t = t} plain a) n = one_on (suc n) c t plain ∙ after_body a n

-- each body is found
pub body_end : {t rest : List ℕ} → IsBody t rest → block_end 0 t ≡ Some rest
body_end (closed {c = c} {d = d} {rest = rest} h) = step_last c d rest h
body_end (comment {c = c} {d = d} {t = t} o a b) = step_open 0 c d t o ∙ (after_body a 0 ∙ body_end b)
body_end (character {c = c} {t = t} plain a) = one_on 0 c t plain ∙ body_end a

-- if the code does not find an end, there is no body
pub no_body : (t : List ℕ) → block_end 0 t ≡ None → (rest : List ℕ) → IsBody t rest → ⊥
no_body t none rest h = some_none rest (sym none ∙ body_end h)

pub one_body_end : (t r u : List ℕ) → IsBody t r → IsBody t u → r ≡ u
one_body_end t r u a b = some_one r u (sym (body_end a) ∙ body_end b)
