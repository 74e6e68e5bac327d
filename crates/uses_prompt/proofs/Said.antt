-- The answers to the lines that are read.
use Rattle.std.proofs.Common.{◌≡◌, ◌≢◌, ℕ, List, [], ◌∷◌, ◌++◌, Bor, sym, ap, subst, ◌∙◌, inl, inr, lit<}
use Rattle.std.specs.Prelude.{Option, Some, None, MatchOption, unwrap_or, codes}
use Rattle.std.specs.Str.{IsUtf8, IsAscii}
use Rattle.std.proofs.lemmas.Str.Ascii.{IsAscii-nil, IsAscii-cons}
use Rattle.std.proofs.lemmas.List.{append_cancel_right}
use Rattle.std.proofs.lemmas.Str.{IsUtf8-from_ascii}
use Rattle.uses_prompt.specs.Answered.{IsWithoutReturn, Quits}

-- a line has one text without the CR at its end
pub without_return_is_unique : (line a b : List ℕ) → IsWithoutReturn line a → IsWithoutReturn line b → a ≡ b
without_return_is_unique line a b (inl x) (inl y) = append_cancel_right _ _ (13 ∷ []) (sym x ∙ y)
without_return_is_unique line a b (inl x) (inr y) = absurd (y.1 a x)
without_return_is_unique line a b (inr x) (inl y) = absurd (x.1 b y)
without_return_is_unique line a b (inr x) (inr y) = sym x.0 ∙ y.0

quit_is_ascii : (end : List ℕ) → IsAscii end → IsAscii (codes ":quit" ++ end)
quit_is_ascii end ascii =
    IsAscii-cons 58 (113 ∷ 117 ∷ 105 ∷ 116 ∷ end) (lit< tt)
    (IsAscii-cons 113 (117 ∷ 105 ∷ 116 ∷ end) (lit< tt)
    (IsAscii-cons 117 (105 ∷ 116 ∷ end) (lit< tt) (IsAscii-cons 105 (116 ∷ end) (lit< tt) (IsAscii-cons 116 end (lit< tt) ascii))))

-- the line that ends the prompt is UTF-8
pub quit_is_utf8 : (line : List ℕ) → Quits line → IsUtf8 line
quit_is_utf8 line (inl is) = subst IsUtf8 (sym is) (IsUtf8-from_ascii (codes ":quit" ++ 13 ∷ []) (quit_is_ascii (13 ∷ []) (IsAscii-cons 13 [] (lit< tt) IsAscii-nil)))
quit_is_utf8 line (inr is) = subst IsUtf8 (sym is.0) (IsUtf8-from_ascii (codes ":quit") (quit_is_ascii [] IsAscii-nil))

-- a CR at the end is stripped
pub without_return : (r : Option (Bor (List ℕ))) (line out : Bor (List ℕ)) →
    MatchOption r ((front : List ℕ) → line.now ≢ front ++ 13 ∷ []) (λ x. line.now ≡ x.now ++ 13 ∷ []) →
    out ≡ unwrap_or r line → IsWithoutReturn line.now out.now
without_return None line out none is = inr (ap (λ (b : Bor (List ℕ)). b.now) (sym is), none)
without_return (Some x) line out found is =
    inl (found ∙ ap (λ (b : Bor (List ℕ)). b.now ++ 13 ∷ []) (sym is))
