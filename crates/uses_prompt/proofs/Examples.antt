-- Answers to lines.
use Rattle.std.specs.Prelude.{◌≡◌, ℕ, List, [], ◌++◌, codes, refl}
use Rattle.uses_prompt.specs.Answered.{IsAnswered, Quits}
use Rattle.std.proofs.Common.{inl, inr, ◌∷◌}

-- `:cancel` drops the line that is held, and an empty line is ignored; nothing is said
cancelled : (after answer : List ℕ) → IsAnswered (codes "\"a\n") (codes ":cancel") after answer → (after ≡ []) × (answer ≡ [])
cancelled after answer is = is.dropped (inr (λ same. absurd (cc), refl))

ignored : (after answer : List ℕ) → IsAnswered [] [] after answer → (after ≡ []) × (answer ≡ [])
ignored after answer is = is.dropped (inl (refl, refl))

-- `:quit` ends the prompt, also before CR LF
quits : Quits (codes ":quit" ++ 13 ∷ [])
quits = inl refl
