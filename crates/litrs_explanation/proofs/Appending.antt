-- Text that is appended by several calls, some of which may fail.
use Rattle.std.proofs.Common.{◌≡◌, ◌∙◌, ℕ, List, ◌++◌, length, take, sym, ap, append_assoc}
use Rattle.std.specs.Prelude.{Result}
use Rattle.std.proofs.lemmas.Result.{on_ok_weaker}
use Rattle.std.proofs.lemmas.List.{take-append-drop}
use Rattle.litrs_explanation.specs.Appended.{appended, Appends}

-- appended text is also such text
pub appended_as : {T E : Type 0} (old new : List ℕ) (r : Result T E) (Was Is : List ℕ → Type 0) →
    ((added : List ℕ) → Was added → Is added) → Appends old new r Was → Appends old new r Is
appended_as old new r Was Is then (added, made, was) =
    (added, made, on_ok_weaker r (then added) was)

-- a second call appends to what the first one did
pub then_appended : {T E : Type 0} (old middle new first : List ℕ) (r : Result T E) (Was Is : List ℕ → Type 0) →
    middle ≡ old ++ first → ((added : List ℕ) → Was added → Is (first ++ added)) →
    Appends middle new r Was → Appends old new r Is
then_appended old middle new first r Was Is before then (added, made, was) = (
  first ++ added,
  made ∙ (ap (λ (x : List ℕ). x ++ added) before ∙ append_assoc old first added),
  on_ok_weaker r (then added) was,
)

-- the appended text, by its place
pub follows : (old new : List ℕ) → take (length old) new ≡ old → new ≡ old ++ appended old new
follows old new kept =
    sym (take-append-drop (length old) new) ∙ ap (λ (x : List ℕ). x ++ appended old new) kept
