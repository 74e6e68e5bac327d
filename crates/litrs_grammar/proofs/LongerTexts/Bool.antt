-- Bools under continuation.
use Rattle.std.proofs.Common.{◌≡◌, ℕ, Bool, true, false, List, [], ◌∷◌, ◌++◌, length, drop, refl, sym, ap, ◌∙◌, inl, inr}
use Rattle.std.specs.Prelude.{◌↔◌}
use Rattle.std.specs.List.{list_all}
use Rattle.std.proofs.lemmas.Bool.{and_parts, or_left, or_right, or_cases}
use Rattle.std.proofs.lemmas.List.Folds.{list_all-append as all-append}
use Rattle.litrs_base.specs.Characters.{is_scalar}
use Rattle.litrs_base.specs.Text.{IsText, begins_with}
use Rattle.litrs_base.proofs.Begins.{begins_with-split, begins_with-append}
use Rattle.litrs_grammar.specs.Bool.{bool_text, IsBool}
use Rattle.litrs_grammar.specs.LongerTexts.{BeginsBy, EndsBy}
use Rattle.litrs_grammar.specs.GoesOn.Bool.{bool_goes_on}
use Rattle.litrs_grammar.proofs.LineFeeds.{is_other, no_line_feed}

-- the rest of a text after a part at its front is a text
pub rest_is_text : (t u : List ℕ) → list_all is_scalar u ≡ true → begins_with t u ≡ true → IsText (drop (length t) u)
rest_is_text t u text begins =
    (and_parts _ _ (sym (all-append is_scalar t (drop (length t) u)) ∙ ap (list_all is_scalar) (begins_with-split t u begins) ∙ text)).1

scalar_bool : (b : Bool) → list_all is_scalar (bool_text b) ≡ true
scalar_bool true = refl
scalar_bool false = refl

from_front : (t : List ℕ) (b : Bool) → begins_with t (bool_text b) ≡ true → BeginsBy IsBool t
from_front t b begins = (drop (length t) (bool_text b), b, rest_is_text t (bool_text b) (scalar_bool b) begins, sym (begins_with-split t (bool_text b) begins))

-- a list begins a bool, even with a list appended that is not a text, only if it is a prefix of one
pub bool_front : (t x : List ℕ) (b : Bool) → IsBool (t ++ x) b → bool_goes_on t ≡ true
bool_front t x true is = or_left _ _ (ap (begins_with t) is ∙ begins_with-append t x)
bool_front t x false is = or_right _ _ (ap (begins_with t) is ∙ begins_with-append t x)

-- a text begins a bool if and only if it is a prefix of one
pub bool_begins : (t : List ℕ) → BeginsBy IsBool t ↔ (bool_goes_on t ≡ true)
bool_begins t = (λ begins. bool_front t begins.0 begins.1 begins.3, from)
  where
    from : bool_goes_on t ≡ true → BeginsBy IsBool t
    from h = elim (or_cases (begins_with t (bool_text true)) (begins_with t (bool_text false)) h) [
      | inl of_true ↦ from_front t true of_true
      | inr of_false ↦ from_front t false of_false
    ]

bool_other : (b : Bool) → list_all is_other (bool_text b) ≡ true
bool_other true = refl
bool_other false = refl

-- a bool does not contain LF, so no text that begins one ends with LF
pub bool_line_end : (t : List ℕ) → EndsBy IsBool (t ++ 10 ∷ [])
bool_line_end t x b is = no_line_feed t x (ap (list_all is_other) (sym is) ∙ bool_other b)
