-- Beginnings of literals, of any kind and of a given kind.
use Rattle.std.proofs.Common.{◌≡◌, inl, inr, ℕ, Bool, true, false, List, [], refl, sym, subst}
use Rattle.std.specs.Prelude.{◌↔◌, IsTrue}
use Rattle.std.proofs.lemmas.Bool.{false≢true}
use Rattle.std.proofs.lemmas.List.{append-nil}
use Rattle.litrs_grammar.specs.LongerTexts.{BeginsBy}
use Rattle.litrs_grammar.specs.Literal.{LiteralKind, literal_parse, kind_parse, IsLiteralOf, Begins}
use Rattle.litrs_grammar.specs.LiteralRefusals.{parsed_as, dispatch}
use Rattle.litrs_grammar.proofs.Laws.Literal.{texts_are_decided}
use Rattle.litrs_grammar.proofs.LongerTexts.Dispatch.{literal_begins}

-- an answer, by what holds
pub yes : {P : Type 0} → P → IsTrue true ↔ P
yes p = (λ _. p, λ _. refl)

pub no : {P : Type 0} → (P → ⊥) → IsTrue false ↔ P
no none = (λ h. absurd (false≢true h), λ p. absurd (none p))

-- an equal answer
pub answer_is : {P : Type 0} (a b : Bool) → a ≡ b → IsTrue b ↔ P → IsTrue a ↔ P
answer_is {P} a b same is = subst (λ (v : Bool). IsTrue v ↔ P) (sym same) is

-- a text with a derivation begins a text with one
pub begins_now : {D : Type 0} (Derives : List ℕ → D → Type 0) (t : List ℕ) (d : D) → Derives t d →
    BeginsBy Derives t
begins_now {D} Derives t d is =
    ([], d, refl, subst (λ (l : List ℕ). Derives l d) (sym (append-nil t)) is)

-- a text that is read as a literal of one kind begins a literal if and only if it begins one of
-- that kind
pub begins_parsed : (t : List ℕ) (kind : LiteralKind) → dispatch t ≡ parsed_as kind →
    Begins (kind_parse kind) t ↔ Begins literal_parse t
begins_parsed t kind named = elim (texts_are_decided (kind_parse kind) t) [
  | inl d ↦ (
    λ _. begins_now (IsLiteralOf literal_parse) t d.0 d.1.1,
    λ _. begins_now
        (IsLiteralOf (kind_parse kind)) t d.0 d.1,
  )
  | inr r ↦ (let both = literal_begins t kind r.0 named r.1 in (both.1, both.0))
]
