-- The pieces at the front of a text, from what opens on, one character after the other.
use Rattle.litrs_prefix.proofs.Words.{◌≡◌, inl, inr, ℕ, List, [], ◌∷◌, ◌++◌, refl, sym, ap, subst, ◌∙◌, append_assoc, append-nil, append_cancel_left, append_cancel_right}
use Rattle.litrs_prefix.specs.Words.{byte_len, Derivation, IsLiteral, literal_parse, MalformedAreUnique, after_opened, IsPiece, HasNoDerivation, refusal_of, IsRefusal}
use Rattle.litrs_grammar.proofs.LongerTexts.Suffix.{front_of}

abbrev pub Holds : (List ℕ → Type 0) → List ℕ → Type 0
Holds P more = (x : List ℕ) (c : ℕ) (y : List ℕ) → x ++ c ∷ y ≡ more → P x

pub no_end : (x : List ℕ) (c : ℕ) (y : List ℕ) → x ++ c ∷ y ≡ [] → ⊥
no_end [] c y h = cc
no_end (a ∷ x) c y h = cc

-- facts about each shorter one and about this
one_more : (P : List ℕ → Type 0) (more : List ℕ) (c : ℕ) → P more → Holds P more → Holds P (more ++ c ∷ [])
one_more P [] c here before [] d y is = here
one_more P [] c here before (a ∷ x) d y is = (let tail : x ++ d ∷ y ≡ [] = cc in absurd (no_end x d y tail))
one_more P (m ∷ more) c here before [] d y is = before [] m more refl
one_more P (m ∷ more) c here before (a ∷ x) d y is =
    let head : m ≡ a = cc in
    let tail : x ++ d ∷ y ≡ more ++ c ∷ [] = cc in
    subst (λ (k : ℕ). P (k ∷ x)) head
    (one_more (λ (l : List ℕ). P (m ∷ l)) more c here (λ z e w same. before (m ∷ z) e w (ap (λ (l : List ℕ). m ∷ l) same)) x d y tail)

pub piece_first : (t piece : List ℕ) → piece ++ after_opened t ≡ t → IsPiece t piece
piece_first t piece is = record {
  piece = piece;
  more = [];
  opened = is;
  longer = append-nil piece;
  shortest = λ x c y none. absurd (no_end x c y none);
}

pub piece_longer : (t front : List ℕ) (c : ℕ) (d : Derivation) → IsPiece t front → IsLiteral front d → IsPiece t (front ++ c ∷ [])
piece_longer t front c d is literal = record {
  piece = is.piece;
  more = is.more ++ c ∷ [];
  opened = is.opened;
  longer = sym (append_assoc is.piece is.more (c ∷ [])) ∙ ap (λ (l : List ℕ). l ++ c ∷ []) is.longer;
  shortest = one_more (λ (x : List ℕ). (d : Derivation) × IsLiteral (is.piece ++ x) d) is.more c
      (d, subst (λ (l : List ℕ). IsLiteral l d) (sym is.longer) literal) is.shortest;
}

-- the malformed prefix is one piece alone
pub piece_unique : (t f g r u : List ℕ) → IsPiece t f → IsPiece t g → f ++ r ≡ t → g ++ u ≡ t → HasNoDerivation (IsLiteral f) → HasNoDerivation (IsLiteral g) → f ≡ g
piece_unique t f g r u m n before after none other =
    let same : m.piece ≡ n.piece = append_cancel_right m.piece n.piece (after_opened t) (m.opened ∙ sym n.opened) in
    let left : m.piece ++ (m.more ++ r) ≡ t = sym (append_assoc m.piece m.more r) ∙ (ap (λ (l : List ℕ). l ++ r) m.longer ∙ before) in
    let right : n.piece ++ (n.more ++ u) ≡ t = sym (append_assoc n.piece n.more u) ∙ (ap (λ (l : List ℕ). l ++ u) n.longer ∙ after) in
    let rests : m.more ++ r ≡ n.more ++ u = append_cancel_left m.piece _ _ (left ∙ (sym right ∙ ap (λ (l : List ℕ). l ++ (n.more ++ u)) (sym same))) in
    elim (front_of m.more n.more r u rests) [
      | inl ([], is) ↦ sym m.longer ∙ ((λ i. same i ++ (is ∙ append-nil n.more) i) ∙ n.longer)
      | inl (c ∷ z, is) ↦ (let literal = m.shortest n.more c z (sym is) in
          absurd (other literal.0 (subst (λ (l : List ℕ). IsLiteral l literal.0) (ap (λ (l : List ℕ). l ++ n.more) same ∙ n.longer) literal.1)))
      | inr (c, z, is) ↦ (let literal = n.shortest m.more c z (sym is) in
          absurd (none literal.0 (subst (λ (l : List ℕ). IsLiteral l literal.0) (ap (λ (l : List ℕ). l ++ m.more) (sym same) ∙ m.longer) literal.1)))
    ]

pub malformed_unique : MalformedAreUnique
malformed_unique t e f m n =
    let same : m.front ≡ n.front = piece_unique t m.front n.front m.rest n.rest m.is_piece n.is_piece m.spells n.spells m.refused.none n.refused.none in (
      sym m.len ∙ (ap (λ (l : List ℕ). byte_len l) same ∙ n.len),
      n.refused.only (refusal_of e.error) (subst (λ (l : List ℕ). IsRefusal literal_parse l (refusal_of e.error)) same m.refused.table),
    )
