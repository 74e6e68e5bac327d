-- The token at the front decides if an attribute begins after `#!`.
use Rattle.std.proofs.Common.{◌≡◌, ◌⊎◌, inl, inr, ℕ, true, List, [], ◌∷◌, None, refl, sym, ap, subst, ◌∙◌}
use Rattle.std.specs.Prelude.{◌==◌, ◌&&◌}
use Rattle.std.proofs.lemmas.Bool.{eqb-true, true≢false, false≢true}
use Rattle.litrs_base.specs.Text.{first_passes}
use Rattle.litrs_lexer.specs.declared.kind.TokenKind.{TokenKind}
use Rattle.litrs_lexer.specs.declared.kind.TokenKind.TheVariants.{Whitespace, Punctuation}
use Rattle.litrs_lexer.specs.Comment.{slash, is_star_or_slash, doc_style}
use Rattle.litrs_lexer.specs.Punctuation.{is_punctuation}
use Rattle.litrs_lexer.specs.Shebang.{is_bracket, OpensAttribute}
use Rattle.litrs_lexer.specs.Shebang.OpensAttribute.{bracket, skipped}
use Rattle.litrs_lexer.specs.Token.{IsToken, is_trivia}
use Rattle.litrs_lexer.proofs.Unique.{class_of, token_class, unique_tokens}

-- the token at the front is skipped, before a text after which an attribute begins
record Skips (t : List ℕ) : Type 0 where
  kind : TokenKind
  rest : List ℕ
  is : IsToken kind t rest
  trivia : is_trivia kind ≡ true
  plain : doc_style kind t ≡ None
  more : OpensAttribute rest

first : {t : List ℕ} → OpensAttribute t → (first_passes is_bracket t ≡ true) ⊎ Skips t
first (bracket h) = inl h
first (skipped kind {rest = rest} is trivia plain more) = inr (record { kind = kind; rest = rest; is = is; trivia = trivia; plain = plain; more = more })

bracket_token : (t : List ℕ) → first_passes is_bracket t ≡ true → (rest : List ℕ) × IsToken Punctuation t rest
bracket_token [] h = absurd (false≢true h)
bracket_token (c ∷ t) h =
    let is : c ≡ 91 = eqb-true c 91 h in
    (t, (c, refl, ap is_punctuation is, ap (λ (k : ℕ). (k == slash) && first_passes is_star_or_slash t) is))

-- `[` is not skipped
no_trivia : (k : TokenKind) (t rest : List ℕ) → IsToken k t rest → is_trivia k ≡ true → first_passes is_bracket t ≡ true → ⊥
no_trivia k t rest is trivia h =
    let other = bracket_token t h in
    true≢false (sym trivia ∙ ap is_trivia (unique_tokens t k Punctuation rest other.0 is other.1).0)

-- a token that is skipped may be left out
pub skip_back : (k : TokenKind) (t rest : List ℕ) → IsToken k t rest → is_trivia k ≡ true → OpensAttribute t → OpensAttribute rest
skip_back k t rest is trivia h = elim (first h) [
  | inl b ↦ absurd (no_trivia k t rest is trivia b)
  | inr s ↦ subst OpensAttribute (unique_tokens t s.kind k s.rest rest s.is is).1 s.more
]

-- if the token at the front is not skipped
pub stops_at : (k : TokenKind) (t rest : List ℕ) → IsToken k t rest → (is_trivia k ≡ true → doc_style k t ≡ None → ⊥) → OpensAttribute t → first_passes is_bracket t ≡ true
stops_at k t rest is never h = elim (first h) [
  | inl b ↦ b
  | inr s ↦ (let same = (unique_tokens t s.kind k s.rest rest s.is is).0 in
      absurd (never (ap is_trivia (sym same) ∙ s.trivia) (ap (λ (j : TokenKind). doc_style j t) (sym same) ∙ s.plain)))
]

no_class : (k : TokenKind) → 0 ≡ class_of k → ⊥
no_class Whitespace e = true≢false (ap (λ (n : ℕ). n == 0) e)
no_class k e = true≢false (ap (λ (n : ℕ). n == 0) e)

pub none_empty : OpensAttribute [] → ⊥
none_empty h = elim (first h) [
  | inl b ↦ false≢true b
  | inr s ↦ no_class s.kind (token_class s.kind [] s.rest s.is)
]
