-- The texts whose tokens can change if more text follows.
use Rattle.std.specs.Prelude.{◌≡◌, ℕ, Bool, true, false, List, [], ◌∷◌, ◌++◌, codes}
use Rattle.litrs_base.specs.Text.{IsText, is_empty, is_text}
use Rattle.litrs_prefix.specs.MayChange.{is_open_front}
use Rattle.litrs_lexer.specs.Token.{IsToken}
use Rattle.litrs_lexer.specs.declared.kind.TokenKind.{TokenKind}
use Rattle.litrs_lexer.specs.declared.kind.TokenKind.TheVariants.{BlockComment, UnknownPrefix, UnknownPrefixLifetime, MalformedLiteral, Punctuation, Unknown}

-- The token at the front of the text is at the front of each longer text, with the same kind and
-- text.
abbrev pub TokenStays : List ℕ → Type 0
TokenStays t = (kind : TokenKind) (rest more : List ℕ) → IsText more →
    IsToken kind t rest → IsToken kind (t ++ more) (rest ++ more)

-- Some longer text has another token at its front.
abbrev pub TokenChanges : List ℕ → Type 0
TokenChanges t = (more : List ℕ) × IsText more
    × ((kind : TokenKind) (rest : List ℕ) →
    IsToken kind t rest → IsToken kind (t ++ more) (rest ++ more) → ⊥)

-- A token of a list: its kind and its characters.
pub record Cut : Type 0 where
  pub kind : TokenKind
  pub text : List ℕ

-- The text has these tokens, one after the other, up to the rest.
abbrev pub HasTokens : (t : List ℕ) → List Cut → (rest : List ℕ) → Type 0
HasTokens t [] rest = t ≡ rest
HasTokens t (cut ∷ cuts) rest =
    (next : List ℕ) × (cut.text ++ next ≡ t) × IsToken cut.kind t next × HasTokens next cuts rest

-- Like `HasTokens`, and no longer text changes one of the tokens.
abbrev pub HasSettledTokens : (t : List ℕ) → List Cut → (rest : List ℕ) → Type 0
HasSettledTokens t [] rest = t ≡ rest
HasSettledTokens t (cut ∷ cuts) rest =
    (next : List ℕ) × (cut.text ++ next ≡ t) × IsToken cut.kind t next × TokenStays t
    × HasSettledTokens next cuts rest

-- `true` iff the kind is that of malformed literals.
abbrev pub is_malformed : TokenKind → Bool
is_malformed MalformedLiteral = true
is_malformed kind = false

-- `true` iff more text can change the token of this kind, which is not a malformed literal, at the
-- front of the text, up to the rest. Then the token is at the end, and is neither a closed comment,
-- unknown, nor punctuation other than `/`. Or only hashes follow a prefix, with which more text
-- begins a literal or a raw name.
abbrev pub is_open : TokenKind → (t rest : List ℕ) → Bool
is_open BlockComment t rest = false
is_open Unknown t rest = false
is_open Punctuation t rest = is_text (codes "/") t
is_open UnknownPrefix t rest = is_open_front t
is_open UnknownPrefixLifetime t rest = is_text (codes "'r#") t
is_open kind t rest = is_empty rest
