-- Laws of the tokens at the front of texts.
use Rattle.std.specs.Prelude.{◌≡◌, ℕ, List, ◌++◌, IsFalse}
use Rattle.litrs_base.specs.Text.{IsText, byte_len}
use Rattle.litrs_grammar.specs.Bool.{is_bool}
use Rattle.litrs_prefix.specs.Malformed.{IsMalformed}
use Rattle.litrs_prefix.specs.Opens.{first_name}
use Rattle.litrs_prefix.specs.declared.MalformedPrefix.{MalformedPrefix}
use Rattle.litrs_lexer.specs.MayChange.{Cut, HasTokens, HasSettledTokens}
use Rattle.litrs_lexer.specs.Token.{IsToken}
use Rattle.litrs_lexer.specs.declared.kind.TokenKind.{TokenKind}
use Rattle.litrs_lexer.specs.declared.kind.TokenKind.TheVariants.{MalformedLiteral}

-- A text has at most one token at its front.
abbrev pub TokensAreUnique : Type 0
TokensAreUnique = (t : List ℕ) (k j : TokenKind) (r u : List ℕ) →
    IsToken k t r → IsToken j t u → (k ≡ j) × (r ≡ u)

-- If `parse_prefix` reports a malformed literal, the text has a token of this kind and length at
-- its front, unless it starts with a bool, which is a prefix here.
abbrev pub MalformedPrefixesAreTokens : Type 0
MalformedPrefixesAreTokens = (t : List ℕ) (e : MalformedPrefix) →
    IsMalformed t e → IsFalse (is_bool (first_name t)) →
    (front rest : List ℕ) × (front ++ rest ≡ t) × (byte_len front ≡ e.len)
    × IsToken MalformedLiteral t rest

-- Tokens that no longer text changes are those of each longer text.
abbrev pub SettledTokensStay : Type 0
SettledTokensStay = (t rest more : List ℕ) (cuts : List Cut) → IsText more →
    HasSettledTokens t cuts rest → HasTokens (t ++ more) cuts (rest ++ more)
