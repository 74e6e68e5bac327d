-- Literals, valid or malformed. The Rust Reference, Tokens: "Literals", "Suffixes" and "Reserved
-- forms similar to number literals".
use Rattle.std.specs.Prelude.{ℕ, Bool, not, ◌≡◌, ◌&&◌, List, ◌++◌, IsTrue}
use Rattle.litrs_base.specs.Refusal.{refusal_of, char_span_of, shifted, shifted_span}
use Rattle.litrs_base.specs.declared.err.ParseError.{ParseError}
use Rattle.litrs_grammar.specs.Bool.{is_bool}
use Rattle.litrs_grammar.specs.Literal.{Derivation, IsLiteral, literal_parse}
use Rattle.litrs_grammar.specs.Refused.{IsRefusedOrOutOfMemory}
use Rattle.litrs_prefix.specs.Piece.{IsPiece}
use Rattle.litrs_prefix.specs.Opens.{first_name, opens}
use Rattle.litrs_prefix.specs.Prefix.{HasPrefix, HasNoPrefix}

-- The text starts with the beginning of a literal that is not a bool. This is a digit, a quote, or
-- the front of a literal with a prefix, as `b"` and `r#"`.
abbrev pub opens_quoted : List ℕ → Bool
opens_quoted t = opens t && not (is_bool (first_name t))

-- A literal is at the front of the text, up to the rest: the one that `litrs_prefix` finds there.
abbrev pub IsLiteralToken : (t rest : List ℕ) → Type 0
IsLiteralToken t rest = (d : Derivation) × HasPrefix t d rest

-- A malformed literal is at the front of the text, up to the rest. A literal begins there that is
-- not a bool, none is valid there, and the piece that `litrs_prefix` takes for it is not a literal.
abbrev pub IsMalformedLiteral : (t rest : List ℕ) → Type 0
IsMalformedLiteral t rest =
    IsTrue (opens_quoted t) × HasNoPrefix t
    × ((front : List ℕ) × (front ++ rest ≡ t) × IsPiece t front
    × ((d : Derivation) → IsLiteral front d → ⊥))

-- The error of the text as a literal, or of an allocation. The text starts `start` bytes into a
-- source, and the spans of the error count from the start of the source.
pub record IsRefusedAt (start : ℕ) (text : List ℕ) (error : ParseError) : Type 0 where
  pub of_text : ParseError
  pub refused : IsRefusedOrOutOfMemory literal_parse text of_text
  pub refusal : refusal_of error ≡ shifted start (refusal_of of_text)
  pub char_span : char_span_of error ≡ shifted_span start (char_span_of of_text)
