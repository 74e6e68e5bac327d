-- The answers of the calls for a text, which is a list of characters, or of bytes.
use Rattle.std.specs.Prelude.{◌≡◌, ℕ, ◌+◌, List, ◌++◌, Some, length, take, drop}
use Rattle.litrs_base.specs.declared.err.ParseError.{ParseError}
use Rattle.litrs_base.specs.Derivations.{IsOnlyDerivation}
use Rattle.litrs_base.specs.Refusal.{refusal_of, refusal_text}
use Rattle.litrs_grammar.specs.Literal.{Derivation, IsLiteral, literal_parse}
use Rattle.litrs_grammar.specs.Refused.{IsRefused}
use Rattle.litrs_c.specs.LiteralFields.{bytes_of}

-- The text is a literal, and the condition holds for its only derivation.
abbrev pub IsLiteralAnd : List ℕ → (Derivation → Type 0) → Type 0
IsLiteralAnd t Says = (d : Derivation) × IsOnlyDerivation (IsLiteral t) d × Says d

-- The text is refused, and the condition holds for the error.
abbrev pub IsRefusedAnd : List ℕ → (ParseError → Type 0) → Type 0
IsRefusedAnd t Says = (e : ParseError) × IsRefused literal_parse t e × Says e

-- The room with as many of the bytes as fit at its front. The rest of the room is unchanged.
abbrev pub filled : (bytes room : List ℕ) → List ℕ
filled bytes room = take (length room) bytes ++ drop (length bytes) room

-- The number of bytes is `wanted`, and those that fit were written.
pub record IsWritten (bytes old new : List ℕ) (wanted : ℕ) : Type 0 where
  pub len : wanted ≡ length bytes
  pub room : new ≡ filled bytes old

-- Like `filled`, from a place of the room on.
abbrev pub filled_from : ℕ → (bytes room : List ℕ) → List ℕ
filled_from place bytes room = take place room ++ filled bytes (drop place room)

-- A part from `place` up to `end` was written, as much as fits.
pub record IsWrittenFrom (place : ℕ) (bytes old new : List ℕ) (end : ℕ) : Type 0 where
  pub ends : end ≡ place + length bytes
  pub room : new ≡ filled_from place bytes old

-- Nothing was written.
abbrev pub IsKept : (old new : List ℕ) → ℕ → Type 0
IsKept old new len = (len ≡ 0) × (new ≡ old)

-- The value of a string of one of the three kinds was written.
pub record WritesValue (old new : List ℕ) (len : ℕ) (d : Derivation) : Type 0 where
  pub bytes : List ℕ
  pub value : bytes_of d ≡ Some bytes
  pub written : IsWritten bytes old new len

-- The message of an error was written.
abbrev pub WritesMessage : (old new : List ℕ) → ℕ → ParseError → Type 0
WritesMessage old new len e = IsWritten (refusal_text (refusal_of e)) old new len
