-- The extent of the literal at the front of a text, valid or malformed, in bytes.
use Rattle.std.specs.Prelude.{◌≡◌, ◌<◌, ℕ, Bool, List, Option, Some, None, take, drop}
use Rattle.std.specs.Str.{chars, IsCharBoundary}
use Rattle.litrs_base.specs.Derivations.{HasNoDerivation}
use Rattle.litrs_grammar.specs.Literal.{Derivation, IsLiteral}
use Rattle.litrs_prefix.specs.MayChange.{IsMalformedFront}
use Rattle.litrs_prefix.specs.Prefix.{may_follow, HasPrefix}

-- The first `len` bytes are the literal at the front.
pub record IsLiteralLen (bytes : List ℕ) (len : ℕ) : Type 0 where
  pub boundary : IsCharBoundary bytes len
  pub literal : Derivation
  pub at_front : HasPrefix (chars bytes) literal (chars (drop len bytes))

-- The first `len` bytes, one or more, are the malformed prefix.
pub record IsMalformedLen (bytes : List ℕ) (len : ℕ) : Type 0 where
  pub boundary : IsCharBoundary bytes len
  pub some : 0 < len
  pub front : IsMalformedFront (chars bytes) (chars (take len bytes))

-- The result of the test of a piece: `None` if it is not a literal, and otherwise whether the rest
-- may follow the literal.
abbrev pub IsJudged : Option Bool → (piece rest : List ℕ) → Type 0
IsJudged None piece rest = HasNoDerivation (IsLiteral piece)
IsJudged (Some ends) piece rest =
    (d : Derivation) × IsLiteral piece d × (may_follow d rest ≡ ends)

-- Like `IsJudged`, for the literals of one kind, whose parts have the type `D`.
abbrev pub IsJudgedBy : {D : Type 0} → (D → Type 0) → (D → Bool) → Option Bool → Type 0
IsJudgedBy {D} Derives ends None = HasNoDerivation Derives
IsJudgedBy {D} Derives ends (Some v) = (d : D) × Derives d × (ends d ≡ v)
