-- Places in a text.
use Rattle.std.specs.Prelude.{◌≡◌, ◌≤◌, ◌+◌, ℕ, List, length, slice_range}
use Rattle.std.specs.Str.{IsCharBoundary}
use Rattle.std.specs.declared.ops.Range.{Range}
use Rattle.litrs_base.specs.CharEnd.{IsCutBy}
use Rattle.litrs_lexer.specs.declared.token.Token.{Token}
use Rattle.litrs_explain.specs.declared.explainer.Mark.{Mark}
use Rattle.litrs_explain.specs.declared.explainer.Marks.{Marks}

-- The range of a token, in bytes.
abbrev pub range_of : Token → Range ℕ
range_of token = record { start = token.start; end = token.start + length token.text.now }

-- The text has the token at its place.
pub record IsTokenOf (text : List ℕ) (token : Token) : Type 0 where
  pub cuts : IsCutBy text (range_of token)
  pub spells : slice_range text token.start (range_of token).end ≡ token.text.now

-- The text can be cut at the mark, which is not after the place `at`.
pub record IsMark (text : List ℕ) (at : ℕ) (mark : Mark) : Type 0 where
  pub boundary : IsCharBoundary text mark.at
  pub before : mark.at ≤ at

-- This holds for both marks.
pub record AreMarks (text : List ℕ) (at : ℕ) (marks : Marks) : Type 0 where
  pub literal : IsMark text at marks.literal
  pub error : IsMark text at marks.error
