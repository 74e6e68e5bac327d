-- Float literals.
use Rattle.std.specs.Prelude.{ℕ, List}
use Rattle.litrs_lex.specs.declared.float.FloatCut.{FloatCut}
use Rattle.litrs_grammar.specs.Float.{FloatParts}
use Rattle.litrs_lex.specs.FloatCut.{float_parts_at}

-- A literal: its buffer, the bytes of its text, and the places at which it is cut.
pub record FloatLiteral (B : Type 0) : Type 0 where
  pub buffer : B
  pub raw : List ℕ
  pub cut : FloatCut

-- The parts of a float.
abbrev pub float_parts : {B : Type 0} → FloatLiteral B → FloatParts
float_parts lit = float_parts_at lit.cut lit.raw
