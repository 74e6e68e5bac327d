-- Integer literals.
use Rattle.std.specs.Prelude.{ℕ, List}
use Rattle.litrs_lex.specs.declared.integer.IntegerCut.{IntegerCut}
use Rattle.litrs_grammar.specs.Integer.{IntegerParts}
use Rattle.litrs_lex.specs.IntegerCut.{integer_parts_at}

-- A literal: its buffer, the bytes of its text, and the places at which it is cut.
pub record IntegerLiteral (B : Type 0) : Type 0 where
  pub buffer : B
  pub raw : List ℕ
  pub cut : IntegerCut

-- The parts of an integer.
abbrev pub integer_parts : {B : Type 0} → IntegerLiteral B → IntegerParts
integer_parts lit = integer_parts_at lit.cut lit.raw
