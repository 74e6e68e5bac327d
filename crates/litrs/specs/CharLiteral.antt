-- Char and byte literals.
use Rattle.std.specs.Prelude.{ℕ, List}
use Rattle.litrs_base.specs.declared.quotes.CharKind.TheVariants.{Char as char_kind, Byte as byte_kind}
use Rattle.litrs_grammar.specs.CharByte.{CharParts}
use Rattle.litrs_lex.specs.CharCut.{char_parts_at}

-- A literal: its buffer, the bytes of its text, its value, and the start of its suffix.
pub record CharLiteral (B : Type 0) : Type 0 where
  pub buffer : B
  pub raw : List ℕ
  pub value : ℕ
  pub start_suffix : ℕ

-- The parts of a char.
abbrev pub char_parts : {B : Type 0} → CharLiteral B → CharParts
char_parts lit = char_parts_at char_kind lit.start_suffix lit.raw

-- The parts of a byte.
abbrev pub byte_parts : {B : Type 0} → CharLiteral B → CharParts
byte_parts lit = char_parts_at byte_kind lit.start_suffix lit.raw
