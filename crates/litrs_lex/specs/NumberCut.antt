-- The places at which a number is cut. The start of the text decides if it is an integer or a
-- float.
use Rattle.std.specs.Prelude.{ℕ, List, if◌then◌else◌}
use Rattle.std.specs.Str.{chars}
use Rattle.litrs_base.specs.Derivations.{IsOnlyDerivation}
use Rattle.litrs_grammar.specs.Integer.{IsIntegerOf}
use Rattle.litrs_grammar.specs.Float.{IsFloatOf}
use Rattle.litrs_grammar.specs.Literal.{LiteralKind, integer_literal, float_literal}
use Rattle.litrs_grammar.specs.LiteralRefusals.{begins_with_float}
use Rattle.litrs_lex.specs.declared.number.NumberCut.{NumberCut}
use Rattle.litrs_lex.specs.declared.number.NumberCut.TheVariants as number
use Rattle.litrs_lex.specs.IntegerCut.{integer_parts_at, IsIntegerWithin}
use Rattle.litrs_lex.specs.FloatCut.{float_parts_at, IsFloatWithin}

-- The kind of number as which a text is parsed.
abbrev pub number_kind : List ℕ → LiteralKind
number_kind t = if begins_with_float t then float_literal else integer_literal

-- The parts of the cut are the only derivation of the text as a number of its kind.
abbrev pub IsNumberCut : NumberCut → List ℕ → Type 0
IsNumberCut (number.Integer cut) bytes =
    IsOnlyDerivation (IsIntegerOf (chars bytes)) (integer_parts_at cut bytes)
    × IsIntegerWithin cut bytes
IsNumberCut (number.Float cut) bytes =
    IsOnlyDerivation (IsFloatOf (chars bytes)) (float_parts_at cut bytes)
    × IsFloatWithin cut bytes
