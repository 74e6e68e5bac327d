-- The numbers whose value as a float needs memory.
use Rattle.std.specs.Prelude.{◌⊎◌, ℕ, List, IsTrue}
use Rattle.std.specs.List.{list_any}
use Rattle.litrs_grammar.specs.Float.{number_part, is_underscore}
use Rattle.litrs_grammar.specs.Literal.{Derivation, an_integer, a_float}
use Rattle.litrs_grammar.specs.Refused.{MayLackMemory}
use Rattle.litrs_value.specs.Refuses.{IsLargeWithUnderscore}
use Rattle.litrs_c.specs.Answers.{IsLiteralAnd}

-- The number has underscores, and its digits are copied without them: those of a float, or of an
-- integer in base ten that is at least 2^64.
abbrev pub IsCopied : Derivation → Type 0
IsCopied (a_float d) = IsTrue (list_any is_underscore (number_part d))
IsCopied (an_integer d) = IsLargeWithUnderscore d
IsCopied _ = ⊥

-- The text is a number whose digits are copied, or another literal whose value is allocated and
-- takes memory.
abbrev pub LacksNumberMemory : List ℕ → Type 0
LacksNumberMemory t = MayLackMemory t ⊎ IsLiteralAnd t IsCopied
