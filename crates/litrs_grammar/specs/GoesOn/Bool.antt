-- The texts that begin a bool. The Rust Reference, Literal expressions, Boolean literal
-- expressions.
use Rattle.std.specs.Prelude.{ℕ, Bool, true, false, ◌||◌, List}
use Rattle.litrs_base.specs.Text.{begins_with}
use Rattle.litrs_grammar.specs.Bool.{bool_text}

-- The text is a prefix of `true` or `false`. It may be empty.
abbrev pub bool_goes_on : List ℕ → Bool
bool_goes_on t = begins_with t (bool_text true) || begins_with t (bool_text false)
