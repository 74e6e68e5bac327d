-- The texts that begin a literal and are not dispatched to a kind. The Rust Reference, Tokens,
-- Literals.
use Rattle.std.specs.Prelude.{ℕ, Bool, ◌||◌, List, codes}
use Rattle.litrs_base.specs.Text.{begins_with}
use Rattle.litrs_grammar.specs.GoesOn.Bool.{bool_goes_on}

-- `true` iff the text is a prefix of `true` or `false`, which may be empty, or `b` alone, with
-- which a byte or a byte string starts.
abbrev pub undispatched_goes_on : List ℕ → Bool
undispatched_goes_on t = bool_goes_on t || begins_with t (codes "b")
