-- The texts that begin a string of a kind without starting with a front of the kind. The Rust
-- Reference, Tokens, Literals.
use Rattle.std.specs.Prelude.{ℕ, Bool, ◌||◌, List}
use Rattle.litrs_base.specs.Text.{begins_with}
use Rattle.litrs_base.specs.declared.quotes.StringKind.{StringKind}
use Rattle.litrs_base.specs.Quotes.{quoted_front, raw_front}

-- `true` iff one of the two fronts of the kind starts with the text, which may be empty.
abbrev pub start_goes_on : StringKind → List ℕ → Bool
start_goes_on kind t = begins_with t (quoted_front kind) || begins_with t (raw_front kind)
