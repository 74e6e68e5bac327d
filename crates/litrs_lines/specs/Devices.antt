-- The effect of a call of an input or an output.
use Rattle.std.specs.Prelude.{◌≡◌, Bool, true, Result, MatchResult}

-- A device has failed after a call if the call fails, or if it had failed before.
abbrev pub RecordsFailure : {A E : Type 0} → Bool → Bool → Result A E → Type 0
RecordsFailure old new result = MatchResult result (λ _. new ≡ old) (λ _. new ≡ true)
