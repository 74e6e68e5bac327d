-- The rest has the same first delimiter as the text.
use Rattle.litrs_prefix.proofs.Words.{◌≡◌, length, chars, Utf8, shadow, from_first}
use Rattle.litrs_prefix.proofs.until.from_first.Given as goal

abbrev pub invariant-loop-c : goal.invariant-loop-c
invariant-loop-c l =
    shadow (Utf8 l.rest) × (from_first (chars l.delimiters) (chars l.rest) ≡ from_first (chars l.delimiters) (chars l.text))

abbrev pub decreases-loop-c : goal.decreases-loop-c
decreases-loop-c l = length l.rest
