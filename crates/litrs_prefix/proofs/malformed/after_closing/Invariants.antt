-- The text after the first closing of the rest is that of the text.
use Rattle.litrs_prefix.proofs.Words.{◌≡◌, length, Utf8, shadow, chars, after_closing}
use Rattle.litrs_prefix.proofs.malformed.after_closing.Given as goal

abbrev pub invariant-loop-c : goal.invariant-loop-c
invariant-loop-c l = shadow (Utf8 l.rest) × (after_closing l.hashes (chars l.rest) ≡ after_closing l.hashes (chars l.text))

abbrev pub decreases-loop-c : goal.decreases-loop-c
decreases-loop-c l = length l.rest
