-- The text after the closing of the rest is that after the closing of the text.
use Rattle.litrs_prefix.proofs.Words.{◌≡◌, false, length, Utf8, shadow, chars, past_closing}
use Rattle.litrs_prefix.proofs.malformed.after_quote.Given as goal

abbrev pub invariant-loop-c : goal.invariant-loop-c
invariant-loop-c l = shadow (Utf8 l.rest) × (past_closing l.quote l.in_line l.escaped (chars l.rest) ≡ past_closing l.quote l.in_line false (chars l.text))

abbrev pub decreases-loop-c : goal.decreases-loop-c
decreases-loop-c l = length l.rest
