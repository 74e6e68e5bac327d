-- The rest is an end of the text, and what follows the white space is the same.
use Rattle.std.proofs.Common.{◌≡◌, length}
use Rattle.std.specs.Str.{chars}
use denote.Text.{Utf8}
use denote.Shadow.{shadow}
use Rattle.litrs_lexer.specs.Whitespace.{after_white_space}
use Rattle.litrs_prefix.specs.Ends.{IsEndOf}
use Rattle.litrs_lexer.proofs.whitespace.after_any_white_space.Given as goal

abbrev pub invariant-loop-c : goal.invariant-loop-c
invariant-loop-c l = shadow (Utf8 l.rest) × (after_white_space (chars l.rest) ≡ after_white_space (chars l.text)) × IsEndOf l.text l.rest

abbrev pub decreases-loop-c : goal.decreases-loop-c
decreases-loop-c l = length l.rest
