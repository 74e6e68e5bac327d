-- The end of the comment is the end of those that are open in the rest.
use Rattle.std.proofs.Common.{◌≡◌, ◌+◌, ◌≤◌, length}
use Rattle.std.specs.Str.{chars}
use denote.Text.{Utf8}
use denote.Shadow.{shadow}
use Rattle.litrs_prefix.specs.Ends.{IsEndOf}
use Rattle.litrs_lexer.proofs.Blocks.{block_end}
use Rattle.litrs_lexer.proofs.comment.after_block.Given as goal

abbrev pub invariant-loop-c : goal.invariant-loop-c
invariant-loop-c l =
    shadow (Utf8 l.rest) × (block_end 0 (chars l.text) ≡ block_end l.depth (chars l.rest)) × IsEndOf l.text l.rest × (l.depth + length l.rest ≤ length l.text)

abbrev pub decreases-loop-c : goal.decreases-loop-c
decreases-loop-c l = length l.rest
