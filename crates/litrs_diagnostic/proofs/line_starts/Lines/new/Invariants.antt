-- The starts so far, and the start of the line that is read next.
use Rattle.std.proofs.Common.{◌≤◌, ◌<◌, ◌-◌, ℕ, length, slice_index}
use Rattle.std.specs.List.Sorted.{IsNonDecreasing}
use Rattle.litrs_diagnostic.specs.Lines.{IsLineStart, AreLineStarts}
use Rattle.litrs_diagnostic.proofs.line_starts.Lines.new.Given as goal

abbrev pub invariant-loop-len : goal.invariant-loop-len
invariant-loop-len l = record {
  here : IsLineStart l.source (length l.starts.items) l.start;
  starts : AreLineStarts l.source l.starts.items;
  sorted : IsNonDecreasing l.starts.items;
  last : (k : ℕ) → k < length l.starts.items → slice_index l.starts.items k ≤ l.start;
}

abbrev pub decreases-loop-len : goal.decreases-loop-len
decreases-loop-len l = length l.source - l.start
