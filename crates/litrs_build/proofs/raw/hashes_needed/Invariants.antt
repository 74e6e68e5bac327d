-- The longest run so far, the one that continues, and those of the rest have the longest of all.
use Rattle.std.proofs.Common.{◌≡◌, ◌+◌, ◌≤◌, chars, IsUtf8, length}
use Rattle.std.specs.Str.Iter.{chars_rest}
use Rattle.litrs_build.specs.Raw.{greater, hashes_needed}
use Rattle.litrs_build.proofs.Hashes.{pending}
use Rattle.litrs_build.proofs.raw.hashes_needed.Given as goal

abbrev pub invariant-loop-c : goal.invariant-loop-c
invariant-loop-c l =
    let rest = chars_rest l.rest in
    IsUtf8 rest × (l.run + length rest ≤ length l.fn.value) × (l.run ≤ l.most)
    × (greater (greater l.most (pending l.run (chars rest))) (hashes_needed (chars rest))
    ≡ hashes_needed (chars l.fn.value))
