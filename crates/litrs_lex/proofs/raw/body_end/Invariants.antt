-- The search has come past the quotes that do not close the body, to a byte that it stops at.
use Rattle.std.proofs.Common.{◌-◌, ◌≤◌, length}
use Rattle.litrs_lex.specs.Mask.{IsMaskOf}
use Rattle.litrs_lex.specs.RawCut.{IsStop, raw_special}
use Rattle.litrs_lex.proofs.raw.body_end.Given as goal

abbrev pub invariant-loop-what : goal.invariant-loop-what
invariant-loop-what l =
    IsStop l.fn.allowed.unicode l.fn.allowed.allow_nul l.hashes l.start l.bytes l.place
    × (l.mask.start ≤ l.place) × IsMaskOf (raw_special l.fn.allowed.unicode l.fn.allowed.allow_nul) l.bytes l.mask

abbrev pub decreases-loop-what : goal.decreases-loop-what
decreases-loop-what l = length l.bytes - l.place
