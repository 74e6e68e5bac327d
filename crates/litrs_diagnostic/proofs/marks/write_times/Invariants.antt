-- The characters that are left, and those that were written.
use Rattle.std.proofs.Common.{◌≡◌, ◌+◌, ℕ, replicate}
use Rattle.std.specs.Fmt.{HasWritten, IsPlainFormatter}
use Rattle.std.specs.Str.{encode_utf8_all}
use Rattle.litrs_diagnostic.specs.Shown.{glyph_char}
use Rattle.litrs_diagnostic.proofs.marks.write_times.Given as goal

abbrev pub invariant-loop-left : goal.invariant-loop-left
invariant-loop-left g l = (done : ℕ) × (done + l.left ≡ l.fn.count)
    × (IsPlainFormatter l.fn.f → HasWritten g.W.Write.write_str_gives l.fn.f
    (encode_utf8_all (replicate done (glyph_char l.fn.glyph))) l.f)

abbrev pub decreases-loop-left : goal.decreases-loop-left
decreases-loop-left g l = l.left
