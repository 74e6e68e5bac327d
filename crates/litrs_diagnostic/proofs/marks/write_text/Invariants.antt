-- The output so far shows the characters so far.
use Rattle.std.proofs.Common.{◌≡◌, ◌++◌, ℕ, List, length}
use Rattle.std.specs.Fmt.{HasWritten, IsPlainFormatter}
use Rattle.std.specs.Str.{chars, encode_utf8_all, IsUtf8}
use Rattle.litrs_diagnostic.specs.Shown.{shown}
use Rattle.litrs_diagnostic.proofs.marks.write_text.Given as goal

abbrev pub invariant-loop-c : goal.invariant-loop-c
invariant-loop-c g l = (done : List ℕ) × (chars l.fn.text ≡ done ++ chars l.rest) × IsUtf8 l.rest
    × (IsPlainFormatter l.fn.f → HasWritten g.W.Write.write_str_gives l.fn.f
    (encode_utf8_all (shown done)) l.f)

abbrev pub decreases-loop-c : goal.decreases-loop-c
decreases-loop-c g l = length l.rest
