-- The characters of the escape so far, and those that are left.
use Rattle.std.proofs.Common.{◌≡◌, ◌++◌, ℕ, List}
use Rattle.std.specs.Char.Escape.{escape_unicode}
use Rattle.std.specs.Char.Iter.{escape_rest}
use Rattle.std.specs.Fmt.{HasWritten, IsPlainFormatter}
use Rattle.std.specs.Str.{encode_utf8_all}
use Rattle.litrs_diagnostic.proofs.marks.write_shown.Given as goal

abbrev pub invariant-loop-part : goal.invariant-loop-part
invariant-loop-part g l =
    IsPlainFormatter l.initial.f → (done : List ℕ)
    × HasWritten g.W.Write.write_str_gives l.initial.f (encode_utf8_all done) l.f
    × (done ++ escape_rest l.part-iterator ≡ escape_unicode l.fn.c)
