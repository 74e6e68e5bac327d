-- The characters so far are written.
use Rattle.std.proofs.Common.{◌≡◌, string_bytes}
use Rattle.std.specs.Str.{encode_utf8_all}
use Rattle.litrs_explanation.specs.Explanation.{escaped}
use Rattle.litrs_explanation.proofs.push_suffix.Given as goal

abbrev pub invariant-loop-c : goal.invariant-loop-c
invariant-loop-c l = string_bytes l.shown ≡ encode_utf8_all (escaped l.yielded)
