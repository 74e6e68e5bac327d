-- The characters so far, and those that follow, are all characters.
use Rattle.std.proofs.Common.{◌≡◌, ◌++◌, map, drop, string_bytes}
use Rattle.litrs_build.specs.RewrittenInteger.{cased}
use Rattle.litrs_build.proofs.integer_style.push_cased.Given as goal

abbrev pub invariant-loop-byte : goal.invariant-loop-byte
invariant-loop-byte l =
    string_bytes l.text ++ map (cased l.case) (drop l.byte-index l.main)
    ≡ string_bytes l.fn.text ++ map (cased l.case) l.main
