-- The digits so far, and those that follow, are all digits.
use Rattle.std.proofs.Common.{◌≡◌, ◌++◌, length, map, drop, string_bytes}
use Rattle.std.specs.Prelude.{filter}
use Rattle.litrs_base.specs.Numeral.{is_no_underscore}
use Rattle.litrs_build.specs.RewrittenInteger.{cased}
use Rattle.litrs_build.specs.WrittenDigits.{grouped}
use Rattle.litrs_build.proofs.integer_style.push_cased_groups.Given as goal

abbrev pub invariant-loop-byte : goal.invariant-loop-byte
invariant-loop-byte l = record {
  count : l.after ≡ length (filter is_no_underscore (drop l.byte-index l.main));
  written : string_bytes l.text
      ++ grouped l.group (map (cased l.case) (filter is_no_underscore (drop l.byte-index l.main)))
      ≡ string_bytes l.fn.text
      ++ grouped l.group (map (cased l.case) (filter is_no_underscore l.main));
}
