-- The digits so far, and those that follow, are all digits.
use Rattle.std.proofs.Common.{◌≡◌, ◌≤◌, ◌++◌, drop, string_bytes}
use Rattle.std.specs.Prelude.{filter}
use Rattle.litrs_base.specs.Numeral.{is_no_underscore}
use Rattle.litrs_build.specs.RewrittenFloat.{grouped_after}
use Rattle.litrs_build.proofs.float_style.push_groups_after.Given as goal

abbrev pub invariant-loop-byte : goal.invariant-loop-byte
invariant-loop-byte l = record {
  within : l.before ≤ l.byte-index;
  written : string_bytes l.text
      ++ grouped_after l.group l.before (filter is_no_underscore (drop l.byte-index l.main))
      ≡ string_bytes l.fn.text ++ grouped_after l.group 0 (filter is_no_underscore l.main);
}
