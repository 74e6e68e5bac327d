-- the bytes so far are hex digits and underscores, at most six digits, and the number is theirs
use Rattle.std.proofs.Common.{◌≡◌, ◌≤◌, ◌<◌, ◌^◌, ◌-◌, true, length, take}
use Rattle.std.specs.Prelude.{count_by}
use Rattle.std.specs.Char.{is_ascii_hexdigit}
use Rattle.std.specs.List.{list_all}
use Rattle.litrs_grammar.specs.Escape.{is_hex_or_underscore, hex_value}
use Rattle.litrs_lex.proofs.escape.hex_digits.Given as goal

abbrev pub invariant-loop-len : goal.invariant-loop-len
invariant-loop-len l = record {
  within : l.len ≤ length l.bytes;
  passes : list_all is_hex_or_underscore (take l.len l.bytes) ≡ true;
  count : count_by is_ascii_hexdigit (take l.len l.bytes) ≡ l.count;
  few : l.count ≤ 6;
  value : hex_value (take l.len l.bytes) ≡ l.value;
  small : l.value < 16 ^ l.count;
}

abbrev pub decreases-loop-len : goal.decreases-loop-len
decreases-loop-len l = length l.bytes - l.len
