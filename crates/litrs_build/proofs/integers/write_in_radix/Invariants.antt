-- the digits of what is left, and those in the buffer, are all digits
use Rattle.std.proofs.Common.{◌≡◌, ◌≤◌, ◌++◌, map, length, drop}
use Rattle.std.specs.Char.{digit_char}
use Rattle.std.specs.Int.Digits.{digits_of}
use Rattle.litrs_build.proofs.integers.write_in_radix.Given as goal

abbrev pub invariant-loop-rest : goal.invariant-loop-rest
invariant-loop-rest g l = record {
  within : l.start ≤ 128;
  room : length l.buffer ≡ 128;
  fits : length (digits_of g.row.RADIX l.rest) ≤ l.start;
  written : map digit_char (digits_of g.row.RADIX l.rest) ++ drop l.start l.buffer
      ≡ map digit_char (digits_of g.row.RADIX l.fn.value);
}

abbrev pub decreases-loop-rest : goal.decreases-loop-rest
decreases-loop-rest g l = l.rest
