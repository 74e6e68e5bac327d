-- the digits of what is left, and those in the buffer, are all digits; before them are zeros
use Rattle.std.proofs.Common.{◌≡◌, ◌≤◌, ◌++◌, length, take, drop, replicate}
use Rattle.litrs_base.specs.declared.integer.IntegerBase.TheVariants.{Decimal}
use Rattle.litrs_build.specs.WrittenDigits.{written_digits}
use Rattle.litrs_build.proofs.integers.write_decimal.Given as goal

abbrev pub invariant-loop-rest : goal.invariant-loop-rest
invariant-loop-rest l = record {
  within : l.end ≤ 128;
  room : length l.buffer ≡ 128;
  fits : length (written_digits Decimal l.rest) ≤ l.end;
  zeros : take l.end l.buffer ≡ replicate l.end 48;
  written : written_digits Decimal l.rest ++ drop l.end l.buffer
      ≡ written_digits Decimal l.fn.value;
}

abbrev pub decreases-loop-rest : goal.decreases-loop-rest
decreases-loop-rest l = l.rest
