-- the bytes so far are written
use Rattle.std.proofs.Common.{◌≡◌, ◌++◌}
use Rattle.std.specs.Prelude.{string_bytes}
use Rattle.std.specs.Slice.Iter.{chunks_rest, chunks_size}
use Rattle.litrs_lines.specs.Report.{hex_bytes}
use Rattle.litrs_lines.proofs.report.push_hex.Given as goal

abbrev pub invariant-loop-piece : goal.invariant-loop-piece
invariant-loop-piece l =
    (goal.iterator-loop-piece).can_next l.piece-iterator
    × (goal.iterator-loop-piece).is_finite l.piece-iterator
    × (chunks_size l.piece-iterator ≡ 32)
    × (string_bytes l.out ++ hex_bytes (chunks_rest l.piece-iterator) ≡ string_bytes l.fn.out ++ hex_bytes l.bytes)
