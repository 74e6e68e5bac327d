use Rattle.std.proofs.Common.{false, inl, refl, arith, ap, ◌∙◌, length, length-take, rules}
use Rattle.std.proofs.KnownBytes.{Appends-kept, Keeps-refl}
use Rattle.std.proofs.lemmas.Result.{err_from_is_err_and}
use Rattle.litrs_lines.proofs.LinesLemmas.{runs_none, none_read, none_run, line_unended, runs_more, runs_same, same_of, stops_at_read, stops_in_piece, stops_at_end, ends_run, one_more_read, known_reads, OnOk-holds, OnErr-holds, take_none}
use Rattle.litrs_lines.proofs.Sending.{writes_these, writes_whole, appends_same, begins_same, begins_rest}
use Rattle.litrs_lines.proofs.run.Goals as goal

pub loop-turn-init : goal.loop-turn-init
loop-turn-init g c = record {
  reader_works = c.requires.reader_works;
  writer_works = c.requires.writer_works;
  written = c.new-unwritten.ensures.bytes;
  reads = inl (refl, refl);
  runs = runs_none _ _ _ _ c.new-line.ensures.items c.new-collector.ensures;
}

pub returns-in-Err-clause-err : goal.returns-in-Err-clause-err
returns-in-Err-clause-err g c = stops_at_read c.loop-turn.invariant.runs _ c.in-Err.ensures.bytes

pub returns-in_err-finish-clause-err : goal.returns-in_err-finish-clause-err
returns-in_err-finish-clause-err g c =
    let read = c.in-Ok.ensures.bytes in
    let all = c.in_err-finish.ensures.adds.adds in
    OnErr-holds _ (stops_at_end c.loop-turn.invariant.runs _ _ _ _ all.1 c.as_slice.ensures.value read.0 (take_none _ _ (omega arith)) (read.1 (omega arith) (omega arith)) all.2
    (begins_same _ _ _ _ (ap g.O.Output.contents (search rules)) (begins_rest _ _ _ _ c.loop-turn.invariant.written all.3)))

pub returns-then-count-eq0-clause-ok : goal.returns-then-count-eq0-clause-ok
returns-then-count-eq0-clause-ok g c =
    let read = c.in-Ok.ensures.bytes in
    let all = c.in_ok-finish.ensures.adds.adds in
    OnOk-holds _ (ends_run c.loop-turn.invariant.runs _ _ _ _ all.0 c.as_slice.ensures.value read.0 (take_none _ _ (omega arith)) (read.1 (omega arith) (omega arith)) all.1
    (appends_same _ _ _ _ (ap g.O.Output.contents (search rules)) (Appends-kept _ _ _ all.0 (writes_these _ _ _ _ _ all.2 c.loop-turn.invariant.written c.in_ok-finish.ensures.written) c.flush.ensures.bytes)))

pub returns-then-count-eq0-clause-flush : goal.returns-then-count-eq0-clause-flush
returns-then-count-eq0-clause-flush g c = λ failed other.
    let read = c.in-Ok.ensures.bytes in
    let all = c.in_ok-finish.ensures.adds.adds in
    ends_run c.loop-turn.invariant.runs _ _ _ _ all.0 c.as_slice.ensures.value read.0 (take_none _ _ (omega arith)) (read.1 (omega arith) (omega arith)) all.1
    (appends_same _ _ _ _ (ap g.O.Output.contents (search rules)) (Appends-kept _ _ _ all.0 (writes_these _ _ _ _ _ all.2 c.loop-turn.invariant.written c.in_ok-finish.ensures.written) c.flush.ensures.bytes))

pub returns-then-count-eq0-clause-err : goal.returns-then-count-eq0-clause-err
returns-then-count-eq0-clause-err g c =
    let read = c.in-Ok.ensures.bytes in
    let all = c.in_ok-finish.ensures.adds.adds in
    OnErr-holds _ (stops_at_end c.loop-turn.invariant.runs _ _ _ _ all.0 c.as_slice.ensures.value read.0 (take_none _ _ (omega arith)) (read.1 (omega arith) (omega arith)) all.1
    (writes_whole _ _ all.0 (appends_same _ _ _ _ (ap g.O.Output.contents (search rules))
    (Appends-kept _ _ _ all.0 (writes_these _ _ _ _ _ all.2 c.loop-turn.invariant.written c.in_ok-finish.ensures.written) c.flush.ensures.bytes))))

pub process_piece-requires : goal.process_piece-requires
process_piece-requires g c = line_unended c.loop-turn.invariant.runs

pub returns-in_err-process_piece-clause-err : goal.returns-in_err-process_piece-clause-err
returns-in_err-process_piece-clause-err g c =
    let part = c.in_err-process_piece.ensures.adds.adds in
    OnErr-holds _ (stops_in_piece c.loop-turn.invariant.runs _ _ _ part.0 part.1 c.in-Ok.ensures.bytes.0 part.2
    (begins_same _ _ _ _ (ap g.O.Output.contents (search rules)) (begins_rest _ _ _ _ c.loop-turn.invariant.written part.3)))

pub loop-turn-preserved : goal.loop-turn-preserved
loop-turn-preserved g c =
    let left = c.in_ok-process_piece.ensures.adds in
    let all = left.adds in
    record {
      reader_works = c.in-Ok.ensures.failed ∙ c.loop-turn.invariant.reader_works;
      writer_works = same_of g.O.Output.has_failed _ c.process_piece.new.reporter.writer.now false (search rules) (left.failure ∙ c.loop-turn.invariant.writer_works);
      written = search (rules, c.in_ok-process_piece.ensures.written);
      reads = one_more_read g.I.Input.are_reads _ _ _ _ c.loop-turn.invariant.reads c.read.ensures.one_read c.read.ensures.one_more;
      runs = runs_same _ _ _ _ _ _ _ _ _ (ap g.O.Output.contents (search rules)) (search rules)
          (runs_more c.loop-turn.invariant.runs _ _ _ _ _ all.0 c.in-Ok.ensures.bytes.0 c.in_ok-process_piece.ensures.line all.1
          (writes_these _ _ _ _ _ all.2 c.loop-turn.invariant.written c.in_ok-process_piece.ensures.written) (rw length-take (omega arith)));
    }

pub returns-clause-err : goal.returns-clause-err
returns-clause-err g c = stops_at_read c.loop-turn.invariant.runs _ (Keeps-refl _)

pub returns-clause-read_known : goal.returns-clause-read_known
returns-clause-read_known g c = λ _ known.
    let few = known_reads _ _ _ _ _ _ _ c.loop-turn.invariant.runs known (g.met.I.Input.few c.args.reader.now) in
    absurd (omega (arith, c.loop-turn-test.false))

pub returns-in_err-finish-clause-memory : goal.returns-in_err-finish-clause-memory
returns-in_err-finish-clause-memory g c = λ none is.
    let p = err_from_is_err_and c.from_residual.result c.from_residual.ensures.1 in
    let nothing = none_run c.loop-turn.invariant.runs none in
    c.in_err-finish.ensures.memory (c.as_slice.ensures.value ∙ nothing.0) nothing.1 cc

pub returns-in_err-process_piece-clause-memory : goal.returns-in_err-process_piece-clause-memory
returns-in_err-process_piece-clause-memory g c = λ none _.
    let nothing = none_read c.loop-turn.invariant.runs none _ _ c.in-Ok.ensures.bytes.0 in
    let size = ap length nothing in
    omega (arith, size, length-take c.in-Ok.count c.read.new.buffer, c.in-Ok.ensures.bound)
