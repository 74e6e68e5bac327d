-- A run and an item are read in each turn; the state is kept for the next turn, or returned.
use Rattle.std.proofs.Common.{◌≡◌, ◌<◌, ◌^◌, ◌||◌, not, true, sym, subst, arith, length}
use Rattle.litrs_base.specs.declared.quotes.Switches.{Switches}
use Rattle.litrs_lex.specs.Reading.{IsReading, IsReadBody, IsItemsEnd, IsLongerThan, IsBodyRefused}
use Rattle.litrs_lex.proofs.QuotedCuts.{refuses, ends_here}
use Rattle.litrs_lex.proofs.Readings.{read_held, read_run, read_item, no_run, quote_of, item_of, item_inside, value_small, fits}
use Rattle.litrs_lex.proofs.Sinks.{longer_by_run, longer_by_item}
use Rattle.litrs_lex.proofs.reading.read_items.Goals as goal

pub returns-in-Ok-Quote-clause-reached : goal.returns-in-Ok-Quote-clause-reached
returns-in-Ok-Quote-clause-reached g c =
    let s = c.loop-switches.invariant.1 in
    subst (λ (w : Switches). IsReadBody w c.args.input.now c.args.offset (g.S.Sink.holds c.push_run.new.self) c.loop-switches.place)
    c.switches-switches.ensures (record {
      read = read_run _ c.args.input.now _ _ _ _ _ c.utf8.input s.read s.run (c.push_run.ensures.taken c.if-not-push_run.false);
      quote = quote_of _ c.args.input.now c.range_from.result.now _ c.in-Ok-Quote.field-0-is c.range_from.ensures.value c.in-Ok-Quote.ensures.ok;
      stops = s.run.stops;
    })

pub push_run-requires-clause-small : goal.push_run-requires-clause-small
push_run-requires-clause-small g c = let s = c.loop-switches.invariant.1 in (_, (s.read.held, s.read.fits))

pub push-requires-clause-small : goal.push-requires-clause-small
push-requires-clause-small g c =
    let s = c.loop-switches.invariant.1 in
    let small : length c.args.input.now < 2 ^ 64 = omega arith in
    value_small _ c.args.input.now _ _ _ _ _ _ (read_run _ c.args.input.now _ _ _ _ (g.S.Sink.holds c.push_run.new.self) c.utf8.input s.read s.run (c.push_run.ensures.taken c.if-not-push_run.false))
    c.range_from.ensures.value (item_of _ c.range_from.result.now c.in-Ok-Item.field-0-is c.in-Ok-Item.ensures.ok) small

pub push-requires-clause-pushable : goal.push-requires-clause-pushable
push-requires-clause-pushable g c =
    fits _ g.S.Sink.takes_bytes c.in-Ok-Item.value (subst (λ (w : Switches). (not w.byte_escapes || g.S.Sink.takes_bytes) ≡ true) (sym c.switches-switches.ensures) c.requires.fits)
    (item_of _ c.range_from.result.now c.in-Ok-Item.field-0-is c.in-Ok-Item.ensures.ok).pushable

pub returns-then-not-push_run-clause-reached : goal.returns-then-not-push_run-clause-reached
returns-then-not-push_run-clause-reached g c =
    let first = g.S.Sink.room c.args.sink.now in
    let s = c.loop-switches.invariant.1 in
    let kept = c.push_run.ensures.full c.if-not-push_run.true in
    subst (λ (w : Switches). IsReading w c.args.input.now c.args.offset (g.S.Sink.holds c.push_run.new.self) (record { at = c.loop-switches.at; place = c.loop-switches.place; mask = c.loop-switches.mask })
    × IsLongerThan w c.args.input.now c.args.offset first)
    c.switches-switches.ensures (
      record {
        read = read_held _ c.args.input.now _ _ _ _ s.read (λ v held. (kept v held).0);
        run = s.run;
        after = s.after;
        mask = s.mask;
      },
      (
        c.loop-switches.place,
        read_run _ c.args.input.now _ _ _ _ (λ v. first < length v) c.utf8.input s.read s.run
            (λ v held. longer_by_run c.args.input.now v first _ _ _ c.loop-switches.invariant.0 s.run.boundary.0 (kept v held).1),
      ),
    )

pub returns-then-not-push-clause-reached : goal.returns-then-not-push-clause-reached
returns-then-not-push-clause-reached g c =
    let first = g.S.Sink.room c.args.sink.now in
    let s = c.loop-switches.invariant.1 in
    let grown = c.push_run.ensures.kept in
    let before = c.loop-switches.invariant.0 in
    let kept = c.push.ensures.full c.if-not-push.true in
    let read = read_run _ c.args.input.now _ _ _ _ (g.S.Sink.holds c.push_run.new.self) c.utf8.input s.read s.run (c.push_run.ensures.taken c.if-not-push_run.false) in
    subst (λ (w : Switches). IsReading w c.args.input.now c.args.offset (g.S.Sink.holds c.push.new.self) (record { at = c.loop-switches.place; place = c.loop-switches.place; mask = c.loop-switches.mask })
    × IsLongerThan w c.args.input.now c.args.offset first)
    c.switches-switches.ensures (
      record {
        read = read_held _ c.args.input.now _ _ _ _ read (λ v held. (kept v held).0);
        run = no_run _ _ _ _ s.run;
        after = s.after;
        mask = s.mask;
      },
      (
        _,
        read_item _ c.args.input.now _ _ _ _ _ _ (λ v. first < length v) c.utf8.input read c.range_from.ensures.value
            (item_of _ c.range_from.result.now c.in-Ok-Item.field-0-is c.in-Ok-Item.ensures.ok)
            (λ v held. longer_by_item v _ first _ (omega arith) (kept v held).1),
      ),
    )

pub loop-switches-preserved : goal.loop-switches-preserved
loop-switches-preserved g c =
    let s = c.loop-switches.invariant.1 in
    let before = c.loop-switches.invariant.0 in let run = c.push_run.ensures.kept in let item = c.push.ensures.kept in (
      omega arith,
      record {
        read = read_item _ c.args.input.now _ _ _ _ _ _ _ c.utf8.input
            (read_run _ c.args.input.now _ _ _ _ (g.S.Sink.holds c.push_run.new.self) c.utf8.input s.read s.run (c.push_run.ensures.taken c.if-not-push_run.false))
            c.range_from.ensures.value (item_of _ c.range_from.result.now c.in-Ok-Item.field-0-is c.in-Ok-Item.ensures.ok) (c.push.ensures.taken c.if-not-push.false);
        run = c.plain_end.ensures.run;
        after = c.plain_end.ensures.after;
        mask = c.plain_end.ensures.mask;
      },
    )

pub offset_span-requires : goal.offset_span-requires
offset_span-requires g c =
    let s = c.loop-switches.invariant.1 in
    let small : length c.args.input.now < 2 ^ 64 = omega arith in
    (refuses _ c.args.input.now _ _ _ _ c.in-Err.e c.utf8.input small
    (read_run _ c.args.input.now _ _ _ _ (g.S.Sink.holds c.push_run.new.self) c.utf8.input s.read s.run (c.push_run.ensures.taken c.if-not-push_run.false))
    c.range_from.ensures.value c.in-Err.ensures.refused).0

pub returns-in-Err-clause-reached : goal.returns-in-Err-clause-reached
returns-in-Err-clause-reached g c =
    let s = c.loop-switches.invariant.1 in
    let small : length c.args.input.now < 2 ^ 64 = omega arith in
    let read = read_run _ c.args.input.now _ _ _ _ (g.S.Sink.holds c.push_run.new.self) c.utf8.input s.read s.run (c.push_run.ensures.taken c.if-not-push_run.false) in
    subst (λ (w : Switches). IsItemsEnd w c.args.input.now c.args.offset (g.S.Sink.holds c.push_run.new.self) c.loop-switches.place × IsBodyRefused w c.args.input.now c.args.offset c.offset_span.result)
    c.switches-switches.ensures (
      ends_here _ c.args.input.now _ _ _ _ c.in-Err.e read s.run.stops c.range_from.ensures.value c.in-Err.ensures.refused,
      (refuses _ c.args.input.now _ _ _ _ c.in-Err.e c.utf8.input small read c.range_from.ensures.value c.in-Err.ensures.refused).1
          c.offset_span.result c.offset_span.ensures.refusal c.offset_span.ensures.char_span,
    )

pub plain_end-requires-clause-inside : goal.plain_end-requires-clause-inside
plain_end-requires-clause-inside g c =
    item_inside _ c.args.input.now _ _ _ _ c.range_from.ensures.value (item_of _ c.range_from.result.now c.in-Ok-Item.field-0-is c.in-Ok-Item.ensures.ok)
