-- The contents of the room, and then the rest, which fits.
use Rattle.std.proofs.Common.{◌∙◌, ap, length, arith, length-append}
use Rattle.litrs_lex.proofs.QuotedValues.{held_is_utf8, whole_value, begun_value, within_is_not_longer, none_refused}
use Rattle.litrs_lex.proofs.string.fill_container.Goals as goal

pub copied-requires-clause-text : goal.copied-requires-clause-text
copied-requires-clause-text g c = λ none. held_is_utf8 _ c.args.input.now _ _ _ g.C.EscapeContainer.TAKES_BYTES c.utf8.input c.requires.from.read c.requires.fits none

pub copied-requires-clause-room : goal.copied-requires-clause-room
copied-requires-clause-room g c =
    let read = c.requires.from.read in let within = c.requires.room in
    let most = begun_value _ c.args.input.now _ _ _ within.parts read within.grammar in
    let fits = within.fits in omega (arith, ap length read.held)

pub finish-requires-clause-room : goal.finish-requires-clause-room
finish-requires-clause-room g c =
    let body = c.in-Quote.ensures.reached in let within = c.requires.room in
    let fits = within.fits in let copied = c.copied.ensures.kept in let kept = c.in-Quote.ensures.kept in
    omega (
      arith,
      ap length (whole_value _ c.args.input.now _ _ _ within.parts body within.grammar),
      ap length body.read.held.0,
      length-append (g.C.EscapeContainer.contents c.read_items.new.sink.into) c.read_items.new.sink.piece,
    )

pub returns : goal.returns
returns g c = λ q is.
    let body = c.in-Quote.ensures.reached in
    c.finish.ensures ∙ (body.read.held.0 ∙ whole_value _ c.args.input.now _ _ _ q body is)

pub unreachable-requires : goal.unreachable-requires
unreachable-requires g c = within_is_not_longer _ c.args.input.now _ _ _ c.requires.room c.copied.ensures.kept c.in-Full.ensures.reached.1

pub unreachable-requires-in-Refused : goal.unreachable-requires-in-Refused
unreachable-requires-in-Refused g c = none_refused _ c.args.input.now _ _ _ c.in-Refused.ensures.reached.1 c.requires.room.grammar
