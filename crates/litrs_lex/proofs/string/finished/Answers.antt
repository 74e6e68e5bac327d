-- All fitted into the room.
use Rattle.std.proofs.Common.{◌∙◌, ap, length, inr}
use Rattle.std.proofs.lemmas.Bool.{false≢true}
use Rattle.std.proofs.lemmas.Result.{err_from_is_err_and}
use Rattle.litrs_lex.proofs.QuotedCuts.{from_offset}
use Rattle.litrs_lex.proofs.QuotedValues.{held_is_utf8, whole_held, none_of, some_of, no_memory_of}
use Rattle.litrs_lex.proofs.Sinks.{room_of}
use Rattle.litrs_lex.proofs.string.finished.Goals as goal

pub overflow_sub-place : goal.overflow_sub-place
overflow_sub-place g c = from_offset _ c.args.input.now _ _ _ c.utf8.input c.requires.at c.requires.read.read

pub returns-then-value-place : goal.returns-then-value-place
returns-then-value-place g c =
    none_of _ c.args.input.now _ _ _ _ c.utf8.input c.requires.at c.requires.read (ap length c.requires.read.read.held) c.in_ok-check_after_quote.ensures.ok c.if-value-place.true

pub copied-requires-clause-text : goal.copied-requires-clause-text
copied-requires-clause-text g c = λ none. held_is_utf8 _ c.args.input.now _ _ _ g.C.EscapeContainer.TAKES_BYTES c.utf8.input c.requires.read.read c.requires.fits none

pub copied-requires-clause-room : goal.copied-requires-clause-room
copied-requires-clause-room g c = room_of _ _ _ c.in_ok-made.ensures.room

pub returns : goal.returns
returns g c =
    some_of _ c.args.input.now _ _ _ _ c.utf8.input c.requires.at c.requires.read (ap length c.requires.read.read.held) c.in_ok-check_after_quote.ensures.ok c.if-value-place.false _
    (λ q is. c.copied.ensures.contents ∙ whole_held _ c.args.input.now _ _ _ q c.requires.read is)

pub returns-in_err-made : goal.returns-in_err-made
returns-in_err-made g c =
    let p = err_from_is_err_and c.from_residual-in_err-made.result c.from_residual-in_err-made.ensures.1 in
    rw (p.1, p.2) (inr (no_memory_of _ c.args.input.now _ _ _ _ _ c.utf8.input c.requires.at c.requires.read (ap length c.requires.read.read.held) c.in_ok-check_after_quote.ensures.ok c.if-value-place.false
    (λ nul none. false≢true (c.in_err-made.ensures.succeeds nul none)) c.in_err-made.ensures.error))
