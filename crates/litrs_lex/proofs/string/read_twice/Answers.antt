-- The rest is counted from the state on, and then put after what the room had.
use Rattle.std.proofs.Common.{◌<◌, ◌^◌, length, arith, inl, inr}
use Rattle.std.proofs.lemmas.Bool.{false≢true}
use Rattle.std.proofs.lemmas.Result.{err_from_is_err_and}
use Rattle.litrs_lex.proofs.Readings.{none_longer}
use Rattle.litrs_lex.proofs.QuotedCuts.{from_offset}
use Rattle.litrs_lex.proofs.QuotedValues.{none_of, some_of, no_memory_of, within_of}
use Rattle.litrs_lex.proofs.string.read_twice.Goals as goal

pub overflow_sub-place : goal.overflow_sub-place
overflow_sub-place g c = from_offset _ c.args.input.now _ _ _ c.utf8.input c.requires.at c.in-Quote.ensures.reached.read

pub returns-then-counted-place : goal.returns-then-counted-place
returns-then-counted-place g c =
    let body = c.in-Quote.ensures.reached in
    none_of _ c.args.input.now _ _ _ _ c.utf8.input c.requires.at body body.read.held c.in_ok-check_after_quote-in-Quote.ensures.ok c.if-counted-place.true

pub returns-in_ok-made-in-Quote : goal.returns-in_ok-made-in-Quote
returns-in_ok-made-in-Quote g c =
    let body = c.in-Quote.ensures.reached in
    some_of _ c.args.input.now _ _ _ _ c.utf8.input c.requires.at body body.read.held c.in_ok-check_after_quote-in-Quote.ensures.ok c.if-counted-place.false _ c.fill_container-filled.ensures

pub returns-in_err-made-in-Quote : goal.returns-in_err-made-in-Quote
returns-in_err-made-in-Quote g c =
    let body = c.in-Quote.ensures.reached in
    let p = err_from_is_err_and c.from_residual-in_err-made-in-Quote.result c.from_residual-in_err-made-in-Quote.ensures.1 in
    rw (p.1, p.2) (inr (no_memory_of _ c.args.input.now _ _ _ _ _ c.utf8.input c.requires.at body body.read.held c.in_ok-check_after_quote-in-Quote.ensures.ok c.if-counted-place.false
    (λ nul none. false≢true (c.in_err-made-in-Quote.ensures.succeeds nul none)) c.in_err-made-in-Quote.ensures.error))

pub returns-in-Refused : goal.returns-in-Refused
returns-in-Refused g c = inl c.in-Refused.ensures.reached.1

pub fill_container-filled-requires-clause-room : goal.fill_container-filled-requires-clause-room
fill_container-filled-requires-clause-room g c =
    let body = c.in-Quote.ensures.reached in
    within_of _ c.args.input.now _ _ _ _ _ _ c.utf8.input c.requires.at body body.read.held c.in_ok-check_after_quote-in-Quote.ensures.ok c.in_ok-made-in-Quote.ensures.room

pub unreachable-requires : goal.unreachable-requires
unreachable-requires g c = none_longer _ c.args.input.now _ (let small : length c.args.input.now < 2 ^ 64 = omega arith in small) c.in-Full.ensures.reached.1
