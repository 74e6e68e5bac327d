-- The front, hashes and a quote, a body, and a closing.
use Rattle.litrs_prefix.proofs.Words.{sym, ◌∙◌, raw_front, IsCharBoundary-start, IsCharBoundary-from_drop}
use Rattle.litrs_prefix.proofs.PlainLiterals.{after_front, raw_at, body_starts, stop_in, closing_in}
use Rattle.litrs_prefix.proofs.Runs.{front_cut}
use Rattle.litrs_prefix.proofs.plain.after_raw.Goals as goal
use Rattle.litrs_lex.proofs.StringFronts.{raw_low}

pub range_from-body-requires : goal.range_from-body-requires
range_from-body-requires c = λ _. (front_cut _ c.args.text.now c.front_len.result (raw_low c.args.kind) c.utf8.text c.requires c.front_len.ensures.raw).0

pub open_raw-requires : goal.open_raw-requires
open_raw-requires c = IsCharBoundary-start c.range_from-body.result.now c.range_from-body.utf8

pub body_end-end-requires : goal.body_end-end-requires
body_end-end-requires c = body_starts _ _ _ c.as_bytes.ensures.value c.range_from-body.utf8 c.in-Ok.ensures.ok.boundary

pub range_from-requires : goal.range_from-requires
range_from-requires c =
    let s = stop_in c.args.kind _ _ _ _ _ _ c.switches.ensures c.as_bytes.ensures.value c.body_end-end.ensures.stop in
    λ _. IsCharBoundary-from_drop c.range_from-body.result.now c.body_end-end.result s.within s.utf8

pub range_from-requires-then-begins_with : goal.range_from-requires-then-begins_with
range_from-requires-then-begins_with c =
    let s = stop_in c.args.kind _ _ _ _ _ _ c.switches.ensures c.as_bytes.ensures.value c.body_end-end.ensures.stop in
    let closing = closing_in _ _ _ _ _ _ _ _ c.as_bytes.ensures.value s c.range_from.ensures.value c.body_end-end.ensures.closing (sym c.begins_with.ensures ∙ c.if-begins_with.true) in
    λ _. IsCharBoundary-from_drop c.range_from-body.result.now _ closing.within closing.utf8

pub returns-then-begins_with : goal.returns-then-begins_with
returns-then-begins_with c =
    let kind = c.args.kind in
    let rest = c.range_from-then-begins_with in
    let front = after_front (raw_front kind) _ _ c.front_len.result (raw_low kind) c.utf8.text c.requires c.front_len.ensures.raw c.range_from-body.ensures.value in
    let s = stop_in kind _ _ _ _ _ _ c.switches.ensures c.as_bytes.ensures.value c.body_end-end.ensures.stop in
    let closing = closing_in _ _ _ _ _ _ _ _ c.as_bytes.ensures.value s c.range_from.ensures.value c.body_end-end.ensures.closing (sym c.begins_with.ensures ∙ c.if-begins_with.true) in
    record { utf8 = rest.utf8; literal = raw_at kind _ _ c.in-Ok.hashes c.in-Ok.start c.body_end-end.result front c.in-Ok.ensures.ok s closing _ rest.ensures.value }
