-- Plain characters alone, and what follows them.
use Rattle.std.proofs.Common.{◌<◌, ◌^◌, ◌==◌, ◌∙◌, length, sym, ap, arith, inl}
use Rattle.litrs_base.specs.Text.{first_passes}
use Rattle.litrs_lex.proofs.QuotedBytes.{quote_seen}
use Rattle.litrs_lex.proofs.QuotedValues.{plain_body, plain_of, plain_refused}
use Rattle.litrs_lex.proofs.Readings.{body_held}
use Rattle.litrs_lex.proofs.string.read_closing.Goals as goal

pub check_after_quote-requires : goal.check_after_quote-requires
check_after_quote-requires g c =
    let quote = quote_seen _ _ _ (c.as_bytes.ensures.value ∙ c.range_from-rest.ensures.value) c.begins_with_byte.ensures c.if-not-begins_with_byte.false in
    body_held _ c.args.input.now _ _ _ (plain_body _ c.args.input.now _ _ c.utf8.input c.requires.at c.requires.run quote)

pub returns : goal.returns
returns g c =
    let quote = quote_seen _ _ _ (c.as_bytes.ensures.value ∙ c.range_from-rest.ensures.value) c.begins_with_byte.ensures c.if-not-begins_with_byte.false in
    plain_of _ c.args.input.now _ _ c.utf8.input c.requires.at c.requires.run quote c.in_ok-check_after_quote.ensures.ok

pub stop_refusal-requires-clause-quote : goal.stop_refusal-requires-clause-quote
stop_refusal-requires-clause-quote g c =
    ap (first_passes (λ n. n == 34)) (sym c.as_bytes.ensures.value) ∙ (sym c.begins_with_byte.ensures ∙ c.if-not-begins_with_byte.true)

pub stop_refusal-requires-clause-slash : goal.stop_refusal-requires-clause-slash
stop_refusal-requires-clause-slash g c = ap (first_passes (λ n. n == 92)) c.range_from-rest.ensures.value ∙ c.requires.other

pub offset_span-requires : goal.offset_span-requires
offset_span-requires g c =
    let small : length c.args.input.now < 2 ^ 64 = omega arith in
    (plain_refused _ c.args.input.now _ _ _ c.stop_refusal.result c.utf8.input small c.requires.at c.requires.run c.range_from-rest.ensures.value c.stop_refusal.ensures).0

pub returns-then-not-begins_with_byte : goal.returns-then-not-begins_with_byte
returns-then-not-begins_with_byte g c =
    let small : length c.args.input.now < 2 ^ 64 = omega arith in
    inl ((plain_refused _ c.args.input.now _ _ _ c.stop_refusal.result c.utf8.input small c.requires.at c.requires.run c.range_from-rest.ensures.value c.stop_refusal.ensures).1
    c.offset_span.result c.offset_span.ensures.refusal c.offset_span.ensures.char_span)
