-- The quote is one byte. The refusal of the rest is moved.
use Rattle.std.proofs.Common.{◌<◌, ◌^◌, length, arith, sym}
use Rattle.litrs_lex.proofs.QuotedBytes.{quote_boundary}
use Rattle.litrs_lex.proofs.QuotedCuts.{refuses, at_quote, closed_free, closed_refused}
use Rattle.litrs_lex.proofs.quoted.check_after_quote.Goals as goal

pub range_from-requires : goal.range_from-requires
range_from-requires g c =
    let quote = at_quote _ c.args.input.now _ _ _ _ c.utf8.input c.requires c.range_from-rest.ensures.value in
    λ _. quote_boundary c.range_from-rest.result.now quote.0 quote.1

pub returns-in-Ok-clause-ok : goal.returns-in-Ok-clause-ok
returns-in-Ok-clause-ok g c =
    closed_free _ c.args.input.now _ _ _ _ _ c.utf8.input c.requires c.range_from-rest.ensures.value c.range_from.ensures.value (sym c.in-Ok.ensures.ok)

pub offset_span-requires : goal.offset_span-requires
offset_span-requires g c =
    let small : length c.args.input.now < 2 ^ 64 = omega arith in
    let told = closed_refused _ c.args.input.now _ _ _ _ _ _ c.in_text.result c.utf8.input c.requires c.range_from-rest.ensures.value c.range_from.ensures.value
    (sym c.in-Err.ensures.ok) c.in-Err.ensures.err c.in_text.ensures.refusal c.in_text.ensures.char_span in
    (refuses _ c.args.input.now _ _ _ _ c.in_text.result c.utf8.input small c.requires.read c.range_from-rest.ensures.value told).0

pub returns-in-Err-clause-refused : goal.returns-in-Err-clause-refused
returns-in-Err-clause-refused g c =
    let small : length c.args.input.now < 2 ^ 64 = omega arith in
    let told = closed_refused _ c.args.input.now _ _ _ _ _ _ c.in_text.result c.utf8.input c.requires c.range_from-rest.ensures.value c.range_from.ensures.value
    (sym c.in-Err.ensures.ok) c.in-Err.ensures.err c.in_text.ensures.refusal c.in_text.ensures.char_span in
    (refuses _ c.args.input.now _ _ _ _ c.in_text.result c.utf8.input small c.requires.read c.range_from-rest.ensures.value told).1
    c.offset_span.result c.offset_span.ensures.refusal c.offset_span.ensures.char_span
