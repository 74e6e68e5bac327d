-- Plain characters alone, or what the loop reads.
use Rattle.std.proofs.Common.{◌≡◌, ◌==◌, [], ◌∷◌, drop, sym, ap, ◌∙◌}
use Rattle.litrs_base.specs.Text.{first_passes}
use Rattle.litrs_lex.proofs.QuotedBytes.{quote_first}
use Rattle.litrs_lex.proofs.QuotedCuts.{lone_quote_free}
use Rattle.litrs_lex.proofs.QuotedValues.{plain_of, value_read, refusal_read}
use Rattle.litrs_lex.proofs.string.unescape_string_with.Goals as goal

pub returns-then-is_lone_quote-clause-ok : goal.returns-then-is_lone_quote-clause-ok
returns-then-is_lone_quote-clause-ok g c =
    let quote : drop c.first_plain_end-place.result c.args.input.now ≡ 34 ∷ [] =
    sym c.range_from.ensures.value ∙ sym c.as_bytes-rest.ensures.value ∙ c.is_lone_quote.ensures.quote c.if-is_lone_quote.true in
    plain_of _ c.args.input.now _ _ c.utf8.input c.requires.at c.first_plain_end-place.ensures (quote_first _ [] quote) (lone_quote_free _ _ quote)

pub returns-then-begins_with_byte-clause-ok : goal.returns-then-begins_with_byte-clause-ok
returns-then-begins_with_byte-clause-ok g c = value_read g.C.EscapeContainer.contents _ c.args.input.now _ c.read_value.result c.read_value.ensures

pub returns-then-begins_with_byte-clause-refused : goal.returns-then-begins_with_byte-clause-refused
returns-then-begins_with_byte-clause-refused g c = refusal_read g.C.EscapeContainer.contents _ c.args.input.now _ c.read_value.result c.read_value.ensures

pub read_closing-requires-clause-other : goal.read_closing-requires-clause-other
read_closing-requires-clause-other g c =
    ap (first_passes (λ n. n == 92)) (sym c.range_from.ensures.value ∙ sym c.as_bytes-rest.ensures.value) ∙ (sym c.begins_with_byte.ensures ∙ c.if-begins_with_byte.false)

pub returns-else-begins_with_byte-clause-ok : goal.returns-else-begins_with_byte-clause-ok
returns-else-begins_with_byte-clause-ok g c = value_read g.C.EscapeContainer.contents _ c.args.input.now _ c.read_closing.result c.read_closing.ensures

pub returns-else-begins_with_byte-clause-refused : goal.returns-else-begins_with_byte-clause-refused
returns-else-begins_with_byte-clause-refused g c = refusal_read g.C.EscapeContainer.contents _ c.args.input.now _ c.read_closing.result c.read_closing.ensures
