-- The string is the text up to the closing quote.
use Rattle.litrs_prefix.proofs.Words.{◌+◌, sym, subst, ◌∙◌}
use Rattle.litrs_prefix.specs.Words.{IsPlainString}
use Rattle.litrs_prefix.proofs.PlainStrings as strings
use Rattle.litrs_prefix.proofs.plain.plain_string.Goals as goal

pub plain_body_end-requires : goal.plain_body_end-requires
plain_body_end-requires c = strings.opening c.args.text.now c.utf8.text (sym c.begins_with.ensures ∙ c.if-not-begins_with.false)

pub split_at-requires : goal.split_at-requires
split_at-requires c = (strings.piece c.args.text.now c.in_ok-quote.quote c.utf8.text (sym c.begins_with.ensures ∙ c.if-not-begins_with.false) c.in_ok-quote.ensures.some).0

pub plain-requires : goal.plain-requires
plain-requires c =
    subst IsPlainString (sym c.split_at.ensures.front)
    (strings.piece c.args.text.now c.in_ok-quote.quote c.utf8.text (sym c.begins_with.ensures ∙ c.if-not-begins_with.false) c.in_ok-quote.ensures.some).1

pub returns-clause-found : goal.returns-clause-found
returns-clause-found c =
    let text = c.args.text.now in
    let cut = strings.piece text c.in_ok-quote.quote c.utf8.text (sym c.begins_with.ensures ∙ c.if-not-begins_with.false) c.in_ok-quote.ensures.some in
    strings.found text c.split_at.result.0.now c.split_at.result.1.now (c.in_ok-quote.quote + 1) _ c.utf8.text cut.0 c.split_at.ensures.front c.split_at.ensures.back cut.1
    c.plain.ensures.ok (c.ends_name.ensures c.if-not-ends_name.false)
