-- The rest is cut at the first line feed.
use Rattle.std.proofs.lemmas.Str.Pattern.{find_char}
use Rattle.std.proofs.Common.{Some, None, sym, ◌∙◌, arith}
use Rattle.litrs_prefix.proofs.Ends.{after_bytes}
use Rattle.litrs_explain.proofs.LineFeeds.{from_first, from_none}
use Rattle.litrs_explain.proofs.find.after_line.Goals as goal

pub returns-in-Some-clause-end : goal.returns-in-Some-clause-end
returns-in-Some-clause-end c = after_bytes c.args.text.now c.range_from.result.now c.in-Some.len c.range_from.ensures.value

pub returns-in-Some-clause-line : goal.returns-in-Some-clause-line
returns-in-Some-clause-line c =
    let text = c.args.text.now in
    let found = find_char 10 text (Some c.in-Some.len) c.in-Some.ensures.cases (omega arith) in
    c.range_from.ensures.value ∙ sym (from_first text c.in-Some.len found.0 found.1 found.2)

pub returns-in-None-clause-line : goal.returns-in-None-clause-line
returns-in-None-clause-line c = sym (from_none c.args.text.now (find_char 10 c.args.text.now None c.in-None.ensures.cases (omega arith)))
