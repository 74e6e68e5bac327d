-- The last byte is a character, or one step from the back takes the last character off.
use Rattle.std.proofs.Common.{rules}
use Rattle.litrs_lex.proofs.QuotedBytes.{ascii_cut, stepped_back}
use Rattle.litrs_lex.proofs.stop.without_last.Goals as goal

pub returns-then-bytes-lt128 : goal.returns-then-bytes-lt128
returns-then-bytes-lt128 c =
    ascii_cut c.args.text.now c.as_bytes-bytes.result.now c.range.result.now c.utf8.text c.range.utf8 c.as_bytes-bytes.ensures.value c.if-bytes-gt0.true c.if-bytes-lt128.true c.range.ensures.value

pub returns : goal.returns
returns c = stepped_back c.args.text.now c.as_str.result.now c.next_back.result c.utf8.text c.as_str.utf8 (search rules)
