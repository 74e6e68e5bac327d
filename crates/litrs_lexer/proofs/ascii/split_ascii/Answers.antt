-- An ASCII byte is a character.
use Rattle.litrs_lexer.proofs.AsciiRuns.{ascii_boundary, ascii_char}
use Rattle.litrs_lexer.proofs.ascii.split_ascii.Goals as goal

pub split_at-requires : goal.split_at-requires
split_at-requires c = ascii_boundary c.args.text.now c.as_bytes.result.now c.utf8.text c.as_bytes.ensures.value c.in-len1-up.len_at_least c.if-first-lt128.true

pub returns-in-len1-up-clause-some : goal.returns-in-len1-up-clause-some
returns-in-len1-up-clause-some c =
    ascii_char c.args.text.now c.as_bytes.result.now c.from.result c.split_at.result.1.now c.as_bytes.ensures.value c.in-len1-up.len_at_least c.if-first-lt128.true c.from.ensures c.split_at.ensures.back
