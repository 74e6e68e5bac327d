-- The quote is ASCII.
use Rattle.litrs_prefix.specs.Opens.{is_single_quote}
use Rattle.litrs_lexer.proofs.AsciiRuns.{quote_is_ascii, first_byte, no_first_byte}
use Rattle.litrs_lexer.proofs.name.starts_with_single_quote.Goals as goal

pub returns-in_default : goal.returns-in_default
returns-in_default c = no_first_byte is_single_quote c.args.text.now c.as_bytes.result.now c.utf8.text c.as_bytes.ensures.value c.in_default.len_below

pub returns-in-len1-up : goal.returns-in-len1-up
returns-in-len1-up c = first_byte is_single_quote quote_is_ascii c.args.text.now c.as_bytes.result.now c.utf8.text c.as_bytes.ensures.value c.in-len1-up.len_at_least
