-- The marks are ASCII.
use Rattle.std.proofs.Common.{◌∙◌}
use Rattle.litrs_prefix.specs.Prefix.{is_quote_or_hash}
use Rattle.litrs_lexer.proofs.AsciiRuns.{marks_are_ascii, first_byte, no_first_byte}
use Rattle.litrs_lexer.proofs.name.starts_with_quote_or_hash.Goals as goal

pub returns-in_default : goal.returns-in_default
returns-in_default c = no_first_byte is_quote_or_hash c.args.text.now c.as_bytes.result.now c.utf8.text c.as_bytes.ensures.value c.in_default.len_below

pub returns-in-len1-up : goal.returns-in-len1-up
returns-in-len1-up c = c.is_quote_or_hash.ensures ∙ first_byte is_quote_or_hash marks_are_ascii c.args.text.now c.as_bytes.result.now c.utf8.text c.as_bytes.ensures.value c.in-len1-up.len_at_least
